use Rattle.std.proofs.Common.{◌≡◌, ◌++◌, take}
use Rattle.atime_book.specs.Parts.{touches_of}
use Rattle.atime_book.specs.Touches.{HaveDigests, touches_text}
use Rattle.atime_book.proofs.push_part.Given as goal

abbrev pub invariant-loop-touched : goal.invariant-loop-touched
invariant-loop-touched l = record {
  text : l.text.items ≡ l.fn.text.items ++ touches_text (take l.touched-index l.part);
  digests : HaveDigests (touches_of (take l.touched-index l.part));
}
