use Rattle.std.proofs.Common.{◌≡◌, ◌++◌, take}
use Rattle.atime_book.specs.Parts.{joined, touches_of}
use Rattle.atime_book.specs.Touches.{HaveDigests, touches_text}
use Rattle.atime_book.proofs.push_touches.Given as goal

abbrev pub invariant-loop-part : goal.invariant-loop-part
invariant-loop-part l = record {
  text : l.text.items ≡ l.fn.text.items ++ touches_text (joined (take l.part-index l.parts));
  digests : HaveDigests (touches_of (joined (take l.part-index l.parts)));
}
