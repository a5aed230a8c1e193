use Rattle.std.proofs.Common.{◌≡◌, ◌++◌, take}
use Rattle.dynamic_index.specs.Entries.{spelled}
use Rattle.dynamic_index.proofs.writer.push_all.Given as goal

abbrev pub invariant-loop-entry : goal.invariant-loop-entry
invariant-loop-entry l = l.text.items ≡ l.fn.text.items ++ spelled (take l.entry-index l.entries)
