use Rattle.std.proofs.Common.{take}
use Rattle.core_writer.specs.Touching.{TouchesNamed}
use Rattle.core_writer.proofs.touching.touch_all.Given as goal

abbrev pub invariant-loop-entry : goal.invariant-loop-entry
invariant-loop-entry l = TouchesNamed l.fn.book l.book (take l.entry-index l.entries) l.moment
