use Rattle.std.proofs.Common.{length}
use Rattle.wire_commands.proofs.EntryLaws.{ReadsOn}
use Rattle.wire_commands.proofs.entries.whole_entries.Given as goal

abbrev pub invariant-loop-entry : goal.invariant-loop-entry
invariant-loop-entry l = ReadsOn l.entries.items l.rest l.fn.bytes

abbrev pub decreases-loop-entry : goal.decreases-loop-entry
decreases-loop-entry l = length l.rest
