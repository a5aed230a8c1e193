use Rattle.std.proofs.Common.{◌≡◌, drop}
use Rattle.pull_steps.specs.Entries.{chunk_from}
use Rattle.pull_steps.proofs.stages.Sending.next_entry.Given as goal

abbrev pub invariant-loop-place : goal.invariant-loop-place
invariant-loop-place l = chunk_from l.self (drop l.place l.self.index.entries.items) ≡ chunk_from l.self (drop l.fn.from l.self.index.entries.items)
