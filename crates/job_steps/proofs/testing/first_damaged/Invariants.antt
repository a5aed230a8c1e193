use Rattle.std.proofs.Common.{◌≡◌, drop, None}
use Rattle.job_steps.specs.Waits.{fault_with}
use Rattle.job_steps.proofs.testing.first_damaged.Given as goal

abbrev pub invariant-loop-one : goal.invariant-loop-one
invariant-loop-one l = fault_with None (drop l.one-index l.waiting) ≡ fault_with None l.waiting
