use Rattle.std.proofs.Common.{◌≡◌, ◌≤◌, vec_capacity, vec_len}
use Rattle.job_steps.proofs.handed.Handed.new.Given as goal

abbrev pub invariant-loop : goal.invariant-loop
invariant-loop l = (32 ≤ vec_capacity l.rooms) × (vec_len l.rooms ≡ l.counter) × (l.end ≤ 32) × (l.parts ≡ l.initial.parts)
