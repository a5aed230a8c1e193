use Rattle.std.proofs.Common.{◌≡◌, take, drop}
use Rattle.store_model.specs.PruneJob.{go_on}
use Rattle.job_steps.proofs.prune.first_to_go.Given as goal

abbrev pub invariant-loop-place : goal.invariant-loop-place
invariant-loop-place l = go_on (take l.place l.rows) (drop l.place l.rows) ≡ go_on (take l.fn.from l.rows) (drop l.fn.from l.rows)
