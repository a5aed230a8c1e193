use Rattle.std.proofs.Common.{◌≡◌, length, subst, arith}
use Rattle.std.specs.Prelude.{IfOk}
use Rattle.store_model.specs.Job.{Job}
use Rattle.plain_lanes.specs.Jobs.{shown_job}
use Rattle.plain_lanes.specs.Visits.{shown_visit}
use Rattle.plain_lanes.proofs.VerifyLemmas.{no_chunk, a_chunk}
use Rattle.plain_lanes.proofs.verify.next_chunk.Goals as goal

pub returns-in_default-clause-job : goal.returns-in_default-clause-job
returns-in_default-clause-job c =
    let pieces = c.args.pieces.items in
    let empty : length pieces ≡ 0 = omega (arith, (rw c.in_default.is at c.pop_front.ensures.cases)) in
    subst (λ (x : Job). IfOk c.file_done.result (λ job. shown_job job ≡ x)) (no_chunk (shown_visit c.args.visit) c.args.row c.args.fault c.args.place pieces empty) c.file_done.ensures.job

pub returns-clause-job : goal.returns-clause-job
returns-clause-job c = a_chunk (shown_visit c.args.visit) c.args.row c.args.fault c.args.place c.args.pieces.items c.pop_front.new.self.items c.in-Some.piece c.in-Some.ensures.items
