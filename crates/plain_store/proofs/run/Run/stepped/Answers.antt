use Rattle.std.proofs.Common.{◌≡◌, ap, ◌∙◌}
use Rattle.std.specs.Prelude.{option_map}
use Rattle.store_model.specs.Job.{step_of}
use Rattle.store_model.specs.JobSteps.{step_outcome}
use Rattle.store_model.specs.Lanes.{Run}
use Rattle.store_model.specs.Steps.{answered}
use Rattle.store_model.specs.Weave.{with_store, stepped}
use Rattle.plain_lanes.specs.Jobs.{shown_job}
use Rattle.plain_lanes.specs.Nexts.{shown_ahead, shown_next}
use Rattle.plain_store.proofs.RunLemmas.{takes_job, job_stepped, entered_by}
use Rattle.plain_store.proofs.run.Run.stepped.Goals as goal

pub returns-in_ok-go_on-in-Job-clause-enters : goal.returns-in_ok-go_on-in-Job-clause-enters
unfolding with_store
returns-in_ok-go_on-in-Job-clause-enters c =
    let r = c.args.self.now in
    let k = c.args.lane in
    let moment = c.args.moment in
    let n = c.in_ok-next.next in
    let a = c.in-Job.asking in
    let left = c.in-Job.left.now in
    let inside = c.self.inside in
    let s = c.do_step.new.self in
    let told : Run = record { store = s; remote = option_map (λ p. p.now.snapshots) inside.remote; lanes = inside.lanes.items; collecting = inside.collecting; fault = inside.fault } in
    let before = c.self.view_is ∙ c.in_ok-next.ensures.left in
    let stored : inside.store ≡ r.store = ap (λ (x : Run). x.store) before in
    let done = c.in-Ok.ensures.step ∙ ap (λ x. answered x (step_outcome x k moment (step_of a))) stored in
    job_stepped r k c.requires.lane n c.in_ok-next.ensures.next moment a left (ap shown_next c.in-Job.is) s c.in-Ok.reply (shown_job c.in_ok-job-in-Job.job)
    told c.go_on.new.self done c.in_ok-job-in-Job.ensures.job (ap (λ (x : Run). with_store x s) before) c.in_ok-go_on-in-Job.ensures.goes

pub returns-in-Command-clause-enters : goal.returns-in-Command-clause-enters
returns-in-Command-clause-enters c =
    let r = c.args.self.now in
    let k = c.args.lane in
    let moment = c.args.moment in
    let n = c.in_ok-next.next in
    let a = c.in-Command.ahead in
    let left = c.in-Command.left.now in
    entered_by r k n c.in_ok-next.ensures.next (shown_ahead a left) (ap shown_next c.in-Command.is) (ap takes_job c.in-Command.is) c.take_next.new.self c.in_ok-next.ensures.left
    (λ x m. stepped x k moment m) c.begin_command.new.self c.begin_command.result c.begin_command.ensures.enters
