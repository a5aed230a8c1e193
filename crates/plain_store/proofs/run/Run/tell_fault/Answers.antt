use Rattle.std.proofs.Common.{◌≡◌, ap, subst}
use Rattle.std.specs.Prelude.{OnOk}
use Rattle.store_model.specs.Lanes.{Run}
use Rattle.store_model.specs.Weave.{go_on}
use Rattle.plain_lanes.specs.Jobs.{shown_job}
use Rattle.plain_lanes.specs.Nexts.{shown_next}
use Rattle.plain_store.proofs.Spelled.{refusal_spelled}
use Rattle.plain_store.proofs.JobLemmas.{fits_refused}
use Rattle.plain_store.proofs.RunLemmas.{takes_job, fault_of_job, fault_of_command}
use Rattle.plain_store.proofs.run.Run.tell_fault.Goals as goal

pub take-requires : goal.take-requires
take-requires c = fits_refused c.in-Job.asking c.args.refusal (refusal_spelled c.args.refusal c.requires.fits)

pub returns-in_ok-job-in-Job-clause-told : goal.returns-in_ok-job-in-Job-clause-told
returns-in_ok-job-in-Job-clause-told c =
    let r = c.args.self.now in
    let k = c.args.lane in
    let n = c.in_ok-next.next in
    let left = c.in-Job.left.now in
    let job = shown_job c.in_ok-job-in-Job.job in
    let after = go_on c.take_next.new.self k left job in
    let told =
    fault_of_job r k c.requires.lane n c.in_ok-next.ensures.next c.in-Job.asking left (ap shown_next c.in-Job.is) job after c.args.refusal c.in_ok-job-in-Job.ensures.job
    (ap (λ (x : Run). go_on x k left job) c.in_ok-next.ensures.left) in
    subst (λ (x : Run). OnOk c.go_on.result (c.go_on.new.self ≡ x)) told c.go_on.ensures.goes

pub returns-in-Command-clause-told : goal.returns-in-Command-clause-told
returns-in-Command-clause-told c =
    let n = c.in_ok-next.next in
    let told =
    fault_of_command c.args.self.now c.args.lane n c.in_ok-next.ensures.next c.in-Command.ahead c.in-Command.left.now (ap shown_next c.in-Command.is) (ap takes_job c.in-Command.is)
    c.take_next.new.self c.in_ok-next.ensures.left c.args.refusal in
    subst (λ (x : Run). OnOk c.tell.result (c.tell.new.self ≡ x)) told c.tell.ensures.told
