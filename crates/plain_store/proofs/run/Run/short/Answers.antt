use Rattle.std.proofs.Common.{ap, ◌∙◌}
use Rattle.store_types.specs.declared.refusal.Refusal.TheVariants.{NoMemory}
use Rattle.store_model.specs.Lanes.{Run}
use Rattle.store_model.specs.Weave.{go_on}
use Rattle.plain_lanes.specs.Jobs.{shown_job}
use Rattle.plain_lanes.specs.Nexts.{shown_next}
use Rattle.plain_store.proofs.Spelled.{refusal_spelled}
use Rattle.plain_store.proofs.JobLemmas.{fits_refused}
use Rattle.plain_store.proofs.RunLemmas.{takes_job, short_job, short_command}
use Rattle.plain_store.proofs.run.Run.short.Goals as goal

pub take-requires : goal.take-requires
take-requires c = fits_refused c.in-Job.asking NoMemory (refusal_spelled NoMemory tt)

pub tell-requires-clause-spelled : goal.tell-requires-clause-spelled
tell-requires-clause-spelled c = refusal_spelled NoMemory tt

pub tell-requires-in-Broken-clause-spelled : goal.tell-requires-in-Broken-clause-spelled
tell-requires-in-Broken-clause-spelled c = refusal_spelled NoMemory tt

pub returns-in_ok-go_on-in-Job-clause-enters : goal.returns-in_ok-go_on-in-Job-clause-enters
returns-in_ok-go_on-in-Job-clause-enters c =
    let r = c.args.self.now in
    let k = c.args.lane in
    let n = c.in_ok-asking.field-0 in
    let left = c.in-Job.left.now in
    let job = shown_job c.in_ok-job-in-Job.job in
    short_job r k c.requires.lane n c.in_ok-asking.ensures.next c.in-Job.asking left (ap shown_next c.in-Job.is) job c.go_on.new.self c.in_ok-job-in-Job.ensures.job
    (c.in_ok-go_on-in-Job.ensures.goes ∙ ap (λ (x : Run). go_on x k left job) c.in_ok-asking.ensures.left)

pub returns-in_ok-tell-in-Command-clause-enters : goal.returns-in_ok-tell-in-Command-clause-enters
returns-in_ok-tell-in-Command-clause-enters c =
    let n = c.in_ok-asking.field-0 in
    short_command c.args.self.now c.args.lane n c.in_ok-asking.ensures.next c.in-Command.ahead c.in-Command.left.now (ap shown_next c.in-Command.is) (ap takes_job c.in-Command.is)
    c.take_next.new.self c.in_ok-asking.ensures.left c.tell.new.self c.in_ok-tell-in-Command.ensures.told
