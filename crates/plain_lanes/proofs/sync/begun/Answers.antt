use Rattle.std.proofs.Common.{◌≡◌, sym, ap, subst, ◌∙◌}
use Rattle.std.specs.Prelude.{IfOk}
use Rattle.store_model.specs.Job.{Job}
use Rattle.store_model.specs.SyncJob.{next_command}
use Rattle.plain_lanes.specs.Jobs.{shown_job}
use Rattle.plain_lanes.specs.Pulls.{shown_pull}
use Rattle.plain_lanes.proofs.SyncLemmas.{begins, begins_not}
use Rattle.plain_lanes.proofs.sync.begun.Goals as goal

pub returns-then-not-is_base-clause-job : goal.returns-then-not-is_base-clause-job
returns-then-not-is_base-clause-job c = begins_not (shown_pull c.args.pull) c.args.reply (sym c.is_base.ensures ∙ c.if-not-is_base.true)

pub returns-clause-job : goal.returns-clause-job
returns-clause-job c =
    let p = shown_pull c.args.pull in
    let told = ap (next_command p) c.in_ok-commands.ensures ∙ begins p c.args.reply (sym c.is_base.ensures ∙ c.if-not-is_base.false) in
    subst (λ (x : Job). IfOk c.next_command.result (λ job. shown_job job ≡ x)) told c.next_command.ensures.job
