use Rattle.std.proofs.Common.{◌≡◌, sym, subst, ◌∙◌}
use Rattle.std.specs.Prelude.{IfOk}
use Rattle.store_model.specs.Job.{Job}
use Rattle.plain_lanes.specs.Jobs.{shown_job}
use Rattle.plain_lanes.specs.Pulls.{shown_pull}
use Rattle.plain_lanes.proofs.SyncLemmas.{refused, done}
use Rattle.plain_lanes.proofs.sync.replied.Goals as goal

pub returns-then-is_refused-clause-job : goal.returns-then-is_refused-clause-job
returns-then-is_refused-clause-job c =
    c.ended.ensures.job ∙ refused (shown_pull c.args.pull) c.args.later.items c.args.reply (sym c.is_refused.ensures ∙ c.if-is_refused.true)

pub returns-clause-job : goal.returns-clause-job
returns-clause-job c =
    let told = done (shown_pull c.args.pull) c.args.later.items c.args.reply (sym c.is_refused.ensures ∙ c.if-is_refused.false) in
    subst (λ (x : Job). IfOk c.next_command.result (λ job. shown_job job ≡ x)) told c.next_command.ensures.job
