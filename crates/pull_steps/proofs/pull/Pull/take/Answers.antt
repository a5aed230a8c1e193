use Rattle.std.proofs.Common.{sym, ap, subst, ◌∙◌}
use Rattle.store_history.specs.Pulling.{SyncJob, take_more}
use Rattle.pull_steps.specs.States.{EndsInText, pull_in}
use Rattle.pull_steps.specs.Taken.{IsReadOf, IsReplyTo}
use Rattle.pull_steps.proofs.pull.Pull.take.Goals as goal

pub take-requires-clause-reply : goal.take-requires-clause-reply
take-requires-clause-reply c =
    let before = ap pull_in c.replace-state.ensures.value ∙ c.self.view_is in
    subst (λ (j : SyncJob). IsReplyTo j c.args.reply) (sym before) c.requires

pub take-requires-clause-texts : goal.take-requires-clause-texts
take-requires-clause-texts c = subst EndsInText (sym (ap pull_in c.replace-state.ensures.value)) c.self.invariant

pub returns-in-Ok-clause-ok : goal.returns-in-Ok-clause-ok
returns-in-Ok-clause-ok c =
    let before = ap pull_in c.replace-state.ensures.value ∙ c.self.view_is in
    ap pull_in c.put.ensures ∙ c.in-Ok.ensures.ok ∙ ap (λ (j : SyncJob). take_more j c.args.reply) before

pub returns-in-Err-clause-err : goal.returns-in-Err-clause-err
returns-in-Err-clause-err c =
    let before = ap pull_in c.replace-state.ensures.value ∙ c.self.view_is in
    (ap pull_in c.put-in-Err.ensures ∙ c.in-Err.ensures.err.0 ∙ before, subst (λ (j : SyncJob). IsReadOf j c.args.reply) before c.in-Err.ensures.err.1)
