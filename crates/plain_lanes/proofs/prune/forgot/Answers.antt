use Rattle.std.proofs.Common.{◌≡◌, ◌∷◌, [], ◌++◌, sym, ap, subst, ◌∙◌}
use Rattle.std.specs.Prelude.{IfOk}
use Rattle.store_model.specs.Job.{Job}
use Rattle.store_model.specs.PruneJob.{row, go_on}
use Rattle.plain_lanes.specs.Jobs.{shown_job}
use Rattle.plain_lanes.proofs.PruneLemmas.{forgot_over, forgot_marked}
use Rattle.plain_lanes.proofs.prune.forgot.Goals as goal

pub returns-in_default-clause-job : goal.returns-in_default-clause-job
returns-in_default-clause-job c = sym (forgot_over c.args.before.items c.args.snapshot c.args.later.items c.args.reply (sym c.mark_of.ensures ∙ c.in_default.is))

pub returns-clause-job : goal.returns-clause-job
returns-clause-job c =
    let before = c.args.before.items in
    let later = c.args.later.items in
    let mark = c.in-Some.mark in
    let pushed : c.push.new.self.items ≡ before ++ row mark c.args.snapshot ∷ [] = c.in_ok-push.ensures.items in
    subst (λ (x : Job). IfOk c.go_on.result (λ job. shown_job job ≡ x))
    (ap (λ b. go_on b later) pushed ∙ sym (forgot_marked before c.args.snapshot later c.args.reply mark (sym c.mark_of.ensures ∙ c.in-Some.is)))
    c.go_on.ensures.job
