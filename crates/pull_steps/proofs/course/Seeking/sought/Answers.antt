use Rattle.std.proofs.Common.{ap, ◌∙◌, rules}
use Rattle.std.specs.Prelude.{filter}
use Rattle.std.proofs.lemmas.Fn.{filter_same}
use Rattle.store_history.specs.Pulling.{is_key}
use Rattle.pull_steps.proofs.Chosen.{kept_short, sought_keys}
use Rattle.pull_steps.proofs.course.Seeking.sought.Goals as goal

pub returns-clause-job : goal.returns-clause-job
returns-clause-job c =
    let kept = filter_same _ is_key _ (λ x b f h. search rules) _ _ c.retain.ensures.filtered in
    sought_keys c.args.self.group c.args.reply c.in-Keys.snapshots c.retain.new.self.items c.in-Keys.is (kept ∙ ap (filter is_key) c.into_vec-remote.ensures)

pub returns-clause-text : goal.returns-clause-text
returns-clause-text c =
    let kept = filter_same _ is_key _ (λ x b f h. search rules) _ _ c.retain.ensures.filtered in
    kept_short c.into_vec-remote.result.items c.retain.new.self.items kept
