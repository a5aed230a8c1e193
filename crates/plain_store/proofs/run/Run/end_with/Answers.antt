use Rattle.std.proofs.Common.{◌∙◌, [], ap, sym}
use Rattle.store_model.specs.Weave.{tell}
use Rattle.plain_store.proofs.RunLemmas.{told_at_end, untold_at_end}
use Rattle.plain_store.proofs.run.Run.end_with.Goals as goal

pub returns-clause-ended : goal.returns-clause-ended
returns-clause-ended c =
    c.in_ok-tell.ensures.told ∙ ap (λ r. tell r c.args.lane [] c.args.reply) c.end_session.ensures.ended
    ∙ sym (told_at_end c.args.self.now c.args.lane c.args.ending c.args.reply (sym c.is_replied.ensures ∙ c.if-not-is_replied.false))

pub returns-then-not-is_replied-clause-ended : goal.returns-then-not-is_replied-clause-ended
returns-then-not-is_replied-clause-ended c =
    c.end_session.ensures.ended ∙ sym (untold_at_end c.args.self.now c.args.lane c.args.ending c.args.reply (sym c.is_replied.ensures ∙ c.if-not-is_replied.true))
