use Rattle.std.proofs.Common.{sym, subst}
use Rattle.std.proofs.lemmas.List.Elements.{All-push}
use Rattle.core_laws.specs.Playing.{ArePlayable, IsPlayable}
use Rattle.core_tests.proofs.acts.acts_of.Goals as goal

pub loop-row-preserved : goal.loop-row-preserved
loop-row-preserved g c = record {
  playable = subst ArePlayable (sym c.in_ok-push.ensures.items) (All-push IsPlayable c.loop-row.acts.items c.asked.result c.loop-row.invariant.playable c.asked.ensures);
}
