use Rattle.std.proofs.Common.{arith}
use Rattle.std.proofs.lemmas.Grind.{common_steps}
use Rattle.port_traits.proofs.BytesLemmas.{AddsTo-more}
use Rattle.port_traits.proofs.sink.write_front.Goals as goal

pub loop-done-preserved : goal.loop-done-preserved
loop-done-preserved g c = record {
  within = grind (arith, common_steps, c.in-Ok.ensures.bound);
  added = AddsTo-more _ _ _ _ _ _ c.loop-done.invariant.added c.in-Ok.ensures.ok;
  later = omega arith;
}
