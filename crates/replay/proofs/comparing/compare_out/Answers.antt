use Rattle.std.proofs.Common.{arith}
use Rattle.std.proofs.lemmas.Grind.{common_steps}
use Rattle.replay.proofs.Pieces.{read_more}
use Rattle.replay.proofs.Steps.{goes_on}
use Rattle.replay.proofs.comparing.compare_out.Goals as goal

pub loop-count-preserved : goal.loop-count-preserved
loop-count-preserved g c = record {
  read = read_more _ _ _ c.loop-count.taken c.in_ok-count.count c.read_piece.new.piece _ _ c.loop-count.invariant.read c.in_ok-count.ensures.bytes
      (λ all holds size. goes_on c.loop-count.comparing c.take_all.new.self c.args.frees.now c.args.lane c.args.replayed.now _ c.read_piece.new.piece c.in_ok-count.count all
      c.take_all.ensures (grind (arith, common_steps)) holds);
  within = omega (arith, c.in_ok-count.ensures.bytes.within);
  later = omega (arith, c.loop-count.invariant.later, c.in_ok-count.ensures.cause.later);
}
