use Rattle.std.proofs.Common.{◌∙◌, arith}
use Rattle.std.proofs.lemmas.Grind.{common_steps}
use Rattle.replay.proofs.Pieces.{found_on, read_more}
use Rattle.replay.proofs.reading.byte_at.Goals as goal

pub loop-count-preserved : goal.loop-count-preserved
loop-count-preserved g c = record {
  read = read_more _ _ _ c.loop-count.taken c.in_ok-count.count c.read_piece.new.piece _ _ c.loop-count.invariant.read c.in_ok-count.ensures.bytes
      (λ all holds size. c.with_byte-found.ensures ∙ found_on c.loop-count.found c.args.place c.loop-count.taken all _ c.read_piece.new.piece c.in_ok-count.count size holds
      (grind (arith, common_steps)));
  within = omega (arith, c.in_ok-count.ensures.bytes.within);
  later = omega (arith, c.loop-count.invariant.later, c.in_ok-count.ensures.cause.later);
}
