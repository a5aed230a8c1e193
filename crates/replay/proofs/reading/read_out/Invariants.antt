use Rattle.std.proofs.Common.{◌≡◌, ◌-◌, ◌^◌, ◌≤◌, length}
use Rattle.replay.proofs.Pieces.{HasRead}
use Rattle.replay.proofs.reading.read_out.Given as goal

abbrev pub invariant-loop-bytes : goal.invariant-loop-bytes
invariant-loop-bytes g l = record {
  read : HasRead (g.S.Source.left l.fn.source) (g.S.Source.left l.source) (length l.bytes.items) (λ all. l.bytes.items ≡ all);
  within : length l.bytes.items ≤ 2 ^ 40;
  later : g.S.Source.faults l.fn.source ≤ g.S.Source.faults l.source;
}

abbrev pub decreases-loop-bytes : goal.decreases-loop-bytes
decreases-loop-bytes g l = 2 ^ 40 - length l.bytes.items
