use Rattle.std.proofs.Common.{◌≡◌, ◌-◌, ◌^◌, ◌≤◌}
use Rattle.std.specs.Prelude.{slice_get}
use Rattle.replay.proofs.Pieces.{HasRead}
use Rattle.replay.proofs.reading.byte_at.Given as goal

abbrev pub invariant-loop-count : goal.invariant-loop-count
invariant-loop-count g l = record {
  read : HasRead (g.S.Source.left l.fn.source) (g.S.Source.left l.source) l.taken (λ all. l.found ≡ slice_get all l.place);
  within : l.taken ≤ 2 ^ 40;
  later : g.S.Source.faults l.fn.source ≤ g.S.Source.faults l.source;
}

abbrev pub decreases-loop-count : goal.decreases-loop-count
decreases-loop-count g l = 2 ^ 40 - l.taken
