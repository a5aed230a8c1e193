use Rattle.std.proofs.Common.{◌≡◌, ℕ, ◌-◌, ◌^◌, ◌≤◌, List, ◌++◌}
use Rattle.replay.specs.Compare.{differs_from}
use Rattle.replay.specs.Comparing.{outcome}
use Rattle.replay.proofs.Pieces.{HasRead}
use Rattle.replay.proofs.comparing.compare_out.Given as goal

abbrev pub invariant-loop-count : goal.invariant-loop-count
invariant-loop-count g l = record {
  read : HasRead (g.S.Source.left l.fn.source) (g.S.Source.left l.source) l.taken
      (λ all. (kept : List ℕ) → outcome l.comparing kept ≡ differs_from l.fn.frees l.fn.lane 0 l.fn.replayed (all ++ kept));
  within : l.taken ≤ 2 ^ 40;
  later : g.S.Source.faults l.fn.source ≤ g.S.Source.faults l.source;
}

abbrev pub decreases-loop-count : goal.decreases-loop-count
decreases-loop-count g l = 2 ^ 40 - l.taken
