-- The count of the disk's calls.
use Rattle.std.proofs.Common.{◌≤◌, ⊎_elim, ap, arith}
use Rattle.disk_trait.specs.Effects.{LeavesBy}
use Rattle.disk_trait.specs.Files.{Files}
use Rattle.disk_trait.specs.declared.disk.Disk.{Ghosts}

-- it doesn't fall
pub later : {D : Type 0} (d : Ghosts D) (old new : D) (step : Files → Files → Type 0) → LeavesBy d old new step → d.calls old ≤ d.calls new
later d old new step leaves = ⊎_elim (λ same. let e = ap d.calls same in omega (arith, e)) (λ steps. steps.later) leaves
