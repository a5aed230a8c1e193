-- What a disk that fails on purpose does with its plan.
use Rattle.std.specs.Prelude.{◌≡◌, ◌+◌, ◌-◌, ◌^◌, ℕ, Bool, true, false, min}
use Rattle.disk_trait.specs.Disk.{Serves, Rose}
use Rattle.disk_trait.specs.Effects.{SameContent, KeepsFiles}
use Rattle.disk_trait.specs.FailurePlan.{fails_at}
use Rattle.disk_trait.specs.declared.disk.Disk.{Ghosts}
use Rattle.disk_trait.specs.declared.failing.Plan.{Plan}
use Rattle.disk_trait.specs.declared.failing.FailingDisk.{FailingDisk}

module _ {D : Type 0} where
  abbrev pub below : FailingDisk D → D
  below d = d.inner

  abbrev pub plan_is : FailingDisk D → Plan
  plan_is d = d.schedule.plan

  -- how many calls there were
  abbrev pub made_by : FailingDisk D → ℕ
  made_by d = d.schedule.made

  -- how many of them failed as planned
  abbrev pub own_faults : FailingDisk D → ℕ
  own_faults d = d.failed

  abbrev pub fails_next : FailingDisk D → Bool
  fails_next d = fails_at (plan_is d) (made_by d)

  -- how often it failed: as the disk below, and as planned
  abbrev pub all_faults : Ghosts D → FailingDisk D → ℕ
  all_faults d disk = min (d.faults (below disk) + own_faults disk) (2 ^ 64 - 1)

  abbrev pub honest_below : Ghosts D → FailingDisk D → Type 0
  honest_below d disk = d.honest (below disk)

  -- what a call keeps of every disk, of this one
  abbrev pub ServesOver : Ghosts D → FailingDisk D → FailingDisk D → Type 0 → Type 0
  ServesOver d old new failed = Serves (honest_below d) (all_faults d) old new failed

  -- a planned failure leaves the disk below as it read
  abbrev pub PlanKeepsContent : Ghosts D → FailingDisk D → FailingDisk D → Type 0
  PlanKeepsContent d old new = fails_next old ≡ true → SameContent d (below old) (below new)

  -- and what a crash leaves of it
  abbrev pub PlanKeepsFiles : Ghosts D → FailingDisk D → FailingDisk D → Type 0
  PlanKeepsFiles d old new = fails_next old ≡ true → KeepsFiles d (below old) (below new)

-- A planned call fails, and no other but by the disk below, which then failed.
pub record Follows {D : Type 0} (faults : D → ℕ) (old new : FailingDisk D) (failed : Type 0) : Type 0 where
  pub planned : fails_next old ≡ true → failed × (own_faults new ≡ min (own_faults old + 1) (2 ^ 64 - 1))
  pub other : fails_next old ≡ false → (failed → Rose (faults (below old)) (faults (below new))) × (own_faults new ≡ own_faults old)
  pub made : made_by new ≡ min (made_by old + 1) (2 ^ 64 - 1)
  pub plan : plan_is new ≡ plan_is old
