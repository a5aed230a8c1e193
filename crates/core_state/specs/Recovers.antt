-- What a crash leaves of the core's disk, in the course of a history.
use Rattle.std.specs.Prelude.{◌<◌, ◌≤◌, ◌-◌, ◌^◌, ℕ, List}
use Rattle.disk_trait.specs.Files.{Files}
use Rattle.disk_trait.specs.declared.disk.Disk.{Ghosts}
use Rattle.store_files.specs.Archive.{Snapshot}
use Rattle.store_model.specs.Stands.{StandsFor as Stands}
use Rattle.store_history.specs.CrashPoints.{Reopens}
use Rattle.store_history.specs.History.{opened}
use Rattle.core_state.specs.declared.state.Core.{Core}
use Rattle.core_state.specs.History.{History}

-- each image is of an honest disk, and of no moment to come
abbrev pub TellsMoments : {D : Type 0} → Ghosts D → Type 0
TellsMoments {D} d = (x : D) (t : ℕ) (c : Files) → d.images x t c → d.honest x × (t ≤ d.calls x) × (t < 2 ^ 64 - 1)

-- Each image since this moment, which is not behind the opening's last, stands for what the history gives by then.
pub record Recovers {D E C : Type 0} (d : Ghosts D) (start : ℕ) (core : Core D E C) (h : History) : Type 0 where
  pub begun : start ≤ (h.opening).calls
  pub each : (t : ℕ) (c : Files) → start ≤ t → d.images (core.parts).disk t c
      → (found : List Snapshot) × Stands c found × Reopens h.remote (opened h.opening) h.events t found
