-- When what the core keeps of chunks is that of a history.
use Rattle.disk_trait.specs.declared.disk.Disk.{Ghosts}
use Rattle.std.specs.Prelude.{◌≡◌, ◌↔◌, ℕ, List, length, None, IsSome}
use Rattle.std.specs.FinMap.{get}
use Rattle.store_files.specs.Folder.{IsDigest, chunk_name}
use Rattle.store_history.specs.History.{opened}
use Rattle.store_history.specs.LastTouches.{LastTouches, SameTouches}
use Rattle.store_history.specs.Sweeping.{IsSwept, Swept, swept, swept_at}
use Rattle.core_state.specs.declared.state.Core.{Core}
use Rattle.core_state.specs.History.{History, world}
use Rattle.core_state.specs.Numbers.{AreNumbered}
use Rattle.core_state.specs.Sweeps.{ShowsOpen}
use Rattle.core_state.specs.Upkeeps.{touches_kept}

-- the chunks and the sweep after the history
abbrev pub swept_of : History → Swept
swept_of h = swept h.remote h.opening h.events

-- the last touches after it
abbrev pub touches_of_history : History → LastTouches
touches_of_history h = (swept_of h).touches

-- The core's book has the last touch of each chunk that is there, and of no other. Until the disk failed, these are the chunk files. The
-- plan of the open collector is the history's sweep.
pub record KeepsTouches {D E C : Type 0} (d : Ghosts D) (core : Core D E C) (h : History) : Type 0 where
  pub touches : SameTouches (touches_kept core.upkeep) (touches_of_history h)
  pub present : core.fault ≡ None → (x : List ℕ) → IsDigest x
      → IsSome (get (d.content (core.parts).disk) (chunk_name x)) ↔ IsSome ((touches_of_history h).last x)
  pub sweep : ShowsOpen (length (core.journal).entries.items) (core.parts).catalogue.listed (world h).store.snapshots core.collector (swept_of h).sweep
  -- its collectors end where their sweeps are over, or memory was wanting, and report what their sweeps did
  pub is_swept : IsSwept h.remote (opened h.opening) (swept_at h.opening) h.events
  -- no two snapshots of the catalogue have one number
  pub numbers : AreNumbered (length (core.journal).entries.items) (core.parts).catalogue.listed
