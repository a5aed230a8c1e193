-- What a history tells of parts, book and collector, beside the plain store.
use Rattle.disk_trait.specs.declared.disk.Disk.{Ghosts}
use Rattle.std.specs.Prelude.{◌≡◌, ◌↔◌, ℕ, List, Option, Some, IsSome}
use Rattle.std.specs.List.{All}
use Rattle.std.specs.FinMap.{get}
use Rattle.disk_trait.specs.Files.{Files}
use Rattle.store_files.specs.Folder.{IsDigest, chunk_name}
use Rattle.store_model.specs.Store.{Store}
use Rattle.store_history.specs.LastTouches.{LastTouches, SameTouches, is_one_of, touched}
use Rattle.store_upkeep.specs.Laws.{Lists, Rising}
use Rattle.store_upkeep.specs.Safety.{IsNeeded}
use Rattle.store_history.specs.Sweeping.{Sweep, Swept, chunks, next_marks, next_taken, without}
use Rattle.core_state.specs.declared.collector.Collector.{Collector}
use Rattle.core_state.specs.declared.parts.Parts.{Parts}
use Rattle.core_state.specs.declared.upkeep.Upkeep.{Upkeep}
use Rattle.core_state.specs.Holds.{Holds}
use Rattle.core_state.specs.Sweeps.{ShowsOpen}
use Rattle.core_state.specs.Upkeeps.{touches_kept}

-- a chunk's file is there exactly where the chunk has a last touch
abbrev pub IsPresent : Files → LastTouches → Type 0
IsPresent m touches = (x : List ℕ) → IsDigest x → IsSome (get m (chunk_name x)) ↔ IsSome (touches.last x)

-- The parts stand for the store, the book for the last touches, and the collector for the sweep.
pub record StandsBeside {D : Type 0} (d : Ghosts D) (parts : Parts D) (u : Upkeep) (acts : ℕ) (c : Option Collector) (s : Store) (touches : LastTouches) (sweep : Option Sweep) : Type 0 where
  pub holds : Holds d parts s
  pub touches_are : SameTouches (touches_kept u) touches
  pub present : IsPresent (d.content parts.disk) touches
  pub shows : ShowsOpen acts parts.catalogue.listed s.snapshots c sweep

-- What holds of the chunks and the sweep of a legal history: the chunks are listed in byte order, each once; and the one that the next visit
-- takes out is not needed.
pub record IsSweepable (s : Store) (w : Swept) : Type 0 where
  pub rise : Rising (chunks w)
  pub digests : All IsDigest (chunks w)
  pub lists : Lists w.touches (chunks w)
  pub unneeded : (sweep : Sweep) (x : List ℕ) → w.sweep ≡ Some sweep → next_taken w sweep sweep.unmarked ≡ Some x → IsNeeded s x → ⊥

-- the last touches after the next mark or visit, before its entry dates what is undated
abbrev pub passed_touches : Swept → Sweep → ℕ → LastTouches
passed_touches w sweep when =
    without (next_taken w sweep sweep.unmarked) (touched (λ x. is_one_of x (next_marks sweep.unmarked)) when w.touches)
