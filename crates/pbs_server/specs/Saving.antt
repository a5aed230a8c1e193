-- The book of touches as it is saved at a run's end.
use Rattle.disk_trait.specs.declared.disk.Disk.{Ghosts}
use Rattle.disk_trait.specs.declared.disk.DiskError.{DiskError}
use Rattle.disk_trait.specs.declared.disk.DiskError.TheVariants.{Failed}
use Rattle.disk_trait.specs.Disk.{Serves}
use Rattle.disk_trait.specs.Effects.{DiskWantKeeps}
use Rattle.std.specs.Prelude.{◌≡◌, ◌≢◌, ◌≤◌, ℕ, List, Option, None, Some, Result, Ok, Err, IfSome, OnOk}
use Rattle.std.specs.FinMap.{get}
use Rattle.core_state.specs.declared.state.Core.{Core}
use Rattle.store_history.specs.Foreign.{IsForeign}
use Rattle.core_state.specs.Saving.{HasSaved, KeepsRest, LeavesBook, SavesBook}

-- what the saving came to
abbrev pub saving_of : Option DiskError → Result (Unit {0}) DiskError
saving_of None = Ok tt
saving_of (Some e) = Err e

-- Unless the disk had failed the save was tried, and this is what it came to; else nothing has changed. All but the disk is as before, and an
-- honest disk that did not fail keeps what stands at names that are none of the store's.
pub record EndsSaved {D E C : Type 0} (d : Ghosts D) (old new : Core D E C) (not_saved : Option DiskError) : Type 0 where
  pub rest : KeepsRest old new
  pub halted : IfSome old.fault (λ _. (new ≡ old) × (not_saved ≡ None))
  pub serves : Serves d.honest d.faults (old.parts).disk (new.parts).disk (not_saved ≡ Some Failed)
  pub later : d.calls (old.parts).disk ≤ d.calls (new.parts).disk
  -- the book was installed: a crash leaves the one that was there before, or this one
  pub crash : LeavesBook d old new
  pub wanting : DiskWantKeeps d (old.parts).disk (new.parts).disk (saving_of not_saved)
  pub saved : old.fault ≡ None → OnOk (saving_of not_saved) (HasSaved d old new)
  pub foreign : d.honest (old.parts).disk → not_saved ≢ Some Failed → (q : List ℕ) → IsForeign q
      → get (d.content (new.parts).disk) q ≡ get (d.content (old.parts).disk) q
  pub history : SavesBook d old new (saving_of not_saved)
