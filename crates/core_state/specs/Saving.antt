-- What saving the book of touches leaves.
use Rattle.disk_trait.specs.declared.disk.Disk.{Ghosts}
use Rattle.disk_trait.specs.declared.disk.DiskError.{DiskError}
use Rattle.disk_trait.specs.declared.disk.DiskError.TheVariants.{Failed}
use Rattle.disk_trait.specs.Disk.{Serves}
use Rattle.disk_trait.specs.Effects.{LeavesBy}
use Rattle.std.specs.Prelude.{◌≡◌, ℕ, List, Option, None, Result, IsErrOf, OnOk}
use Rattle.file_install.specs.Install.{Installs, installed}
use Rattle.port_traits.specs.Readings.{Readings}
use Rattle.store_files.specs.Book.{FitsBook, book_text}
use Rattle.atime_book.specs.Touches.{as_of}
use Rattle.store_history.specs.Saved.{HoldsBook, book_name}
use Rattle.core_state.specs.declared.state.Core.{Core}
use Rattle.core_state.specs.History.{History, StandsFor}
use Rattle.core_state.specs.KeepsTouches.{KeepsTouches, touches_of_history}
use Rattle.core_state.specs.Recovers.{Recovers}

-- all but the disk is as before
abbrev pub KeepsRest : {D E C : Type 0} → Core D E C → Core D E C → Type 0
KeepsRest old new = new ≡ record old { parts = record (old.parts) { disk = (new.parts).disk } }

-- the book's file as of the core's last moment
abbrev pub text_of_book : {D E C : Type 0} → Core D E C → List ℕ
text_of_book core = book_text (as_of core.last (core.upkeep).book)

-- the disk serves, and fails where the call does
abbrev pub SavesOrFails : {D E C : Type 0} → Ghosts D → Core D E C → Core D E C → Result (Unit {0}) DiskError → Type 0
SavesOrFails d old new result = Serves d.honest d.faults (old.parts).disk (new.parts).disk (IsErrOf result Failed)

abbrev pub LeavesBook : {D E C : Type 0} → Ghosts D → Core D E C → Core D E C → Type 0
LeavesBook d old new = LeavesBy d (old.parts).disk (new.parts).disk (Installs (d.content (old.parts).disk) book_name (text_of_book old))

-- an honest disk reads with the book, which is one
pub record HasSaved {D E C : Type 0} (d : Ghosts D) (old new : Core D E C) : Type 0 where
  pub content : d.honest (old.parts).disk → d.content (new.parts).disk ≡ installed (d.content (old.parts).disk) book_name (text_of_book old)
  pub fits : FitsBook (as_of old.last (old.upkeep).book)

-- Unless the disk failed the core stands for each history that it stood for, and its book is that of the history; at Ok, where no fault was
-- before, the folder has it. What a crash leaves stands for what it stood for, at a fault too.
pub record SavesBook {D E C : Type 0} (d : Ghosts D) (old new : Core D E C) (result : Result (Unit {0}) DiskError) : Type 0 where
  pub stands : (readings : C → Option Readings) → (IsErrOf result Failed → ⊥) → (h : History) → StandsFor d readings old h → StandsFor d readings new h
  pub touches : (readings : C → Option Readings) → (IsErrOf result Failed → ⊥) → (h : History) → StandsFor d readings old h → KeepsTouches d old h → KeepsTouches d new h
  pub holds : (readings : C → Option Readings) (h : History) → old.fault ≡ None → StandsFor d readings old h → KeepsTouches d old h
      → OnOk result (HoldsBook (d.content (new.parts).disk) old.last (touches_of_history h))
  pub recovers : (readings : C → Option Readings) (start : ℕ) (h : History) → StandsFor d readings old h → Recovers d start old h → Recovers d start new h
