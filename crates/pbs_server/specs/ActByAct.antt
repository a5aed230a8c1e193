-- What the acts of a run did, one after another, to the disk and to the last touches of its chunks: on any disk, but for what is said of an
-- honest one.
use Rattle.disk_trait.specs.declared.disk.Disk.{Ghosts}
use Rattle.disk_trait.specs.Disk.{Serves}
use Rattle.disk_trait.specs.Effects.{SameContent}
use Rattle.disk_trait.specs.Files.{Files}
use Rattle.std.specs.Prelude.{◌≡◌, ◌⊎◌, ℕ, Bool, true, false, ◌||◌, ◌==◌, List, [], ◌∷◌, Some}
use Rattle.store_types.specs.declared.names.Digest32.{Digest32}
use Rattle.store_types.specs.declared.order.TheConstants.{PART_KIND, FAULT_KIND}
use Rattle.store_types.specs.declared.refusal.Refusal.TheVariants.{DiskFault}
use Rattle.store_files.specs.Book.{Book, book_text}
use Rattle.store_files.specs.Folder.{chunk_name}
use Rattle.wire_commands.specs.declared.reply.Reply.TheVariants.{Refused}
use Rattle.atime_book.specs.Touches.{last_of}
use Rattle.store_history.specs.declared.act.Event.{Event}
use Rattle.store_history.specs.History.{kind, moment, reply}
use Rattle.store_history.specs.LastTouches.{LastTouches, SameTouches, dated, touches_after}
use Rattle.store_history.specs.Saved.{book_name}
use Rattle.core_state.specs.declared.upkeep.Upkeep.{Upkeep}
use Rattle.core_state.specs.Changes.{Change, LeavesChange, after, by_reply, change_of, drops, installs, stays}
use Rattle.core_state.specs.Commands.{calls_no_disk, is_step, reads_only}
use Rattle.core_state.specs.Kept.{KeptAt}
use Rattle.core_state.specs.Passes.{PassDates}
use Rattle.core_state.specs.Upkeeps.{touches_kept}
use Rattle.core_opening.specs.Opening.{IsBookOf}

-- ---- the change of an act

-- one chunk's file is gone
abbrev pub TakesOne : Change → Type 0
TakesOne change = (x : Digest32) × (change ≡ drops (chunk_name x.0 ∷ []))

-- the book of this moment, with these last touches, is saved
abbrev pub SavesTouches : ℕ → LastTouches → Change → Type 0
SavesTouches when touches change =
    (book : Book) × (book.moment ≡ when) × ((x : List ℕ) → last_of book x ≡ touches.last x) × (change ≡ installs book_name (book_text book))

-- By what was kept as the act began; a refused act changes nothing. A mark or a visit takes one chunk out at most, and the end of a collector
-- saves the book.
abbrev pub IsChange : Event → LastTouches → Change → Type 0
IsChange v touches change =
    ((is_step v.act ≡ false) × ((k : KeptAt) × (change ≡ by_reply (change_of v.act k) (reply v))))
    ⊎ ((is_step v.act ≡ true) × ((change ≡ stays) ⊎ (TakesOne change ⊎ SavesTouches (moment v) touches change)))

-- ---- one act

-- what it touched: of a mark, some chunks; of a visit, the chunk that was taken out has no touch any more
pub record ActTouches (v : Event) (change : Change) (before now : LastTouches) : Type 0 where
  pub plainly : is_step v.act ≡ false → SameTouches now (touches_after before v)
  pub passes : is_step v.act ≡ true → kind v ≡ PART_KIND → PassDates change before now (moment v)
  pub untouched : is_step v.act ≡ true → (kind v ≡ PART_KIND → ⊥) → SameTouches now (dated (moment v) before)

-- It found a disk that had failed or not.
pub record ActLeaves {D : Type 0} (d : Ghosts D) (failed : Bool) (old : D) (before : LastTouches) (v : Event) (new : D) (now : LastTouches) : Type 0 where
  -- the number beside its entry is the disk's count of calls as it was answered
  pub calls_are : v.calls ≡ d.calls new
  -- its count of faults rose where the act met the first fault
  pub serves : Serves d.honest d.faults old new ((failed ≡ false) × (kind v ≡ FAULT_KIND))
  -- it is not called after a fault, nor by an act that makes no call
  pub uncalled : (calls_no_disk v.act ≡ true) ⊎ (failed ≡ true) → new ≡ old
  -- an act that only reads leaves what an honest disk holds, even where it fails
  pub reads : reads_only v.act ≡ true → SameContent d old new
  pub change : Change
  pub change_is : IsChange v before change
  -- as an honest disk reads then, whatever it held
  pub content : failed ≡ false → (reply v ≡ Some (Refused DiskFault) → ⊥) → d.honest old → d.content new ≡ after change (d.content old)
  pub crash : LeavesChange d old new change
  pub touches : ActTouches v change before now

-- ---- all acts

-- from a disk that had failed or not, with these last touches
abbrev pub AllLeave : {D : Type 0} → Ghosts D → Bool → D → LastTouches → List Event → D → LastTouches → Type 0
AllLeave {D} d failed old before [] new now = (new ≡ old) × (now ≡ before)
AllLeave {D} d failed old before (v ∷ vs) new now =
    (next : D) × (mid : LastTouches) × ActLeaves d failed old before v next mid × AllLeave d ((kind v == FAULT_KIND) || failed) next mid vs new now

-- the last touches of the chunks whose files are there, by the saved book
abbrev pub OpensWith : Files → LastTouches → Type 0
OpensWith files touches = (u : Upkeep) × IsBookOf files u × (touches ≡ touches_kept u)
