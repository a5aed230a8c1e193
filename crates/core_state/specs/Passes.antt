-- What a mark, a visit or the end of a collector leaves, on any disk.
use Rattle.disk_trait.specs.declared.disk.Disk.{Ghosts}
use Rattle.std.specs.Prelude.{◌≡◌, ◌≤◌, ◌<◌, ◌⊎◌, ℕ, Bool, true, false, ◌||◌, ◌==◌, if◌then◌else◌, List, [], ◌∷◌, length, Option, None, Some}
use Rattle.store_types.specs.declared.names.Digest32.{Digest32}
use Rattle.store_types.specs.declared.refusal.Refusal.TheVariants.{DiskFault}
use Rattle.store_types.specs.declared.order.TheConstants.{COMMAND_KIND, PART_KIND, MEMORY_KIND, STOP_KIND, FAULT_KIND}
use Rattle.store_files.specs.Book.{book_text}
use Rattle.store_files.specs.Folder.{chunk_name}
use Rattle.wire_commands.specs.declared.reply.Reply.TheVariants.{Refused}
use Rattle.atime_book.specs.Touches.{NoneAfter, as_of, is_stale, last_of}
use Rattle.atime_book.specs.Present.{is_among}
use Rattle.gc_plan.specs.Plan.{Plan, mark_limit}
use Rattle.store_history.specs.LastTouches.{LastTouches, SameTouches, dated, touched}
use Rattle.store_history.specs.Saved.{book_name}
use Rattle.store_history.specs.declared.act.Answer.{Answer}
use Rattle.store_history.specs.Sweeping.{without}
use Rattle.core_state.specs.declared.collector.Collector.{Collector}
use Rattle.core_state.specs.declared.state.Core.{Core}
use Rattle.core_state.specs.Changes.{Change, LeavesChange, after, drops, installs, stays}
use Rattle.core_state.specs.Collectors.{is_cut, is_on, steps_left}
use Rattle.core_state.specs.Upkeeps.{touches_kept}

-- ---- the disk

-- a visit takes a chunk out: its last touch is before the cutoff of the lane's collector
pub record Takes {D E C : Type 0} (old : Core D E C) (lane : ℕ) (change : Change) : Type 0 where
  pub collector : Collector
  pub digest : Digest32
  pub open_is : old.collector ≡ Some collector
  pub lane_is : collector.lane ≡ lane
  pub stale : is_stale (last_of (old.upkeep).book digest.0) (collector.plan).cutoff ≡ true
  pub change_is : change ≡ drops (chunk_name digest.0 ∷ [])

-- the end saves the book as of its moment
abbrev pub SavesAt : {D E C : Type 0} → Core D E C → ℕ → Change → Type 0
SavesAt old moment change = change ≡ installs book_name (book_text (as_of moment (old.upkeep).book))

-- What an act whose entry is of this kind may change: a mark or a visit one chunk, the end the saved book, and one in which the disk failed
-- either. Others change nothing.
abbrev pub MayChange : {D E C : Type 0} → Core D E C → ℕ → ℕ → ℕ → Change → Type 0
MayChange old lane moment kind change =
    (change ≡ stays) ⊎ ((((kind ≡ PART_KIND) ⊎ (kind ≡ FAULT_KIND)) × Takes old lane change) ⊎ (((kind ≡ STOP_KIND) ⊎ (kind ≡ FAULT_KIND)) × SavesAt old moment change))

-- ---- the book

-- the chunk that is taken out is the one that the disk loses
abbrev pub IsTaken : Option (List ℕ) → Change → Type 0
IsTaken None change = change ≡ stays
IsTaken (Some digest) change = change ≡ drops (chunk_name digest ∷ [])

-- at most so many chunks are touched, or one is taken out
abbrev pub PassTouches : Change → LastTouches → LastTouches → ℕ → Type 0
PassTouches change old new when =
    ((digests : List Digest32) × (change ≡ stays) × (length digests ≤ mark_limit) × SameTouches new (touched (λ d. is_among d digests) when old))
    ⊎ ((taken : Option (List ℕ)) × IsTaken taken change × SameTouches new (without taken old))

-- and its entry dates what is undated
abbrev pub PassDates : Change → LastTouches → LastTouches → ℕ → Type 0
PassDates change old new when = (passed : LastTouches) × PassTouches change old passed when × SameTouches new (dated when passed)

-- ---- the collector

-- a mark, a visit and want of memory leave the lane's collector open
abbrev pub stays_open : ℕ → Bool → Bool
stays_open kind before = if (kind == STOP_KIND) || (kind == FAULT_KIND) then false else before

-- start, cutoff and indexes of a plan stay as they are
pub record KeepsPlan (old new : Plan) : Type 0 where
  pub start : new.start ≡ old.start
  pub cutoff : new.cutoff ≡ old.cutoff
  pub indexes : new.indexes ≡ old.indexes

abbrev pub KeepsPlanOf : Option Collector → Option Collector → Type 0
KeepsPlanOf (Some c) (Some e) = KeepsPlan c.plan e.plan
KeepsPlanOf _ _ = ⊥

-- What it leaves of disk, book and collector.
pub record StepLeaves {D E C : Type 0} (d : Ghosts D) (old new : Core D E C) (lane : ℕ) (answer : Answer) : Type 0 where
  pub change : Change
  pub may_change : MayChange old lane (answer.entry).moment (answer.entry).kind change
  pub content : (answer.reply ≡ Some (Refused DiskFault) → ⊥) → d.honest (old.parts).disk → d.content (new.parts).disk ≡ after change (d.content (old.parts).disk)
  pub crash : LeavesChange d (old.parts).disk (new.parts).disk change
  -- an end that comes of itself saves the book, and one of a collector that was ended early only closes
  pub saves : (answer.entry).kind ≡ STOP_KIND → is_cut lane old.collector ≡ false → SavesAt old (answer.entry).moment change
  pub closes_only : is_cut lane old.collector ≡ true → (new.parts).disk ≡ (old.parts).disk
  pub passes : (answer.entry).kind ≡ PART_KIND → PassDates change (touches_kept old.upkeep) (touches_kept new.upkeep) (answer.entry).moment
  -- all others touch nothing
  pub untouched : ((answer.entry).kind ≡ PART_KIND → ⊥) → SameTouches (touches_kept new.upkeep) (dated (answer.entry).moment (touches_kept old.upkeep))
  -- no chunk is touched after the last moment
  pub early : NoneAfter (old.upkeep).book old.last → NoneAfter (new.upkeep).book new.last
  -- it is refused only where the lane's collector is not open
  pub refused : (answer.entry).kind ≡ COMMAND_KIND → is_on lane old.collector ≡ false
  pub open_on : is_on lane new.collector ≡ stays_open (answer.entry).kind (is_on lane old.collector)
  pub closed : is_on lane old.collector ≡ true → ((answer.entry).kind ≡ STOP_KIND) ⊎ ((answer.entry).kind ≡ FAULT_KIND) → new.collector ≡ None
  pub same : is_on lane old.collector ≡ true → ((answer.entry).kind ≡ PART_KIND) ⊎ ((answer.entry).kind ≡ MEMORY_KIND) → KeepsPlanOf old.collector new.collector
  -- another lane's stays as it is
  pub others : is_on lane old.collector ≡ false → new.collector ≡ old.collector
  -- want of memory ends it early
  pub cut : is_on lane old.collector ≡ true → (answer.entry).kind ≡ MEMORY_KIND → is_cut lane new.collector ≡ true
  -- a mark, a visit and a want of memory leave less to do
  pub further : is_on lane old.collector ≡ true → ((answer.entry).kind ≡ PART_KIND) ⊎ ((answer.entry).kind ≡ MEMORY_KIND) → steps_left new.collector < steps_left old.collector
