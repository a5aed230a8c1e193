-- The next mark, visit or end of a collector by its own plan, on any disk.
use Rattle.disk_trait.specs.declared.disk.Disk.{Ghosts}
use Rattle.std.specs.Prelude.{◌≡◌, ◌⊎◌, ℕ, true, false, List, [], Option, Some, None}
use Rattle.store_types.specs.declared.names.Digest32.{Digest32}
use Rattle.store_files.specs.Book.{Book, book_text}
use Rattle.wire_commands.specs.declared.reply.Reply.{Reply}
use Rattle.atime_book.specs.Touches.{as_of}
use Rattle.gc_plan.specs.Plan.{Plan, is_over, next_mark, next_visit}
use Rattle.gc_plan.specs.declared.GcReport.{GcReport}
use Rattle.store_history.specs.LastTouches.{SameTouches, dated}
use Rattle.store_history.specs.Saved.{book_name}
use Rattle.core_state.specs.declared.collector.Collector.{Collector}
use Rattle.core_state.specs.declared.collector.Early.{Early}
use Rattle.core_state.specs.declared.collector.Early.TheVariants.{NoMemory, Unreadable}
use Rattle.core_state.specs.declared.kept.Listed.{Listed}
use Rattle.core_state.specs.declared.state.Core.{Core}
use Rattle.core_state.specs.Changes.{Change, LeavesChange, after, installs, stays}
use Rattle.core_state.specs.Upkeeps.{touches_kept}
use Rattle.core_collect.specs.Ending.{Reports, report_reply}
use Rattle.core_collect.specs.Marking.{AtHand, FindsAfter, MarksSome}
use Rattle.core_collect.specs.Visiting.{DropsFirst, IsListed, VisitedFirst}

-- these digests of the index that is next are marked, of which the pages are at hand
abbrev pub MarksNext : Book → Book → Collector → Collector → List Digest32 → ℕ → Change → Type 0
MarksNext before after_ c e digests moment change =
    AtHand c digests × MarksSome before after_ c e digests moment × (change ≡ stays)

-- no index is left: the chunks are listed, where they were not, and the first is visited, if one is left
abbrev pub VisitsFirst : {D : Type 0} → Ghosts D → D → Book → Book → Collector → Collector → Change → Type 0
VisitsFirst d disk before after_ c e change =
    (next_mark c.plan ≡ None) × ((listed : Plan) × IsListed d disk c.plan listed
    × VisitedFirst before after_ listed e.plan change (next_visit listed))

-- Indexes are passed over that were forgotten or have no entries. Then the next one is marked, or a chunk is visited.
pub record PassesOn {D : Type 0} (d : Ghosts D) (disk : D) (catalogue : List Listed) (before after_ : Book) (c e : Collector) (moment : ℕ) (change : Change) : Type 0 where
  pub passed : ℕ
  pub mid : Collector
  pub digests : List Digest32
  pub finds : FindsAfter d disk catalogue passed c mid digests
  pub does : MarksNext before after_ mid e digests moment change ⊎ VisitsFirst d disk before after_ mid e change

-- so, or the next index does not decode or is not as it was opened: it is ended early, and nothing is touched or taken out
abbrev pub PassesOrEnds : {D : Type 0} → Ghosts D → D → List Listed → Book → Book → Collector → Collector → ℕ → Change → Option Early → Type 0
PassesOrEnds d disk catalogue before after_ c e moment change None =
    PassesOn d disk catalogue before after_ c e moment change
PassesOrEnds d disk catalogue before after_ c e moment change (Some (Unreadable path)) = (after_ ≡ before) × (change ≡ stays)
PassesOrEnds d disk catalogue before after_ c e moment change (Some NoMemory) = ⊥

-- The first chunk that is listed goes, and is lost: no index was left.
pub record LosesFirst {D : Type 0} (d : Ghosts D) (disk : D) (catalogue : List Listed) (book : Book) (c : Collector) (change : Change) : Type 0 where
  pub going : is_over c.plan ≡ false
  pub passed : ℕ
  pub mid : Collector
  pub finds : FindsAfter d disk catalogue passed c mid []
  pub none_left : next_mark mid.plan ≡ None
  pub drops : DropsFirst d disk book mid.plan change

-- where the disk failed: so, or the book was saved where all was visited, or nothing has changed
abbrev pub FailsByPlan : {D : Type 0} → Ghosts D → D → List Listed → Book → Collector → ℕ → Change → Type 0
FailsByPlan d disk catalogue book c moment change =
    (change ≡ stays) ⊎ (LosesFirst d disk catalogue book c change
    ⊎ ((is_over c.plan ≡ true) × (change ≡ installs book_name (book_text (as_of moment book)))))

-- ---- of the core

-- A mark or a visit: it was not over, and the collector does its next by its plan, at this moment. Then the entry dates what is undated.
pub record CorePasses {D E C : Type 0} (d : Ghosts D) (old new : Core D E C) (c e : Collector) (moment : ℕ) : Type 0 where
  pub going : is_over c.plan ≡ false
  pub change : Change
  pub content : d.honest (old.parts).disk
      → d.content (new.parts).disk ≡ after change (d.content (old.parts).disk)
  pub crash : LeavesChange d (old.parts).disk (new.parts).disk change
  pub book : Book
  pub passes : PassesOrEnds d (old.parts).disk (old.parts).catalogue.listed
      (old.upkeep).book book c e moment change e.ended
  pub dates : SameTouches (touches_kept new.upkeep)
      (dated moment (touches_kept (record (old.upkeep) { book = book })))

-- an act in which the disk failed
pub record CoreFails {D E C : Type 0} (d : Ghosts D) (old new : Core D E C) (c : Collector) (moment : ℕ) : Type 0 where
  pub change : Change
  pub crash : LeavesChange d (old.parts).disk (new.parts).disk change
  pub fails : FailsByPlan d (old.parts).disk (old.parts).catalogue.listed (old.upkeep).book c moment change

-- An end that comes of itself: all was visited, and the reply is the plan's report.
abbrev pub EndsWhole : Book → Collector → Option Reply → Type 0
EndsWhole book c reply =
    (is_over c.plan ≡ true) × ((report : GcReport) × Reports book c.plan report
    × (reply ≡ Some (report_reply report)))
