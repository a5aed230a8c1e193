-- What a lane keeps of indexes behind a RANGE.
use Rattle.std.specs.Prelude.{◌≡◌, ℕ, ◌+◌, List, Option, Result, Ok, IfErr, IfOk}
use Rattle.disk_trait.specs.declared.disk.Disk.{Ghosts}
use Rattle.store_stops.specs.declared.stop.Stop.{Stop}
use Rattle.core_state.specs.Kept.{kept_at}
use Rattle.core_state.specs.declared.indexes.Indexes.{Indexes}
use Rattle.core_state.specs.declared.pages.ReadPage.{ReadPage}
use Rattle.core_state.specs.declared.parts.Parts.{Parts}
use Rattle.core_state.specs.Indexed.{ranged_to, row_at}
use Rattle.core_reader.specs.Ranges.{LastRead, RangeAsked, range_asked}

-- the page that was read last, where one was; beside indexes that are open none
pub record KeepsLast {D : Type 0} (d : Ghosts D) (disk : D) (q : RangeAsked) (file : List ℕ) (from to : ℕ) (old new : Indexes) : Type 0 where
  pub last : Option ReadPage
  pub read : LastRead d disk q from to last
  pub is : new ≡ ranged_to file last old

abbrev pub Keeps : {D : Type 0} → Ghosts D → Parts D → Parts D → ℕ → List ℕ → ℕ → ℕ → Type 0
Keeps d old new lane file offset len =
    (q : RangeAsked) × (range_asked file offset len (kept_at old lane) ≡ Ok q)
    × KeepsLast d old.disk q file offset (offset + len) (row_at old lane) (row_at new lane)

-- Once it is done the lane keeps the page that was read last; where it stopped, what it kept before.
pub record NotesRange {A D : Type 0} (d : Ghosts D) (old new : Parts D) (lane : ℕ) (file : List ℕ) (offset len : ℕ) (result : Result A Stop) : Type 0 where
  pub stays : IfErr result (λ stop. row_at new lane ≡ row_at old lane)
  pub keeps : IfOk result (λ x. Keeps d old new lane file offset len)
