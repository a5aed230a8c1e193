-- How often an act calls an honest disk.
use Rattle.std.specs.Prelude.{◌≡◌, ℕ, List, Option, None, Some}
use Rattle.disk_trait.specs.declared.disk.Disk.{Ghosts}
use Rattle.index_pages.specs.Calls.{CallsAtMost}
use Rattle.paged_indexes.specs.declared.kinds.IndexKind.{IndexKind}
use Rattle.snapshot_files.specs.Calls.{CallsForPart}
use Rattle.core_state.specs.declared.entering.Place.{Place}
use Rattle.core_state.specs.declared.parts.Parts.{Parts}
use Rattle.core_state.specs.Kept.{KeptAt, kept_at}
use Rattle.core_state.specs.Unreadables.{Asked, from_offset}

-- not at all where no file is asked for, and else as often as for a part of the file
pub record CallsForAsked {D : Type 0} (d : Ghosts D) (old new : D) (asked : Option Asked) : Type 0 where
  pub none : asked ≡ None → CallsAtMost d old new 0
  pub part : (path : List ℕ) (whole : Option IndexKind) (offset : ℕ) → asked ≡ Some (record { path = path; way = from_offset whole offset }) → CallsForPart d old new path whole

-- for the file that an act asks for, by what it finds
abbrev pub ActCalls : {D : Type 0} → Ghosts D → (KeptAt → Option Asked) → Parts D → Parts D → Place → Type 0
ActCalls d asked old new at = CallsForAsked d old.disk new.disk (asked (kept_at old at.lane))
