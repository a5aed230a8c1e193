-- How often an act calls an honest disk.
use Rattle.std.proofs.Common.{◌≡◌, ℕ, List, Option, Some, subst, subst₂}
use Rattle.disk_trait.specs.declared.disk.Disk.{Ghosts}
use Rattle.paged_indexes.specs.declared.kinds.IndexKind.{IndexKind}
use Rattle.index_pages.specs.Calls.{CallsAtMost}
use Rattle.snapshot_files.specs.Calls.{CallsForPart}
use Rattle.core_state.specs.Unreadables.{Asked, from_offset}
use Rattle.core_state.specs.Calls.{CallsForAsked}
use Rattle.core_state.proofs.Asking.{called}

module _ {D : Type 0} (d : Ghosts D) where
  -- by an equal number
  pub calls_as : (old new : D) (m n : ℕ) → m ≡ n → CallsAtMost d old new m → CallsAtMost d old new n
  calls_as old new m n same calls = subst (λ k. CallsAtMost d old new k) same calls

  -- a part of the file that is asked for was read, by its path and its kind
  pub called_for : (old new : D) (asked : Option Asked) (path q : List ℕ) (whole v : Option IndexKind) (offset : ℕ) → asked ≡ Some (record { path = path; way = from_offset whole offset })
      → q ≡ path → v ≡ whole → CallsForPart d old new q v → CallsForAsked d old new asked
  called_for old new asked path q whole v offset is at of_kind calls = called d old new asked path whole offset is (subst₂ (λ r x. CallsForPart d old new r x) at of_kind calls)
