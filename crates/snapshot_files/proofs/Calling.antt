-- How often a disk is called for a part of a file.
use Rattle.std.proofs.Common.{◌≡◌, ◌≤◌, ◌+◌, ℕ, List, Option, Some, ap, arith}
use Rattle.std.specs.FinMap.{get}
use Rattle.disk_trait.specs.declared.disk.Disk.{Ghosts}
use Rattle.disk_trait.specs.Effects.{OnlyReads}
use Rattle.index_pages.specs.Calls.{CallsAtMost, opening_calls}
use Rattle.paged_indexes.specs.declared.kinds.IndexKind.{IndexKind}
use Rattle.paged_indexes.specs.Calls.{CallsToOpen, entry_width}
use Rattle.snapshot_files.specs.Calls.{CallsForPart}

module _ {D : Type 0} (d : Ghosts D) (old mid new : D) (path : List ℕ) (kind : IndexKind) (failed : Type 0) where
  -- a part was read, and then what stands there was opened
  pub read_and_opened : OnlyReads d old mid failed → CallsAtMost d old mid 2 → CallsToOpen d mid new path kind → CallsForPart d old new path (Some kind)
  read_and_opened reads part opened = λ h.
      let same = ap (λ m. opening_calls (entry_width kind) (get m path)) (reads.same h) in
      let first = part h in
      let second = opened (reads.serves.kept.0 h) in
      omega (arith, same, first, second)
