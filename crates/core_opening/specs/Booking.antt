-- What the head of the book's file tells of it.
use Rattle.std.specs.Prelude.{◌≡◌, ◌≤◌, ℕ, ◌+◌, ◌*◌, ◌==◌, Bool, false, List, length, take, drop, Option, None, Some, Result, IfOk, IsErrOf}
use Rattle.std.specs.FinMap.{get}
use Rattle.std.specs.Int.{w64, from_le_bytes}
use Rattle.disk_trait.specs.declared.disk.Disk.{Ghosts}
use Rattle.disk_trait.specs.declared.disk.DiskError.{DiskError}
use Rattle.disk_trait.specs.declared.disk.DiskError.TheVariants.{NoMemory}
use Rattle.atime_book.specs.Touches.{empty}
use Rattle.store_history.specs.Saved.{book_name, saved_book}

-- there are just the bytes of a book (head, 40 of each touch, SHA-256) of as many touches as it counts behind the magic number and the moment
abbrev pub counts_its_size : Option (List ℕ) → Bool
counts_its_size None = false
counts_its_size (Some text) = length text == 56 + 40 * from_le_bytes w64 (take 8 (drop 16 text))

-- of an honest disk: it is told whether the book's file does so; where it doesn't, there is no book
abbrev pub TellsCount : {D E : Type 0} → Ghosts D → D → Result Bool E → Type 0
TellsCount d disk result =
    d.honest disk
    → IfOk result (λ fits. (fits ≡ counts_its_size (get (d.content disk) book_name)) × (fits ≡ false → saved_book (d.content disk) ≡ empty))

-- of an honest disk
abbrev pub CallsTwiceAtMost : {D : Type 0} → Ghosts D → D → D → Type 0
CallsTwiceAtMost d old new = d.honest old → d.calls new ≤ d.calls old + 2

-- Of an honest disk, where the book's file does not count its size: two calls at most, and memory is not wanting.
pub record IsPassedOver {D A : Type 0} (d : Ghosts D) (old new : D) (result : Result A DiskError) : Type 0 where
  pub few : d.honest old → counts_its_size (get (d.content old) book_name) ≡ false → d.calls new ≤ d.calls old + 2
  pub wanting : d.honest old → counts_its_size (get (d.content old) book_name) ≡ false → IsErrOf result NoMemory → ⊥
