-- The disk as the acts of a run left it, and what the save of the book then did to it.
use Rattle.disk_trait.specs.declared.disk.Disk.{Ghosts}
use Rattle.disk_trait.specs.declared.disk.DiskError.{DiskError}
use Rattle.disk_trait.specs.declared.disk.DiskError.TheVariants.{Failed}
use Rattle.disk_trait.specs.Disk.{Serves}
use Rattle.disk_trait.specs.Effects.{DiskWantKeeps, LeavesBy}
use Rattle.disk_trait.specs.Files.{Files}
use Rattle.std.specs.Prelude.{◌≡◌, ◌≤◌, ◌↔◌, ℕ, true, false, List, Option, Some, None, IsSome}
use Rattle.std.specs.FinMap.{get}
use Rattle.std.specs.List.{last_or}
use Rattle.atime_book.specs.Touches.{IsEarly, last_of}
use Rattle.file_install.specs.Install.{Installs, installed}
use Rattle.store_types.specs.declared.order.Entry.{Entry}
use Rattle.store_files.specs.Book.{Book, FitsBook, book_text}
use Rattle.store_files.specs.Folder.{IsDigest, chunk_name}
use Rattle.store_model.specs.Stands.{StandsFor}
use Rattle.store_model.specs.Store.{Store}
use Rattle.store_history.specs.declared.act.Event.{Event}
use Rattle.store_history.specs.ChunkFiles.{HoldsOnly}
use Rattle.store_history.specs.Foreign.{IsForeign}
use Rattle.store_history.specs.LastTouches.{LastTouches}
use Rattle.store_history.specs.Saved.{book_name}
use Rattle.lane.specs.Entries.{has_kind}
use Rattle.pbs_server.specs.ActByAct.{AllLeave, OpensWith}
use Rattle.pbs_server.specs.Saving.{saving_of}

-- The disk once the last act was answered, of one that was opened, and the last touches of its chunks then: on any disk, but for what is said of an honest one.
pub record ActsLeave {D : Type 0} (d : Ghosts D) (opened : D) (events : List Event) (order : List Entry) (calls : List ℕ) (at_rest : D) (touches : LastTouches) : Type 0 where
  -- the last touches of its chunks as it was opened
  pub before : LastTouches
  pub book : d.honest opened → OpensWith (d.content opened) before
  -- act by act, from one disk to the next
  pub each : AllLeave d false opened before events at_rest touches
  -- its count of calls is the number beside the last entry; without an entry it was not called since
  pub calls_are : last_or (Some (d.calls opened)) calls ≡ Some (d.calls at_rest)
  -- it is honest where it was, and its count of faults rose where an act met a fault
  pub serves : Serves d.honest d.faults opened at_rest (has_kind 5 order ≡ true)

-- What the save of the book did to it, in a run of this last moment, which left these last touches: on any disk, but for what is said of an honest one.
pub record SaveLeaves {D : Type 0} (d : Ghosts D) (order : List Entry) (not_saved : Option DiskError) (moment : ℕ) (touches : LastTouches) (at_rest result : D) : Type 0 where
  -- the book that was put, or was to be: it is of the last moment, with these touches, and none of them is later
  pub book : Book
  pub moment_is : book.moment ≡ moment
  pub touches_are : (x : List ℕ) → last_of book x ≡ touches.last x
  pub early : IsEarly book
  -- nothing was tried where an act met a fault of the disk
  pub halted : has_kind 5 order ≡ true → (result ≡ at_rest) × (not_saved ≡ None)
  pub serves : Serves d.honest d.faults at_rest result (not_saved ≡ Some Failed)
  pub later : d.calls at_rest ≤ d.calls result
  -- a crash leaves what one could as the last act was answered, with anything at the book's temporary name; or all that was read then, with
  -- this book
  pub leaves : LeavesBy d at_rest result (Installs (d.content at_rest) book_name (book_text book))
  -- for want of memory nothing has changed
  pub wanting : DiskWantKeeps d at_rest result (saving_of not_saved)
  -- Saved, its bytes are those of a book, and an honest disk reads with it and without the temporary name, whatever it holds, and else as it
  -- did.
  pub fits : has_kind 5 order ≡ false → not_saved ≡ None → FitsBook book
  pub saved : has_kind 5 order ≡ false → not_saved ≡ None → d.honest at_rest → d.content result ≡ installed (d.content at_rest) book_name (book_text book)

-- Files hold a store: they stand for its snapshots, and the chunk files are of these pieces, and of the chunks that have a last touch. What
-- stood at names that are none of the store's stands there still.
pub record HoldsStore (store : Store) (pieces : List (List ℕ)) (touches : LastTouches) (before files : Files) : Type 0 where
  pub stands : StandsFor files store.snapshots
  pub chunks : HoldsOnly files pieces
  pub left : (x : List ℕ) → IsDigest x → IsSome (get files (chunk_name x)) ↔ IsSome (touches.last x)
  pub foreign : (q : List ℕ) → IsForeign q → get files q ≡ get before q
