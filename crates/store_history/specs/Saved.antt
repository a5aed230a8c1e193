-- The book of touches in the datastore folder.
use Rattle.std.specs.Prelude.{◌≡◌, ◌↔◌, ℕ, List, Option, Some, None, IsSome, unwrap_or, codes}
use Rattle.std.specs.FinMap.{get}
use Rattle.store_files.specs.Book.{Book, FitsBook, book_of, book_text}
use Rattle.store_files.specs.Folder.{Files, IsDigest, chunk_name}
use Rattle.atime_book.specs.Touches.{empty, last_of}
use Rattle.store_history.specs.LastTouches.{LastTouches}

abbrev pub book_name : List ℕ
book_name = codes ".chunks/book"

-- the book whose text these bytes are, or an empty one
abbrev pub book_in : Option (List ℕ) → Book
book_in None = empty
book_in (Some bytes) = unwrap_or (book_of bytes) empty

-- what the saved book says: where there is none, or bytes that are no book, nothing
abbrev pub saved_book : Files → Book
saved_book m = book_in (get m book_name)

-- The folder has the book of this moment. It has the last touch of each chunk that is there, and of no other.
pub record HoldsBook (m : Files) (moment : ℕ) (t : LastTouches) : Type 0 where
  pub book : Book
  pub file : get m book_name ≡ Some (book_text book)
  pub fits : FitsBook book
  pub moment_is : book.moment ≡ moment
  pub touches : (d : List ℕ) → last_of book d ≡ t.last d
  pub chunks : (d : List ℕ) → IsDigest d → IsSome (get m (chunk_name d)) ↔ IsSome (last_of book d)
