-- The book of the chunks that are there.
use Rattle.std.specs.Prelude.{◌≡◌, ℕ, Bool, List, filter, if◌then◌else◌, Some, None, is_none, unwrap_or}
use Rattle.std.specs.List.{list_any}
use Rattle.std.specs.Str.{bytes_eq}
use Rattle.store_types.specs.declared.names.Digest32.{Digest32}
use Rattle.store_files.specs.Book.{Book}
use Rattle.atime_book.specs.Touches.{last_of}

abbrev pub is_among : List ℕ → List Digest32 → Bool
is_among digest digests = list_any (λ d. bytes_eq d.0 digest) digests

-- The book has just these chunks. Those that the saved book did not have are undated, and stand there as of its moment.
pub record IsOfPresent (saved book : Book) (present undated : List Digest32) : Type 0 where
  pub read : book.moment ≡ saved.moment
  pub last : (d : List ℕ) → last_of book d ≡ (if is_among d present then Some (unwrap_or (last_of saved d) saved.moment) else None)
  pub unknown : undated ≡ filter (λ d. is_none (last_of saved d.0)) present
