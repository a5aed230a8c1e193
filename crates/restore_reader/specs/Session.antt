-- A reader with digests in place of pieces.
use Rattle.std.specs.Prelude.{ℕ, List}
use Rattle.store_types.specs.declared.names.SnapshotKey.{SnapshotKey}
use Rattle.store_types.specs.declared.names.Digest32.{Digest32}
use Rattle.paged_indexes.specs.declared.index.IndexPages.{IndexPages}
use Rattle.restore_reader.specs.Digests.{bytes_of, distinct}

-- an archive that was downloaded: the digests of its pieces, each once and in byte order, the content's size, and what is
-- kept of its index for the pages to be read
pub record Noted : Type 0 where
  pub name : List ℕ
  pub digests : List (List ℕ)
  pub size : ℕ
  pub pages : IndexPages

-- by its digests in any order
abbrev pub noted_of : List ℕ → List Digest32 → ℕ → IndexPages → Noted
noted_of name digests size pages = record { name = name; digests = distinct (bytes_of digests); size = size; pages = pages }

-- the archives stand as they were first downloaded
pub record Reading : Type 0 where
  pub key : SnapshotKey
  pub noted : List Noted
