-- What is kept of an index that is read page by page.
use Rattle.std.specs.Prelude.{◌≡◌, ℕ, List}
use Rattle.store_files.specs.DynamicIndex.{Ended}
use Rattle.dynamic_index.specs.Pieces.{last_end}
use Rattle.paged_indexes.specs.declared.index.IndexPages.{IndexPages}
use Rattle.restore_reader.specs.declared.index.Table.{Table}
use Rattle.restore_reader.specs.Digests.{bytes_of, digests_in}
use Rattle.restore_reader.specs.Session.{Noted, noted_of}

-- it has the digests of these entries, of which the first one's piece begins at the base, and where the last one's ends
pub record IsTable (table : Table) (base : ℕ) (entries : List Ended) : Type 0 where
  pub digests : bytes_of table.digests.items ≡ digests_in entries
  pub size : table.size ≡ last_end base entries

abbrev pub noted_by : List ℕ → Table → IndexPages → Noted
noted_by name table pages = noted_of name table.digests.items table.size pages
