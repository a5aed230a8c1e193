-- The page of an index that a collector read last.
use Rattle.std.specs.Prelude.{◌≡◌, ◌<◌, List, ℕ, IsTrue, Option, Some}
use Rattle.index_pages.specs.Paged.{is_kept, page_count, page_text}
use Rattle.paged_indexes.specs.declared.index.IndexPages.{IndexPages}
use Rattle.paged_indexes.specs.Index.{pages_by}
use Rattle.core_state.specs.declared.marked.MarkedPage.{MarkedPage}

-- it is a page of the index, and its bytes have the SHA-256 that the opening kept, on any disk
pub record IsMarkedPage (p : IndexPages) (q : MarkedPage) : Type 0 where
  pub below : q.number < page_count (pages_by p).count
  pub kept : IsTrue (is_kept (pages_by p) q.number q.bytes)

-- where one is at hand
pub record FitsLast (p : IndexPages) (last : Option MarkedPage) : Type 0 where
  pub read : (q : MarkedPage) → last ≡ Some q → IsMarkedPage p q

-- its bytes are those of this text of the index
abbrev pub IsPageOfText : IndexPages → List ℕ → MarkedPage → Type 0
IsPageOfText p text q = q.bytes ≡ page_text (pages_by p) q.number text
