-- What holds of indexes that are read page by page.
use Rattle.std.specs.Prelude.{◌≡◌, ◌↔◌, ◌<◌, ◌≤◌, ◌*◌, ℕ, List, length, take, drop, Option, None, Some, Ok, MatchResult, IsNone, IsTrue, IfSome}
use Rattle.std.specs.FinMap.{get}
use Rattle.disk_trait.specs.Files.{Files}
use Rattle.store_files.specs.Cells.{cells}
use Rattle.store_files.specs.DynamicIndex.{DynamicIndex, Ended, dynamic_of}
use Rattle.store_files.specs.FixedIndex.{FixedIndex, fixed_of}
use Rattle.dynamic_index.specs.Pieces.{HoldsOffset, last_end, size_of}
use Rattle.fixed_index.specs.Viewing.{start_of, stop_of}
use Rattle.index_pages.specs.Paged.{IsOfBytes, IsPageOf, Paged, is_kept, page_at, page_count, page_text, paged}
use Rattle.paged_indexes.specs.Dynamic.{chunk_in, dynamic_paged, size_by}
use Rattle.paged_indexes.specs.Fixed.{chunk_in as fixed_chunk_in, fixed_paged}
use Rattle.paged_indexes.specs.declared.index.IndexPages.{IndexPages}
use Rattle.paged_indexes.specs.declared.kinds.IndexKind.{IndexKind}
use Rattle.paged_indexes.specs.Index.{entries_in, opened, page_with, pages_by, start_by, told_at}
use Rattle.paged_indexes.specs.Steps.{entries_of}

-- the bytes of page i of a text of entries of a width
abbrev pub page : ℕ → List ℕ → List ℕ → ℕ → List ℕ
page width name text i = page_text (paged width name text) i text

-- ---- pages are of the views' entries: as many, and page i has those from 1,024 i on

pub record DynamicPagesAreTheViews (name text : List ℕ) (x : DynamicIndex) : Type 0 where
  pub count : (paged 40 name text).count ≡ length x.entries
  pub entries : (i : ℕ) → i < page_count (length x.entries) → entries_of (page 40 name text i) ≡ take 1024 (drop (i * 1024) x.entries)

pub record FixedPagesAreTheViews (name text : List ℕ) (x : FixedIndex) : Type 0 where
  pub count : (paged 32 name text).count ≡ length x.digests
  pub entries : (i : ℕ) → i < page_count (length x.digests) → cells 32 (page 32 name text i) ≡ take 1024 (drop (i * 1024) x.digests)

abbrev pub DynamicPagesAreOfTheView : Type 0
DynamicPagesAreOfTheView = (name text : List ℕ) (x : DynamicIndex) → dynamic_of text ≡ Ok x → DynamicPagesAreTheViews name text x

abbrev pub FixedPagesAreOfTheView : Type 0
FixedPagesAreOfTheView = (name text : List ℕ) (x : FixedIndex) → fixed_of text ≡ Ok x → FixedPagesAreTheViews name text x

-- ---- a file that is as it was opened gives each of its pages

abbrev pub WhatStaysIsGiven : ℕ → List ℕ → Type 0
WhatStaysIsGiven width text =
    (m : Files) (name : List ℕ) (i : ℕ) → get m name ≡ Some text → i < page_count (paged width name text).count
    → page_at m (paged width name text) i ≡ Ok (page width name text i)

abbrev pub DynamicStays : Type 0
DynamicStays = (text : List ℕ) (x : DynamicIndex) → dynamic_of text ≡ Ok x → WhatStaysIsGiven 40 text

abbrev pub FixedStays : Type 0
FixedStays = (text : List ℕ) (x : FixedIndex) → fixed_of text ≡ Ok x → WhatStaysIsGiven 32 text

-- ---- what is kept of a page is the SHA-256 of bytes

abbrev pub KeptHasTheSum : Type 0
KeptHasTheSum = (p : Paged) (is : IsOfBytes p) (i : ℕ) (bytes : List ℕ) → i < page_count p.count → IsTrue (is_kept p i bytes) ↔ IsPageOf p is.body i bytes

-- ---- the piece at an offset is the view's: none from the archive's size on, else the one that has the byte there

pub record FindsTheChunk (m : Files) (name text : List ℕ) (x : DynamicIndex) (offset : ℕ) : Type 0 where
  pub size : size_by (dynamic_paged name text).ends ≡ size_of x
  pub found : MatchResult (chunk_in m (dynamic_paged name text) offset)
      (λ found. (IsNone found ↔ (size_of x ≤ offset)) × IfSome found (HoldsOffset x offset)) (λ fault. ⊥)

abbrev pub DynamicChunksAreFound : Type 0
DynamicChunksAreFound = (m : Files) (name text : List ℕ) (x : DynamicIndex) (offset : ℕ) → dynamic_of text ≡ Ok x → get m name ≡ Some text
    → FindsTheChunk m name text x offset

-- a piece of a fixed index has the byte at the offset
pub record HoldsByte (x : FixedIndex) (offset i : ℕ) : Type 0 where
  pub place : i < length x.digests
  pub starts : start_of x i ≤ offset
  pub stops : offset < stop_of x i

pub record FindsTheFixedChunk (name text : List ℕ) (x : FixedIndex) (offset : ℕ) : Type 0 where
  pub size : (fixed_paged name text).size ≡ x.size
  pub none : IsNone (fixed_chunk_in (fixed_paged name text) offset) ↔ (x.size ≤ offset)
  pub held : IfSome (fixed_chunk_in (fixed_paged name text) offset) (HoldsByte x offset)

abbrev pub FixedChunksAreFound : Type 0
FixedChunksAreFound = (name text : List ℕ) (x : FixedIndex) (offset : ℕ) → fixed_of text ≡ Ok x → FindsTheFixedChunk name text x offset

-- ---- what was opened is the index that stands there

-- of page i, whose first piece begins there, the index's entries are read
pub record PageIs (m : Files) (p : IndexPages) (entries : List Ended) (i : ℕ) : Type 0 where
  pub read : told_at m p i ≡ Ok (take 1024 (drop (i * 1024) entries))
  pub start : start_by p i ≡ last_end 0 (take (i * 1024) entries)

-- a page that is found begins at the offset or before it, and where none is the archive ends so
abbrev pub BeginsLow : IndexPages → List Ended → ℕ → Option ℕ → Type 0
BeginsLow p entries offset None = last_end 0 entries ≤ offset
BeginsLow p entries offset (Some i) = (i < page_count (length entries)) × (start_by p i ≤ offset)

pub record IsIndex (m : Files) (p : IndexPages) (entries : List Ended) : Type 0 where
  pub count : (pages_by p).count ≡ length entries
  pub pages : (i : ℕ) → i < page_count (length entries) → PageIs m p entries i
  pub found : (offset : ℕ) → BeginsLow p entries offset (page_with p offset)

-- while the file stands there from which it was opened
abbrev pub OpenedIsTheIndex : Type 0
OpenedIsTheIndex = (m : Files) (name text : List ℕ) (kind : IndexKind) (p : IndexPages) (entries : List Ended) → get m name ≡ Some text
    → opened m name kind ≡ Ok p → entries_in kind text ≡ Some entries → IsIndex m p entries
