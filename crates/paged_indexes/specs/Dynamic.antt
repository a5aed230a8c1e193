-- A dynamic index as it is kept for its pages to be read.
use Rattle.std.specs.Prelude.{◌≡◌, ◌⊎◌, ℕ, ◌+◌, ◌-◌, ◌*◌, ◌≤◌, ◌==◌, List, length, slice_index_or, if◌then◌else◌, Option, Some, None, Result, Ok, Err}
use Rattle.std.specs.FinMap.{get}
use Rattle.std.specs.List.Sorted.{IsNonDecreasingBy}
use Rattle.disk_trait.specs.Disk.{one_up}
use Rattle.disk_trait.specs.Files.{Files}
use Rattle.disk_trait.specs.declared.disk.Disk.{Ghosts}
use Rattle.store_files.specs.Cells.{entry_limit}
use Rattle.store_files.specs.DynamicIndex.{Ended, dynamic_of, fields_of}
use Rattle.index_pages.specs.declared.fault.PageFault.{PageFault}
use Rattle.index_pages.specs.Gives.{Gives}
use Rattle.index_pages.specs.Opening.{opened_by}
use Rattle.index_pages.specs.Paged.{Paged, page_at, page_count, paged}
use Rattle.paged_indexes.specs.Steps.{ended_before, entries_of, entries_told, page_ends, page_with}

-- its pages, and where the last piece of each ends
pub record DynamicPaged : Type 0 where
  pub pages : Paged
  pub ends : List ℕ

-- of a file's text that is an index
abbrev pub dynamic_paged : List ℕ → List ℕ → DynamicPaged
dynamic_paged name text = record {
  pages = paged 40 name text;
  ends = page_ends (page_count (length (fields_of text).entries)) (fields_of text).entries;
}

abbrev pub dynamic_entries : List ℕ → List Ended
dynamic_entries text = (fields_of text).entries

-- of the file that stands there, where its text reads as an index; else why it does not
unfoldable pub opened : Files → List ℕ → Result DynamicPaged PageFault
opened m name = opened_by dynamic_of (dynamic_paged name) (get m name)

-- on an honest disk it is opened so
abbrev pub OpensDynamic : {D : Type 0} → Ghosts D → D → List ℕ → Result DynamicPaged PageFault → Type 0
OpensDynamic d disk name result = d.honest disk → Gives (λ pages. pages) result (opened (d.content disk) name)

-- an entry has 40 bytes; as many ends as pages, of which none is before the one in front of it
pub record HasEnds (p : Paged) (ends : List ℕ) : Type 0 where
  pub width : p.width ≡ 40
  pub limit : p.count ≤ entry_limit
  pub len : length ends ≡ page_count p.count
  pub rises : IsNonDecreasingBy (λ (n : ℕ). n) ends

-- the archive's size: where the last page ends
abbrev pub size_by : List ℕ → ℕ
size_by ends = slice_index_or ends (length ends - 1) 0

-- where the first piece of page i begins, and where the last one ends
abbrev pub start_in : DynamicPaged → ℕ → ℕ
start_in p i = if i == 0 then 0 else slice_index_or p.ends (i - 1) 0

abbrev pub stop_in : DynamicPaged → ℕ → ℕ
stop_in p i = slice_index_or p.ends i 0

-- the entries of page i that these bytes spell, as they stood at the opening
abbrev pub dynamic_told : DynamicPaged → ℕ → List ℕ → Result (List Ended) PageFault
dynamic_told p i bytes = entries_told i (start_in p i) (stop_in p i) (entries_of bytes)

-- ---- the piece at an offset

-- in page i: the first of its pieces that ends behind the offset
abbrev pub place_in : ℕ → ℕ → Result (List ℕ) PageFault → Result (Option ℕ) PageFault
place_in i offset (Ok bytes) = Ok (Some (i * 1024 + ended_before offset (entries_of bytes)))
place_in i offset (Err fault) = Err fault

abbrev pub chunk_by : Files → Paged → ℕ → Option ℕ → Result (Option ℕ) PageFault
chunk_by m p offset None = Ok None
chunk_by m p offset (Some i) = place_in i offset (page_at m p i)

-- by the first page that ends behind the offset, which is read; none where no page does
unfoldable pub chunk_in : Files → DynamicPaged → ℕ → Result (Option ℕ) PageFault
chunk_in m p offset = chunk_by m p.pages offset (page_with offset p.ends)

-- on an honest disk it is found so
abbrev pub FindsChunk : {D : Type 0} → Ghosts D → D → DynamicPaged → ℕ → Result (Option ℕ) PageFault → Type 0
FindsChunk d disk p offset result = d.honest disk → Gives (λ found. found) result (chunk_in (d.content disk) p offset)

-- at most one call of an honest disk
abbrev pub CallsOnceAtMost : {D : Type 0} → Ghosts D → D → D → Type 0
CallsOnceAtMost d old new = d.honest old → (d.calls new ≡ d.calls old) ⊎ (d.calls new ≡ one_up (d.calls old))
