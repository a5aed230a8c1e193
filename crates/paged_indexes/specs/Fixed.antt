-- A fixed index as it is kept for its pages to be read.
use Rattle.std.specs.Prelude.{◌≡◌, ℕ, ◌+◌, ◌*◌, ◌/◌, ◌<◌, ◌≤◌, ◌==◌, ◌&&◌, Bool, IsTrue, List, [], ◌∷◌, min, nat_lt, if◌then◌else◌, Option, Some, None, Result}
use Rattle.std.specs.FinMap.{get}
use Rattle.disk_trait.specs.Files.{Files}
use Rattle.disk_trait.specs.declared.disk.Disk.{Ghosts}
use Rattle.store_files.specs.Cells.{cells, entry_limit}
use Rattle.store_files.specs.DynamicIndex.{Ended}
use Rattle.store_files.specs.FixedIndex.{FixedIndex, fixed_of, fields_of, is_chunk_size, piece_count, piece_len}
use Rattle.index_pages.specs.declared.fault.PageFault.{PageFault}
use Rattle.index_pages.specs.Gives.{Gives}
use Rattle.index_pages.specs.Opening.{opened_by}
use Rattle.index_pages.specs.Paged.{Paged, paged}
use Rattle.paged_indexes.specs.declared.pieces.Cut.{Cut}
use Rattle.paged_indexes.specs.Steps.{entries_told}

-- ---- where pieces end

-- of pieces of one length, the first of which begins at the start: each begins where the one before it ends
abbrev pub fixed_ends_from : ℕ → ℕ → ℕ → List (List ℕ) → List Ended
fixed_ends_from size chunk_size start [] = []
fixed_ends_from size chunk_size start (d ∷ ds) =
    record { end = start + piece_len size chunk_size start; digest = d } ∷ fixed_ends_from size chunk_size (start + piece_len size chunk_size start) ds

abbrev pub fixed_ends : FixedIndex → List Ended
fixed_ends x = fixed_ends_from x.size x.chunk_size 0 x.digests

-- of the digests that the bytes are
abbrev pub ends_in : Cut → ℕ → List ℕ → List Ended
ends_in c start bytes = fixed_ends_from c.size c.chunk_size start (cells 32 bytes)

-- so many pieces more begin at the start or behind it, each within the archive
pub record Cuts (c : Cut) (start count : ℕ) : Type 0 where
  pub least : 1 ≤ c.chunk_size
  pub most : c.chunk_size ≤ 16_777_216
  pub within : start ≤ c.size
  pub reach : start + count * c.chunk_size < c.size + c.chunk_size

abbrev pub fixed_entries : List ℕ → List Ended
fixed_entries text = fixed_ends (fields_of text)

-- ---- what is kept

-- its pages, the archive's size, and the length of each piece but the last
pub record FixedPaged : Type 0 where
  pub pages : Paged
  pub size : ℕ
  pub chunk_size : ℕ

-- of a file's text that is an index
abbrev pub fixed_paged : List ℕ → List ℕ → FixedPaged
fixed_paged name text = record {
  pages = paged 32 name text;
  size = (fields_of text).size;
  chunk_size = (fields_of text).chunk_size;
}

-- of the file that stands there, where its text reads as an index; else why it does not
unfoldable pub opened : Files → List ℕ → Result FixedPaged PageFault
opened m name = opened_by fixed_of (fixed_paged name) (get m name)

-- on an honest disk it is opened so
abbrev pub OpensFixed : {D : Type 0} → Ghosts D → D → List ℕ → Result FixedPaged PageFault → Type 0
OpensFixed d disk name result = d.honest disk → Gives (λ pages. pages) result (opened (d.content disk) name)

-- the piece that has the byte at an offset; none from the size on
abbrev pub chunk_in : FixedPaged → ℕ → Option ℕ
chunk_in p offset = if nat_lt offset p.size then Some (offset / p.chunk_size) else None

-- the chunk size is allowed, and the size makes so many pieces
abbrev pub sizes_agree : ℕ → ℕ → ℕ → Bool
sizes_agree size chunk_size count = is_chunk_size chunk_size && (count == piece_count size chunk_size)

-- the entries are digests, as many as the size makes
pub record HasSizes (p : Paged) (size chunk_size : ℕ) : Type 0 where
  pub width : p.width ≡ 32
  pub limit : p.count ≤ entry_limit
  pub allowed : IsTrue (is_chunk_size chunk_size)
  pub pieces : p.count ≡ piece_count size chunk_size

abbrev pub cut_of : FixedPaged → Cut
cut_of p = record { size = p.size; chunk_size = p.chunk_size }

-- where the first piece of page i begins, and where the last one ends
abbrev pub start_in : FixedPaged → ℕ → ℕ
start_in p i = min p.size (i * 1024 * p.chunk_size)

abbrev pub stop_in : FixedPaged → ℕ → ℕ
stop_in p i = min p.size ((i + 1) * 1024 * p.chunk_size)

-- the entries of page i of which these are the digests, as they stood at the opening
abbrev pub fixed_told : FixedPaged → ℕ → List ℕ → Result (List Ended) PageFault
fixed_told p i bytes = entries_told i (start_in p i) (stop_in p i) (ends_in (cut_of p) (start_in p i) bytes)

-- the first page that ends behind an offset
abbrev pub page_with : FixedPaged → ℕ → Option ℕ
page_with p offset = if nat_lt offset p.size then Some (offset / p.chunk_size / 1024) else None
