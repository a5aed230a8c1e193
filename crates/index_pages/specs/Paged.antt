-- An index as it is kept for its pages to be read.
use Rattle.std.specs.Prelude.{◌≡◌, ◌⊎◌, ℕ, ◌+◌, ◌-◌, ◌*◌, ◌/◌, ◌≤◌, Bool, ◌&&◌, List, [], ◌++◌, length, map, take, drop, min, ◌==◌, if◌then◌else◌, Option, Some, None, Result, Ok, Err, slice_index_or}
use Rattle.std.specs.List.{range_with_len}
use Rattle.std.specs.Str.{bytes_eq}
use Rattle.std.specs.FinMap.{get}
use Rattle.sha2.specs.Sha256.{sha256}
use Rattle.disk_trait.specs.Files.{Files}
use Rattle.disk_trait.specs.declared.disk.Disk.{Ghosts}
use Rattle.store_files.specs.Cells.{header_len, entry_limit}
use Rattle.index_pages.specs.declared.fault.PageFault.{PageFault}
use Rattle.index_pages.specs.declared.fault.PageFault.TheVariants.{Missing, Changed}
use Rattle.index_pages.specs.declared.state.PageSum.{PageSum}
use Rattle.index_pages.specs.Gives.{Gives}
use Rattle.hash_states.specs.States.{absorb, digest_of, state_after}

-- where it stands, how wide its entries are and how many there are; of each page the state of the SHA-256 of all entries
-- before it, and that SHA-256 at its end
pub record Paged : Type 0 where
  pub name : List ℕ
  pub width : ℕ
  pub count : ℕ
  pub sums : List PageSum

abbrev pub paged_by : List ℕ → ℕ → ℕ → List PageSum → Paged
paged_by name width count sums = record { name = name; width = width; count = count; sums = sums }

-- a digest, or an end offset and a digest
abbrev pub IsWidth : ℕ → Type 0
IsWidth width = (width ≡ 32) ⊎ (width ≡ 40)

-- how many pages so many entries make
abbrev pub page_count : ℕ → ℕ
page_count count = (count + 1023) / 1024

-- how many bytes a page has that is not the last
abbrev pub page_size : ℕ → ℕ
page_size width = 1024 * width

-- how many entries a page has, the last one the rest, and how many bytes
abbrev pub entries_at : ℕ → ℕ → ℕ
entries_at count i = min 1024 (count - i * 1024)

abbrev pub page_len : Paged → ℕ → ℕ
page_len p i = entries_at p.count i * p.width

-- where it begins in the file
abbrev pub page_start : Paged → ℕ → ℕ
page_start p i = header_len + i * page_size p.width

-- its bytes in a file's text
abbrev pub page_text : Paged → ℕ → List ℕ → List ℕ
page_text p i text = take (page_len p i) (drop (page_start p i) text)

abbrev pub no_sum : PageSum
no_sum = record { before = state_after []; sum = record { 0 = [] } }

abbrev pub sum_at : Paged → ℕ → PageSum
sum_at p i = slice_index_or p.sums i no_sum

-- behind the entries before the page the bytes have the SHA-256 that was kept
abbrev pub has_sum : PageSum → List ℕ → Bool
has_sum s bytes = bytes_eq (digest_of (absorb s.before bytes)) (s.sum).0

-- and they are as many as the page has
abbrev pub is_kept : Paged → ℕ → List ℕ → Bool
is_kept p i bytes = (length bytes == page_len p i) && has_sum (sum_at p i) bytes

-- the page of a file's text, where it is as it was opened
abbrev pub page_in : Paged → ℕ → Option (List ℕ) → Result (List ℕ) PageFault
page_in p i None = Err Missing
page_in p i (Some text) = if is_kept p i (page_text p i text) then Ok (page_text p i text) else Err (Changed i)

-- of the file that stands there
unfoldable pub page_at : Files → Paged → ℕ → Result (List ℕ) PageFault
page_at m p i = page_in p i (get m p.name)

-- on an honest disk it is read into these, or the fault is told
abbrev pub ReadsPage : {D A : Type 0} → Ghosts D → D → Paged → ℕ → List ℕ → Result A PageFault → Type 0
ReadsPage d disk p i into result = d.honest disk → Gives (λ _. into) result (page_at (d.content disk) p i)

-- ---- what an opening keeps of a file's text

-- of a body, which is what stands behind the header, all bytes before a page
abbrev pub front_of : ℕ → List ℕ → ℕ → List ℕ
front_of width body i = take (i * page_size width) body

abbrev pub page_sum : ℕ → List ℕ → ℕ → PageSum
page_sum width body i = record { before = state_after (front_of width body i); sum = record { 0 = sha256 (front_of width body (i + 1)) } }

-- of the first so many pages
abbrev pub first_sums : ℕ → ℕ → List ℕ → List PageSum
first_sums width n body = map (page_sum width body) (range_with_len 0 n)

abbrev pub count_of : ℕ → List ℕ → ℕ
count_of width text = (length text - header_len) / width

unfoldable pub paged : ℕ → List ℕ → List ℕ → Paged
paged width name text = record {
  name = name;
  width = width;
  count = count_of width text;
  sums = first_sums width (page_count (count_of width text)) (drop header_len text);
}

-- it is of these bytes, as many as the entries have: of each page the state before it and the SHA-256 at its end are theirs
pub record IsOfBytes (p : Paged) : Type 0 where
  pub body : List ℕ
  pub whole : length body ≡ p.count * p.width
  pub sums : p.sums ≡ first_sums p.width (page_count p.count) body

-- as many bytes as page i has, which behind those before it have the SHA-256 at its end
pub record IsPageOf (p : Paged) (body : List ℕ) (i : ℕ) (bytes : List ℕ) : Type 0 where
  pub len : length bytes ≡ page_len p i
  pub sum : sha256 (front_of p.width body i ++ bytes) ≡ sha256 (front_of p.width body (i + 1))

-- it has a sum of each of its pages, which are of bytes, and not too many
pub record FitsPaged (p : Paged) : Type 0 where
  pub width : IsWidth p.width
  pub limit : p.count ≤ entry_limit
  pub sums : length p.sums ≡ page_count p.count
  pub bytes : IsOfBytes p
