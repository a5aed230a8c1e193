-- The opening of an index, page by page.
use Rattle.std.specs.Prelude.{◌≡◌, ℕ, ◌+◌, ◌-◌, ◌*◌, ◌/◌, ◌%◌, ◌<◌, not, List, [], ◌++◌, ◌∷◌, length, take, drop, ◌==◌, nat_lt, if◌then◌else◌, Option, Some, None, Result, Ok, Err, get_or}
use Rattle.std.specs.Str.{bytes_eq}
use Rattle.std.specs.FinMap.{get}
use Rattle.sha2.specs.Sha256.{sha256}
use Rattle.disk_trait.specs.declared.disk.Disk.{Ghosts}
use Rattle.store_files.specs.Cells.{header_len, entry_limit}
use Rattle.store_files.specs.declared.causes.IndexFault.{IndexFault}
use Rattle.store_files.specs.declared.causes.IndexFault.TheVariants.{Short, Magic, Length, Count}
use Rattle.index_pages.specs.declared.fault.PageFault.{PageFault}
use Rattle.index_pages.specs.declared.fault.PageFault.TheVariants.{Missing, BadIndex, Failed, NoMemory}
use Rattle.index_pages.specs.declared.opening.Opening.{Opening}
use Rattle.index_pages.specs.declared.opening.Body.{Body}
use Rattle.index_pages.specs.declared.head.Head.{Head}
use Rattle.index_pages.specs.Gives.{Gives}
use Rattle.index_pages.specs.declared.state.PageSum.{PageSum}
use Rattle.index_pages.specs.Paged.{entries_at, first_sums, front_of, page_count, page_size}
use Rattle.hash_states.specs.States.{state_after}

-- ---- what an opening tells

-- what is kept of a text where it is an index, else why it is none
abbrev pub told_by : {X P : Type 0} → P → Result X IndexFault → Result P PageFault
told_by kept (Ok x) = Ok kept
told_by kept (Err cause) = Err (BadIndex cause)

-- of the file that stands there, by how a text is read as an index
abbrev pub opened_by : {X P : Type 0} → (List ℕ → Result X IndexFault) → (List ℕ → P) → Option (List ℕ) → Result P PageFault
opened_by read keep None = Err Missing
opened_by read keep (Some text) = told_by (keep text) (read text)

-- ---- the front of the file

abbrev pub front_in : Option (List ℕ) → Result (ℕ × List ℕ) PageFault
front_in None = Err Missing
front_in (Some text) = if nat_lt (length text) header_len then Err (BadIndex Short) else Ok (length text, take 80 text)

abbrev pub ReadsHead : {D : Type 0} → Ghosts D → D → List ℕ → Result Head PageFault → Type 0
ReadsHead d disk name result = d.honest disk → Gives (λ (h : Head). (h.size, h.front)) result (front_in (get (d.content disk) name))

-- how many entries of a width are behind it, where it has this magic number
abbrev pub count_told : List ℕ → ℕ → Head → Result ℕ PageFault
count_told magic width h =
    if not (bytes_eq (take 8 h.front) magic) then Err (BadIndex Magic)
    else (if not ((h.size - header_len) % width == 0) then Err (BadIndex Length)
    else (if nat_lt entry_limit ((h.size - header_len) / width) then Err (BadIndex Count)
    else Ok ((h.size - header_len) / width)))

-- ---- the machine: these sums are kept, and these bytes were hashed

pub record HasRead (kept : List PageSum) (bytes : List ℕ) (o : Opening) : Type 0 where
  pub sums : o.sums.items ≡ kept
  pub hashed : o.state ≡ state_after bytes

abbrev pub Begins : Opening → Type 0
Begins o = HasRead [] [] o

-- of a page behind these bytes
abbrev pub noted_sum : List ℕ → List ℕ → PageSum
noted_sum bytes page = record { before = state_after bytes; sum = record { 0 = sha256 (bytes ++ page) } }

abbrev pub NotesPage : Opening → Opening → List ℕ → Type 0
NotesPage old new page =
    (sums : List PageSum) (bytes : List ℕ) → HasRead sums bytes old → HasRead (sums ++ noted_sum bytes page ∷ []) (bytes ++ page) new

-- each is one of a byte
abbrev pub AreBytes : List ℕ → Type 0
AreBytes bytes = (i : ℕ) → get_or bytes i 0 < 256

-- the first so many pages of a body were read
pub record HasPages (width i : ℕ) (body : List ℕ) (o : Opening) : Type 0 where
  pub read : HasRead (first_sums width i body) (front_of width body i) o
  pub small : AreBytes (front_of width body i)

-- ---- a page

-- the bytes of page i of a body
abbrev pub page_of : ℕ → ℕ → ℕ → List ℕ → List ℕ
page_of width count i body = take (entries_at count i * width) (drop (i * page_size width) body)

-- these are the page's bytes, and they were noted
pub record Takes (width count i : ℕ) (body : List ℕ) (old new : Opening) (page : List ℕ) : Type 0 where
  pub bytes : page ≡ page_of width count i body
  pub noted : HasPages width i body old → HasPages width (i + 1) body new

-- where neither memory is wanting nor the disk failed, the page is there
abbrev pub TakesThe : (width count i : ℕ) → List ℕ → Opening → Opening → List ℕ → Result (Unit {0}) PageFault → Type 0
TakesThe width count i body old new page (Ok x) = Takes width count i body old new page
TakesThe width count i body old new page (Err Failed) = Unit {0}
TakesThe width count i body old new page (Err NoMemory) = Unit {0}
TakesThe width count i body old new page (Err fault) = ⊥

-- of the file that stands there, whose size is that of so many entries
abbrev pub TakesPage : {D : Type 0} → Ghosts D → D → List ℕ → (width count i : ℕ) → Opening → Opening → List ℕ → Result (Unit {0}) PageFault → Type 0
TakesPage d disk name width count i old new page result =
    d.honest disk → (text : List ℕ) → get (d.content disk) name ≡ Some text → length text ≡ header_len + count * width
    → TakesThe width count i (drop header_len text) old new page result

-- ---- all pages

-- of each page what is kept, and the SHA-256 of them all
pub record IsBody (width count : ℕ) (body : List ℕ) (b : Body) : Type 0 where
  pub sums : b.sums.items ≡ first_sums width (page_count count) body
  pub csum : b.csum ≡ sha256 body
  pub small : AreBytes body

pub record Closes (kept : List PageSum) (bytes : List ℕ) (b : Body) : Type 0 where
  pub sums : b.sums.items ≡ kept
  pub csum : b.csum ≡ sha256 bytes

abbrev pub ClosesAt : Opening → Body → Type 0
ClosesAt o b = (sums : List PageSum) (bytes : List ℕ) → HasRead sums bytes o → Closes sums bytes b
