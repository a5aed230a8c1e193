-- The entries of an index as they are handed on, page by page.
use Rattle.std.specs.Prelude.{◌≡◌, ℕ, ◌+◌, ◌*◌, ◌<◌, ◌≤◌, IsTrue, List, ◌++◌, length, take, drop, Some, Result, Ok, Err}
use Rattle.std.specs.FinMap.{get}
use Rattle.disk_trait.specs.declared.disk.Disk.{Ghosts}
use Rattle.store_files.specs.DynamicIndex.{Ended}
use Rattle.store_files.specs.Entries.{FitsIndex}
use Rattle.dynamic_index.specs.Pieces.{last_end}
use Rattle.index_pages.specs.declared.fault.PageFault.{PageFault}
use Rattle.index_pages.specs.declared.fault.PageFault.TheVariants.{NoMemory}
use Rattle.index_pages.specs.Paged.{Paged, is_kept, page_count}
use Rattle.paged_indexes.specs.declared.kinds.IndexEntry.{IndexEntry}

-- an entry as the files of indexes have it
abbrev pub ended_of : IndexEntry → Ended
ended_of e = record { end = e.end; digest = (e.digest).0 }

-- a piece has 1 to 16,777,216 bytes
abbrev pub IsStep : ℕ → ℕ → Type 0
IsStep start end = (start < end) × (end ≤ start + 16_777_216)

-- Behind those that were taken, wherever their first one begins, of which the last ends at the start, these are taken.
abbrev pub HandsOn : {T : Type 0} → (T → ℕ → List Ended → Type 0) → ℕ → List Ended → T → T → Type 0
HandsOn taken start entries old new = (base : ℕ) (before : List Ended) → taken old base before → last_end base before ≡ start → taken new base (before ++ entries)

-- how bytes of a page are read as its entries
abbrev pub Tells : Type 0
Tells = ℕ → List ℕ → Result (List Ended) PageFault

-- bytes of page i with the SHA-256 that was kept spell those that stand at its place
pub record AreSpelled (p : Paged) (tells : Tells) (entries : List Ended) (i : ℕ) : Type 0 where
  pub bytes : List ℕ
  pub kept : IsTrue (is_kept p i bytes)
  pub told : tells i bytes ≡ Ok (take 1024 (drop (i * 1024) entries))

-- as many entries as were counted are taken, which an archive may have, and each page's are spelled by what was kept
pub record HandsSome {T : Type 0} (taken : T → ℕ → List Ended → Type 0) (p : Paged) (tells : Tells) (old new : T) : Type 0 where
  pub entries : List Ended
  pub many : length entries ≡ p.count
  pub fit : FitsIndex entries
  pub pages : (i : ℕ) → i < page_count p.count → AreSpelled p tells entries i
  pub hands : HandsOn taken 0 entries old new

-- of an honest disk they are those of the file's text
abbrev pub HandsThose : {D T : Type 0} → Ghosts D → D → List ℕ → (List ℕ → List Ended) → (T → ℕ → List Ended → Type 0) → T → T → Type 0
HandsThose d disk name entries_of taken old new =
    d.honest disk → (text : List ℕ) → get (d.content disk) name ≡ Some text → HandsOn taken 0 (entries_of text) old new

-- these are taken behind those before
pub record HandsAll {T : Type 0} (taken : T → ℕ → List Ended → Type 0) (start : ℕ) (told : Result (List Ended) PageFault) (old new : T) : Type 0 where
  pub entries : List Ended
  pub told_is : told ≡ Ok entries
  pub hands : HandsOn taken start entries old new

-- The entries that are told are taken, of which the first one's piece begins at the start, or the fault is told. Where memory is wanting
-- nothing is said.
abbrev pub HandsTold : {T : Type 0} → (T → ℕ → List Ended → Type 0) → ℕ → Result (List Ended) PageFault → T → T → Result (Unit {0}) PageFault → Type 0
HandsTold taken start told old new (Ok x) = HandsAll taken start told old new
HandsTold taken start told old new (Err NoMemory) = Unit {0}
HandsTold taken start told old new (Err fault) = told ≡ Err fault
