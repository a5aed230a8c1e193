-- The entries of an index that are marked next, read by pages.
use Rattle.std.specs.Prelude.{◌≡◌, ◌⊎◌, ℕ, ◌+◌, ◌-◌, ◌*◌, ◌/◌, ◌%◌, ◌==◌, Bool, true, false, IsTrue, List, [], ◌++◌, length, map, take, drop, min, nat_lt, if◌then◌else◌, Option, Some, None, Result, Ok, Err}
use Rattle.disk_trait.specs.Files.{Files}
use Rattle.disk_trait.specs.declared.disk.Disk.{Ghosts}
use Rattle.store_types.specs.Chain.Refusing.{◌>>=◌}
use Rattle.store_types.specs.declared.names.Digest32.{Digest32}
use Rattle.store_types.specs.declared.refusal.Refusal.{Refusal}
use Rattle.store_types.specs.declared.refusal.Refusal.TheVariants as refusals
use Rattle.store_files.specs.DynamicIndex.{Ended}
use Rattle.index_pages.specs.declared.fault.PageFault.{PageFault}
use Rattle.index_pages.specs.declared.fault.PageFault.TheVariants.{Failed, NoMemory}
use Rattle.index_pages.specs.Gives.{Gives}
use Rattle.index_pages.specs.Paged.{is_kept, page_at}
use Rattle.gc_plan.specs.Plan.{mark_limit}
use Rattle.paged_indexes.specs.declared.index.IndexPages.{IndexPages}
use Rattle.paged_indexes.specs.Index.{entries_read, pages_by, told_by}
use Rattle.snapshot_files.specs.Indexes.{entries_or}
use Rattle.core_state.specs.declared.marked.MarkedPage.{MarkedPage}
use Rattle.core_state.specs.MarkedPage.{IsMarkedPage}
use Rattle.core_collect.specs.declared.marking.Batch.{Batch}
use Rattle.core_collect.specs.declared.marking.Unread.{Unread}
use Rattle.core_collect.specs.declared.marking.Unread.TheVariants.{Unreadable}

abbrev pub bytes_of : List Digest32 → List (List ℕ)
bytes_of digests = map (λ d. d.0) digests

abbrev pub entry_digests : List Ended → List (List ℕ)
entry_digests entries = map (λ e. e.digest) entries

-- those from one on that are marked at a time
abbrev pub marked_from : ℕ → List (List ℕ) → List (List ℕ)
marked_from first digests = take mark_limit (drop first digests)

-- ---- pages

-- of so many entries, those that are marked from this one on do not end in its page
abbrev pub reaches_on : ℕ → ℕ → Bool
reaches_on count first = nat_lt ((first / 1024 + 1) * 1024) (min (first + mark_limit) count)

-- the bytes of page i: those at hand, where they are its, else those of the file that stands there
abbrev pub bytes_at : Files → IndexPages → Option MarkedPage → ℕ → Result (List ℕ) PageFault
bytes_at m p None i = page_at m (pages_by p) i
bytes_at m p (Some q) i = if q.number == i then Ok q.bytes else page_at m (pages_by p) i

-- its entries; a page that is not at hand is unreadable where it is not as it was opened
unfoldable pub page_told : Files → List ℕ → IndexPages → Option MarkedPage → ℕ → Result (List Ended) Refusal
page_told m path p at_hand i = entries_or path (entries_read p i (bytes_at m p at_hand i))

-- the entries of the page of this one, and those of the next page where they reach on
unfoldable pub next_entries : Files → List ℕ → IndexPages → Option MarkedPage → ℕ → Result (List Ended) Refusal
next_entries m path p at_hand first = do
  page ← page_told m path p at_hand (first / 1024)
  next ← if reaches_on (pages_by p).count first then page_told m path p None (first / 1024 + 1) else Ok []
  Ok (page ++ next)

-- the digests that are marked from this entry on: of 1,000 entries, or of all that are left
unfoldable pub next_read : Files → List ℕ → IndexPages → Option MarkedPage → ℕ → Result (List (List ℕ)) Refusal
next_read m path p at_hand first =
    next_entries m path p at_hand first >>= λ entries. Ok (marked_from (first % 1024) (entry_digests entries))

-- the number of the page of the last of these entries
abbrev pub last_page : IndexPages → ℕ → ℕ
last_page p first = if reaches_on (pages_by p).count first then first / 1024 + 1 else first / 1024

-- ---- on any disk

-- bytes with the SHA-256 that the opening kept spell these as the entries of page i
pub record AreKept (p : IndexPages) (i : ℕ) (entries : List Ended) : Type 0 where
  pub bytes : List ℕ
  pub kept : IsTrue (is_kept (pages_by p) i bytes)
  pub told : told_by p i bytes ≡ Ok entries

-- where the page is read
abbrev pub AreKeptIf : Bool → IndexPages → ℕ → List Ended → Type 0
AreKeptIf true p i entries = AreKept p i entries
AreKeptIf false p i entries = entries ≡ []

-- the entries of the page of this one and of the next one, as their opening read them
pub record AreKeptFrom (p : IndexPages) (first : ℕ) (entries : List Ended) : Type 0 where
  pub page : List Ended
  pub next : List Ended
  pub page_is : AreKept p (first / 1024) page
  pub next_is : AreKeptIf (reaches_on (pages_by p).count first) p (first / 1024 + 1) next
  pub entries_are : entries ≡ page ++ next

-- of these the digests are marked from this entry on
abbrev pub AreNext : IndexPages → ℕ → List Digest32 → Type 0
AreNext p first digests =
    (entries : List Ended) × AreKeptFrom p first entries × (bytes_of digests ≡ marked_from (first % 1024) (entry_digests entries))

-- ---- a page that is at hand then

-- it is page i, and as its opening read it, on any disk
pub record IsThePage (p : IndexPages) (i : ℕ) (q : MarkedPage) : Type 0 where
  pub number : q.number ≡ i
  pub read : IsMarkedPage p q

-- its bytes were at hand, or are those of the file that stands there
abbrev pub IsHad : Files → IndexPages → Option MarkedPage → MarkedPage → Type 0
IsHad m p at_hand q = (bytes_at m p at_hand q.number ≡ Ok q.bytes) ⊎ (page_at m (pages_by p) q.number ≡ Ok q.bytes)

-- on an honest disk its bytes are those at hand or the file's, or the fault is told
abbrev pub HasPage : {D : Type 0} → Ghosts D → D → IndexPages → Option MarkedPage → ℕ → Result MarkedPage PageFault → Type 0
HasPage d disk p at_hand i result = d.honest disk → Gives (λ q. q.bytes) result (bytes_at (d.content disk) p at_hand i)

-- or the fault is told for which they do not spell its entries
abbrev pub TellsPage : Files → IndexPages → Option MarkedPage → ℕ → Result MarkedPage PageFault → Type 0
TellsPage m p at_hand i (Ok q) = bytes_at m p at_hand i ≡ Ok q.bytes
TellsPage m p at_hand i (Err Failed) = Unit {0}
TellsPage m p at_hand i (Err NoMemory) = Unit {0}
TellsPage m p at_hand i (Err fault) = entries_read p i (bytes_at m p at_hand i) ≡ Err fault

abbrev pub HandsPage : {D : Type 0} → Ghosts D → D → IndexPages → Option MarkedPage → ℕ → Result MarkedPage PageFault → Type 0
HandsPage d disk p at_hand i result = d.honest disk → TellsPage (d.content disk) p at_hand i result

-- or it is told that it is unreadable
abbrev pub GivesPage : Files → List ℕ → IndexPages → Option MarkedPage → ℕ → Result MarkedPage Unread → Type 0
GivesPage m path p at_hand i (Ok q) = bytes_at m p at_hand i ≡ Ok q.bytes
GivesPage m path p at_hand i (Err (Unreadable name)) = page_told m path p at_hand i ≡ Err (refusals.Unreadable name)
GivesPage m path p at_hand i (Err unread) = Unit {0}

abbrev pub ReadsPage : {D : Type 0} → Ghosts D → D → List ℕ → IndexPages → Option MarkedPage → ℕ → Result MarkedPage Unread → Type 0
ReadsPage d disk path p at_hand i result = d.honest disk → GivesPage (d.content disk) path p at_hand i result

-- ---- as entries are read

-- The digests are taken of those behind the first 1,024, as many as are marked at a time: so many are still passed over.
pub record IsBatch (b : Batch) (digests : List (List ℕ)) : Type 0 where
  pub skipped : b.skip ≡ 1024 - length digests
  pub taken : bytes_of b.digests.items ≡ marked_from 1024 digests

-- those of these entries follow
abbrev pub TakesAll : Batch → Batch → List Ended → Type 0
TakesAll old new entries = (digests : List (List ℕ)) → IsBatch old digests → IsBatch new (digests ++ entry_digests entries)

-- of page i those that its bytes spell, on any disk
pub record TakesPage (p : IndexPages) (i : ℕ) (old new : Batch) (q : MarkedPage) : Type 0 where
  pub page : IsThePage p i q
  pub entries : List Ended
  pub told : told_by p i q.bytes ≡ Ok entries
  pub takes : TakesAll old new entries

-- of what is at hand and of an honest disk's file
abbrev pub TakesNext : Files → List ℕ → IndexPages → Option MarkedPage → ℕ → Batch → Batch → Result MarkedPage Unread → Type 0
TakesNext m path p at_hand first old new (Ok q) =
    ((entries : List Ended) × (next_entries m path p at_hand first ≡ Ok entries) × TakesAll old new entries) × IsHad m p at_hand q
TakesNext m path p at_hand first old new (Err (Unreadable name)) = next_entries m path p at_hand first ≡ Err (refusals.Unreadable name)
TakesNext m path p at_hand first old new (Err unread) = Unit {0}

abbrev pub ReadsPages : {D : Type 0} → Ghosts D → D → List ℕ → IndexPages → Option MarkedPage → ℕ → Batch → Batch → Result MarkedPage Unread → Type 0
ReadsPages d disk path p at_hand first old new result = d.honest disk → TakesNext (d.content disk) path p at_hand first old new result

-- on any disk, and the page of the last one is at hand
pub record TakesKept (p : IndexPages) (first : ℕ) (old new : Batch) (q : MarkedPage) : Type 0 where
  pub entries : List Ended
  pub kept : AreKeptFrom p first entries
  pub takes : TakesAll old new entries
  pub last : IsThePage p (last_page p first) q
