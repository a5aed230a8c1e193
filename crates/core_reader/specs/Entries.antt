-- An entry of an index of the reader's snapshot, by the page that has it.
use Rattle.std.specs.Prelude.{◌≡◌, ◌<◌, ◌/◌, ◌%◌, ◌==◌, ℕ, true, List, ◌∷◌, slice_get, is_some, nat_lt, if◌then◌else◌, Option, None, Some, option_map, Result, Ok}
use Rattle.disk_trait.specs.Files.{Files}
use Rattle.store_types.specs.declared.names.Digest32.{Digest32}
use Rattle.store_types.specs.declared.refusal.Refusal.{Refusal}
use Rattle.store_types.specs.declared.refusal.Refusal.TheVariants.{BadRange, Unreadable}
use Rattle.store_types.specs.Chain.Refusing.{◌>>=◌, or_else, unless}
use Rattle.store_files.specs.DynamicIndex.{Ended}
use Rattle.paged_indexes.specs.declared.index.IndexPages.{IndexPages}
use Rattle.paged_indexes.specs.declared.kinds.IndexKind.{IndexKind}
use Rattle.paged_indexes.specs.Index.{pages_by}
use Rattle.snapshot_files.specs.Indexes.{index_opened, kind_of_index, page_entries}
use Rattle.restore_reader.specs.Plan.{ends_of}
use Rattle.core_state.specs.declared.indexes.OpenIndex.{OpenIndex}
use Rattle.core_state.specs.declared.indexes.OpenPage.{OpenPage}
use Rattle.core_state.specs.declared.indexes.Indexes.{Indexes}
use Rattle.core_state.specs.declared.indexes.Indexes.TheVariants.{Unread, Pooled, Opened, LastPage}
use Rattle.core_state.specs.Indexed.{open_of, opened_of, page_of}
use Rattle.core_reader.specs.declared.entries.Turn.{Turn}
use Rattle.core_reader.specs.declared.entries.Turn.TheVariants.{Stay, ToPage, ToIndex}
use Rattle.core_reader.specs.Ranges.{AreKept}

-- ---- what is told of an entry

-- how many entries an index has that was opened
abbrev pub count_of : IndexPages → ℕ
count_of pages = (pages_by pages).count

-- there is such an entry
abbrev pub want_entry : IndexPages → ℕ → Result (Unit {0}) Refusal
want_entry pages place = unless (BadRange (count_of pages)) (nat_lt place (count_of pages))

abbrev pub digest_of_end : Ended → Digest32
digest_of_end e = record { 0 = e.digest }

-- the digest at a place of these entries
abbrev pub digest_among : List Ended → ℕ → Option Digest32
digest_among entries place = option_map digest_of_end (slice_get entries place)

-- of the entry among those of its page
abbrev pub digest_on : List ℕ → ℕ → List Ended → Result Digest32 Refusal
digest_on path place entries = or_else (Unreadable path) (digest_among entries (place % 1024))

-- the page, where it is the one that has the entry
abbrev pub page_for : ℕ → Option OpenPage → Option OpenPage
page_for place None = None
page_for place (Some p) = if p.number == place / 1024 then Some p else None

-- the page of the index of this name that has the entry, where it is at hand
abbrev pub at_hand : Indexes → List ℕ → ℕ → Option OpenPage
at_hand row name place = page_for place (page_of name row)

-- its entries are not read again: a page has 1,024 at the most
abbrev pub entries_on : Option OpenPage → ℕ → Files → List ℕ → IndexPages → Result (List Ended) Refusal
entries_on None place m path pages = page_entries m path pages (place / 1024)
entries_on (Some p) place m path pages = Ok (ends_of p.entries.items)

-- of an index that is open: it has no such entry, or the page is not as it was opened
unfoldable pub entry_on : IndexPages → Option OpenPage → ℕ → Files → List ℕ → Result Digest32 Refusal
entry_on pages page place m path = do
  _ ← want_entry pages place
  entries ← entries_on page place m path pages
  digest_on path place entries

-- of one that is opened for it. Nothing is there, or it is no index of this kind; then the same.
unfoldable pub entry_at : IndexKind → ℕ → Files → List ℕ → Result Digest32 Refusal
entry_at of_kind place m path = index_opened m path of_kind >>= λ pages. entry_on pages None place m path

abbrev pub entry_of : Option OpenIndex → Option OpenPage → IndexKind → ℕ → Files → List ℕ → Result Digest32 Refusal
entry_of None page of_kind place m path = entry_at of_kind place m path
entry_of (Some o) page of_kind place m path = entry_on o.pages page place m path

-- the digest of an entry of the index of this name, beside what the lane keeps of indexes
abbrev pub entry_by : Indexes → List ℕ → ℕ → Files → List ℕ → Result Digest32 Refusal
entry_by row name place m path = entry_of (open_of name row) (at_hand row name place) (kind_of_index name) place m path

-- ---- what was opened and read for it

-- The page has the entry, and is of the index of this name. On any disk bytes of it with the SHA-256 that was kept spell its entries.
pub record IsPageFor (pages : IndexPages) (name : List ℕ) (place : ℕ) (p : OpenPage) : Type 0 where
  pub named : p.name ≡ name
  pub number : p.number ≡ place / 1024
  pub below : place < count_of pages
  pub spelled : AreKept pages p.number (ends_of p.entries.items)

-- an honest disk gave it
abbrev pub ReadsPage : Files → List ℕ → IndexPages → OpenPage → Type 0
ReadsPage m path pages p = page_entries m path pages p.number ≡ Ok (ends_of p.entries.items)

-- of an index that is opened for it
abbrev pub IsFirst : List ℕ → ℕ → Turn → Type 0
IsFirst name place Stay = ⊥
IsFirst name place (ToPage p) = ⊥
IsFirst name place (ToIndex o p) = (o.name ≡ name) × IsPageFor o.pages name place p

abbrev pub ReadsFirst : Files → List ℕ → List ℕ → Turn → Type 0
ReadsFirst m path name Stay = ⊥
ReadsFirst m path name (ToPage p) = ⊥
ReadsFirst m path name (ToIndex o p) = (index_opened m path (kind_of_index name) ≡ Ok o.pages) × ReadsPage m path o.pages p

-- of one that is open: nothing where its page is at hand
abbrev pub IsNext : IndexPages → Option OpenPage → List ℕ → ℕ → Turn → Type 0
IsNext pages page name place Stay = is_some page ≡ true
IsNext pages page name place (ToPage p) = (page ≡ None) × IsPageFor pages name place p
IsNext pages page name place (ToIndex o p) = ⊥

abbrev pub ReadsNext : Files → List ℕ → IndexPages → Turn → Type 0
ReadsNext m path pages Stay = Unit {0}
ReadsNext m path pages (ToPage p) = ReadsPage m path pages p
ReadsNext m path pages (ToIndex o p) = ⊥

-- by which of the two it is
abbrev pub IsTurnOf : Option OpenIndex → Option OpenPage → List ℕ → ℕ → Turn → Type 0
IsTurnOf None page name place turn = IsFirst name place turn
IsTurnOf (Some o) page name place turn = IsNext o.pages page name place turn

abbrev pub ReadsTurnOf : Option OpenIndex → Files → List ℕ → List ℕ → Turn → Type 0
ReadsTurnOf None m path name turn = ReadsFirst m path name turn
ReadsTurnOf (Some o) m path name turn = ReadsNext m path o.pages turn

-- beside what the lane keeps
abbrev pub IsTurn : Indexes → List ℕ → ℕ → Turn → Type 0
IsTurn row name place turn = IsTurnOf (open_of name row) (at_hand row name place) name place turn

abbrev pub ReadsTurn : Indexes → Files → List ℕ → List ℕ → Turn → Type 0
ReadsTurn row m path name turn = ReadsTurnOf (open_of name row) m path name turn

-- ---- what the lane keeps then

abbrev pub turned_to : OpenPage → Indexes → Indexes
turned_to p Unread = Unread
turned_to p (Pooled names) = Pooled names
turned_to p (Opened o) = Opened (record { opened = o.opened; page = p })
turned_to p (LastPage x) = LastPage x

abbrev pub turned : Turn → Indexes → Indexes
turned Stay row = row
turned (ToPage p) row = turned_to p row
turned (ToIndex o p) row = Opened (record { opened = o ∷ opened_of row; page = p })
