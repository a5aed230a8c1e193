-- How an entry of an index is read.
use Rattle.std.specs.Prelude.{◌≡◌, ℕ, ◌-◌, ◌/◌, List, length, take, drop, Option, None, Some, Result, IfOk}
use Rattle.disk_trait.specs.declared.disk.Disk.{Ghosts}
use Rattle.store_types.specs.declared.names.Digest32.{Digest32}
use Rattle.store_types.specs.declared.refusal.Refusal.{Refusal}
use Rattle.std.specs.FinMap.{get}
use Rattle.disk_trait.specs.Files.{Files}
use Rattle.store_files.specs.Cells.{entry_limit}
use Rattle.store_files.specs.DynamicIndex.{Ended}
use Rattle.index_pages.specs.Calls.{CallsAtMost, opening_calls}
use Rattle.paged_indexes.specs.Calls.{entry_width}
use Rattle.paged_indexes.specs.declared.index.IndexPages.{IndexPages}
use Rattle.paged_indexes.specs.declared.kinds.IndexKind.{IndexKind}
use Rattle.paged_indexes.specs.declared.kinds.IndexEntry.{IndexEntry}
use Rattle.snapshot_files.specs.Indexes.{kind_of_index, page_entries}
use Rattle.restore_reader.specs.Plan.{ends_of}
use Rattle.store_stops.specs.declared.stop.Stop.{Stop}
use Rattle.store_stops.specs.Stops.{Gives}
use Rattle.core_state.specs.declared.indexes.OpenIndex.{OpenIndex}
use Rattle.core_state.specs.declared.indexes.OpenPage.{OpenPage}
use Rattle.core_state.specs.declared.indexes.Indexes.{Indexes}
use Rattle.core_reader.specs.declared.entries.Found.{Found}
use Rattle.core_reader.specs.declared.entries.PageTaken.{PageTaken}
use Rattle.core_state.specs.Indexed.{open_of}
use Rattle.core_reader.specs.Entries.{ReadsFirst, ReadsNext, ReadsTurn, at_hand, digest_on, entry_at, entry_by, entry_on}

-- the digest is the entry's
abbrev pub GivesDigest : List ℕ → List IndexEntry → ℕ → Result Digest32 Stop → Type 0
GivesDigest path es place result = Gives (λ (digest : Digest32). digest) result (digest_on path place (ends_of es))

-- ---- a page that is taken as its index is opened

-- The entries are those behind the first 1,048,576, of one page: so many are still passed over.
pub record IsTaken (p : PageTaken) (entries : List Ended) : Type 0 where
  pub skipped : p.skip ≡ entry_limit - length entries
  pub taken : ends_of p.entries.items ≡ take 1024 (drop entry_limit entries)

-- ---- of an honest disk

-- the entries of the page that has it, or the refusal
abbrev pub GivesPage : {D : Type 0} → Ghosts D → D → List ℕ → IndexPages → ℕ → Result OpenPage Stop → Type 0
GivesPage d disk path pages place result = d.honest disk → Gives (λ (p : OpenPage). ends_of p.entries.items) result (page_entries (d.content disk) path pages (place / 1024))

-- what is found is what is told of the entry, and what was read for it stands there
pub record FindsAs {D : Type 0} (d : Ghosts D) (disk : D) (told : Files → Result Digest32 Refusal) (Reads : Files → Found → Type 0) (result : Result Found Stop) : Type 0 where
  pub gives : d.honest disk → Gives (λ (f : Found). f.digest) result (told (d.content disk))
  pub reads : d.honest disk → IfOk result (Reads (d.content disk))

-- of the index as it is opened
abbrev pub FindsFirst : {D : Type 0} → Ghosts D → D → List ℕ → List ℕ → ℕ → Result Found Stop → Type 0
FindsFirst d disk path name place result = FindsAs d disk (λ m. entry_at (kind_of_index name) place m path) (λ m f. ReadsFirst m path name f.turn) result

-- of one that is open
abbrev pub FindsNext : {D : Type 0} → Ghosts D → D → List ℕ → IndexPages → Option OpenPage → ℕ → Result Found Stop → Type 0
FindsNext d disk path pages page place result = FindsAs d disk (λ m. entry_on pages page place m path) (λ m f. ReadsNext m path pages f.turn) result

-- beside what the lane keeps
abbrev pub FindsBy : {D : Type 0} → Ghosts D → D → List ℕ → Indexes → List ℕ → ℕ → Result Found Stop → Type 0
FindsBy d disk path row name place result = FindsAs d disk (λ m. entry_by row name place m path) (λ m f. ReadsTurn row m path name f.turn) result

-- ---- how often an honest disk is called for it

-- An index that is open is read by one page, and not at all where that page is at hand.
abbrev pub calls_beside : Option OpenPage → ℕ
calls_beside None = 1
calls_beside (Some p) = 0

-- one that is not is opened, as it stands there
abbrev pub entry_calls : Option OpenIndex → Option OpenPage → IndexKind → Option (List ℕ) → ℕ
entry_calls None page of_kind text = opening_calls (entry_width of_kind) text
entry_calls (Some o) page of_kind text = calls_beside page

-- beside what the lane keeps
abbrev pub CallsForEntry : {D : Type 0} → Ghosts D → D → D → List ℕ → Indexes → List ℕ → ℕ → Type 0
CallsForEntry d old new path row name place =
    CallsAtMost d old new (entry_calls (open_of name row) (at_hand row name place) (kind_of_index name) (get (d.content old) path))
