-- What the lanes keep of indexes, and when it is of what their sessions have.
use Rattle.std.specs.Prelude.{◌≡◌, ◌<◌, ℕ, ◌*◌, Bool, false, List, [], ◌∷◌, length, take, drop, Option, None, Some, if◌then◌else◌, slice_index_or}
use Rattle.std.specs.List.{All, Contains, find, list_any}
use Rattle.std.specs.Str.{bytes_eq}
use Rattle.store_types.specs.declared.names.SnapshotKey.{SnapshotKey}
use Rattle.store_files.specs.Archive.{Archive, File, Snapshot, archive, ends_from, file_text}
use Rattle.store_files.specs.Folder.{file_path}
use Rattle.store_model.specs.Store as model
use Rattle.store_model.specs.Store.{Store, session}
use Rattle.store_model.specs.ReaderSteps.{content_at}
use Rattle.index_pages.specs.Paged.{page_count}
use Rattle.paged_indexes.specs.Index.{start_by}
use Rattle.restore_reader.specs.Plan.{ends_of}
use Rattle.restore_reader.specs.Shown.{pages_of}
use Rattle.core_state.specs.declared.indexes.OpenIndex.{OpenIndex}
use Rattle.core_state.specs.declared.indexes.OpenIndexes.{OpenIndexes}
use Rattle.core_state.specs.declared.indexes.OpenPage.{OpenPage}
use Rattle.core_state.specs.declared.indexes.RangedPage.{RangedPage}
use Rattle.core_state.specs.declared.pages.ReadPage.{ReadPage}
use Rattle.core_state.specs.declared.indexes.Indexes.{Indexes}
use Rattle.core_state.specs.declared.indexes.Indexes.TheVariants.{Unread, Pooled, Opened, LastPage}
use Rattle.core_state.specs.declared.parts.Parts.{Parts}
use Rattle.core_state.specs.Shown.{files_named}

abbrev pub row_in : List Indexes → ℕ → Indexes
row_in rows lane = slice_index_or rows lane Unread

-- what the lane keeps
abbrev pub row_at : {D : Type 0} → Parts D → ℕ → Indexes
row_at parts lane = row_in parts.indexes.items lane

-- the indexes that are open
abbrev pub opened_of : Indexes → List OpenIndex
opened_of Unread = []
opened_of (Pooled names) = []
opened_of (Opened o) = o.opened
opened_of (LastPage p) = []

-- the one of this name
abbrev pub open_of : List ℕ → Indexes → Option OpenIndex
open_of name row = find (λ o. bytes_eq o.name name) (opened_of row)

-- the page at hand, where it is of the index of this name
abbrev pub page_of : List ℕ → Indexes → Option OpenPage
page_of name Unread = None
page_of name (Pooled names) = None
page_of name (Opened o) = if bytes_eq (o.page).name name then Some o.page else None
page_of name (LastPage p) = None

-- the page that a range read last, where it is of the index of this name
abbrev pub ranged_of : List ℕ → Indexes → Option ReadPage
ranged_of name Unread = None
ranged_of name (Pooled names) = None
ranged_of name (Opened o) = None
ranged_of name (LastPage p) = if bytes_eq p.name name then Some p.page else None

-- what is kept once a range has read this page of it last: beside indexes that are open none is
abbrev pub with_page : List ℕ → ReadPage → Indexes → Indexes
with_page name page Unread = LastPage (record { name = name; page = page })
with_page name page (Pooled names) = LastPage (record { name = name; page = page })
with_page name page (Opened o) = Opened o
with_page name page (LastPage p) = LastPage (record { name = name; page = page })

-- where it has read one
abbrev pub ranged_to : List ℕ → Option ReadPage → Indexes → Indexes
ranged_to name None row = row
ranged_to name (Some page) row = with_page name page row

-- the writer may name all pieces of its base's index of this name
abbrev pub is_pooled : List ℕ → Indexes → Bool
is_pooled name Unread = false
is_pooled name (Pooled names) = list_any (λ n. bytes_eq name n) names
is_pooled name (Opened o) = false
is_pooled name (LastPage p) = false

-- and of this one too from now on
abbrev pub pooling : List ℕ → Indexes → List (List ℕ)
pooling name Unread = name ∷ []
pooling name (Pooled names) = name ∷ names
pooling name (Opened o) = name ∷ []
pooling name (LastPage p) = name ∷ []

-- ---- of what it is

-- the index of an archive among the files, as its file's text is opened
pub record IsOpened (key : SnapshotKey) (files : List File) (o : OpenIndex) : Type 0 where
  pub one : Archive
  pub named : content_at files o.name ≡ Some (archive one)
  pub pages : o.pages ≡ pages_of o.name (file_path key o.name) (file_text (archive one))

-- the entries of a page of one
pub record IsPageOf (files : List File) (p : OpenPage) : Type 0 where
  pub one : Archive
  pub named : content_at files p.name ≡ Some (archive one)
  pub entries : ends_of p.entries.items ≡ take 1024 (drop (p.number * 1024) (ends_from 0 one.pieces))

-- a page of an archive's index, and where its first piece begins, as its file's text is opened
pub record IsRangedOf (key : SnapshotKey) (files : List File) (p : RangedPage) : Type 0 where
  pub one : Archive
  pub named : content_at files p.name ≡ Some (archive one)
  pub below : (p.page).number < page_count (length (ends_from 0 one.pieces))
  pub start : (p.page).start ≡ start_by (pages_of p.name (file_path key p.name) (file_text (archive one))) (p.page).number
  pub entries : ends_of (p.page).entries.items ≡ take 1024 (drop ((p.page).number * 1024) (ends_from 0 one.pieces))

pub record AreOpened (key : SnapshotKey) (files : List File) (o : OpenIndexes) : Type 0 where
  pub each : All (IsOpened key files) o.opened
  pub page : IsPageOf files o.page

-- an archive among the files, all of whose pieces are among these
pub record IsPooled (pool : List (List ℕ)) (files : List File) (name : List ℕ) : Type 0 where
  pub one : Archive
  pub named : content_at files name ≡ Some (archive one)
  pub pieces : All (Contains pool) one.pieces

-- the files of a writer's base
abbrev pub files_of_base : Option SnapshotKey → List Snapshot → List File
files_of_base None snapshots = []
files_of_base (Some key) snapshots = files_named key snapshots

-- a writer may keep these names, and a reader these indexes, or this page
abbrev pub FitsPooled : List Snapshot → List (List ℕ) → model.Session → Type 0
FitsPooled snapshots names model.none = ⊥
FitsPooled snapshots names (model.writer w) = All (IsPooled w.pool (files_of_base w.base snapshots)) names
FitsPooled snapshots names (model.reader r) = ⊥

abbrev pub FitsOpened : List Snapshot → OpenIndexes → model.Session → Type 0
FitsOpened snapshots o model.none = ⊥
FitsOpened snapshots o (model.writer w) = ⊥
FitsOpened snapshots o (model.reader r) = AreOpened r.key (files_named r.key snapshots) o

abbrev pub FitsRanged : List Snapshot → RangedPage → model.Session → Type 0
FitsRanged snapshots p model.none = ⊥
FitsRanged snapshots p (model.writer w) = ⊥
FitsRanged snapshots p (model.reader r) = IsRangedOf r.key (files_named r.key snapshots) p

-- what a lane with this session may keep
abbrev pub FitsRow : List Snapshot → model.Session → Indexes → Type 0
FitsRow snapshots x Unread = Unit {0}
FitsRow snapshots x (Pooled names) = FitsPooled snapshots names x
FitsRow snapshots x (Opened o) = FitsOpened snapshots o x
FitsRow snapshots x (LastPage p) = FitsRanged snapshots p x

-- each lane keeps what it may
abbrev pub FitsRows : Store → List Indexes → Type 0
FitsRows s rows = (lane : ℕ) → FitsRow s.snapshots (session s lane) (row_in rows lane)
