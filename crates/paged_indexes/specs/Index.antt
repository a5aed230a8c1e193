-- An index of either kind as it is kept for its pages to be read.
use Rattle.std.specs.Prelude.{◌≡◌, ℕ, List, IsTrue, Option, Some, None, Result, Ok, Err}
use Rattle.std.specs.FinMap.{get}
use Rattle.disk_trait.specs.Files.{Files}
use Rattle.disk_trait.specs.declared.disk.Disk.{Ghosts}
use Rattle.store_files.specs.FixedIndex.{fixed_of}
use Rattle.store_files.specs.DynamicIndex.{Ended, dynamic_of}
use Rattle.index_pages.specs.declared.fault.PageFault.{PageFault}
use Rattle.index_pages.specs.declared.fault.PageFault.TheVariants.{Failed}
use Rattle.index_pages.specs.Gives.{Gives}
use Rattle.index_pages.specs.Paged.{Paged, is_kept, page_at}
use Rattle.paged_indexes.specs.declared.index.IndexPages.{IndexPages}
use Rattle.paged_indexes.specs.declared.index.IndexPages.TheVariants as pages
use Rattle.paged_indexes.specs.declared.kinds.IndexKind.{IndexKind}
use Rattle.paged_indexes.specs.declared.kinds.IndexKind.TheVariants.{Fixed, Dynamic}
use Rattle.paged_indexes.specs.Dynamic as dynamics
use Rattle.paged_indexes.specs.Fixed as fixeds
use Rattle.paged_indexes.specs.Handing.{HandsAll, HandsOn, HandsTold}
use Rattle.paged_indexes.specs.Steps as by_steps

-- ---- what is kept

abbrev pub pages_by : IndexPages → Paged
pages_by (pages.Fixed p) = p.pages
pages_by (pages.Dynamic p) = p.pages

-- the bytes of an entry are those of its kind
abbrev pub HasWidth : IndexPages → Type 0
HasWidth (pages.Fixed p) = (p.pages).width ≡ 32
HasWidth (pages.Dynamic p) = (p.pages).width ≡ 40

abbrev pub size_by : IndexPages → ℕ
size_by (pages.Fixed p) = p.size
size_by (pages.Dynamic p) = dynamics.size_by p.ends

-- where the first piece of page i begins, and where the last one ends
abbrev pub start_by : IndexPages → ℕ → ℕ
start_by (pages.Fixed p) i = fixeds.start_in p i
start_by (pages.Dynamic p) i = dynamics.start_in p i

abbrev pub stop_by : IndexPages → ℕ → ℕ
stop_by (pages.Fixed p) i = fixeds.stop_in p i
stop_by (pages.Dynamic p) i = dynamics.stop_in p i

-- the entries of page i that these bytes spell, as they stood at the opening
abbrev pub told_by : IndexPages → ℕ → List ℕ → Result (List Ended) PageFault
told_by (pages.Fixed p) i bytes = fixeds.fixed_told p i bytes
told_by (pages.Dynamic p) i bytes = dynamics.dynamic_told p i bytes

abbrev pub entries_read : IndexPages → ℕ → Result (List ℕ) PageFault → Result (List Ended) PageFault
entries_read p i (Ok bytes) = told_by p i bytes
entries_read p i (Err fault) = Err fault

-- the entries of page i of the file that stands there, where it is as it was opened
unfoldable pub told_at : Files → IndexPages → ℕ → Result (List Ended) PageFault
told_at m p i = entries_read p i (page_at m (pages_by p) i)

-- on an honest disk they are handed on behind those that were taken, or the fault is told; where memory is wanting or the disk failed nothing
-- is said
abbrev pub HandsInto : {T : Type 0} → Files → IndexPages → ℕ → (T → ℕ → List Ended → Type 0) → T → T → Result (Unit {0}) PageFault → Type 0
HandsInto m p i taken old new (Err Failed) = Unit {0}
HandsInto m p i taken old new result = HandsTold taken (start_by p i) (told_at m p i) old new result

abbrev pub ReadsInto : {D T : Type 0} → Ghosts D → D → IndexPages → ℕ → (T → ℕ → List Ended → Type 0) → T → T → Result (Unit {0}) PageFault → Type 0
ReadsInto d disk p i taken old new result = d.honest disk → HandsInto (d.content disk) p i taken old new result

-- on any disk those that bytes with the SHA-256 that was kept spell
pub record HandsKept {T : Type 0} (p : IndexPages) (i : ℕ) (taken : T → ℕ → List Ended → Type 0) (old new : T) : Type 0 where
  pub bytes : List ℕ
  pub kept : IsTrue (is_kept (pages_by p) i bytes)
  pub hands : HandsAll taken (start_by p i) (told_by p i bytes) old new

-- the first page that ends behind an offset
abbrev pub page_with : IndexPages → ℕ → Option ℕ
page_with (pages.Fixed p) offset = fixeds.page_with p offset
page_with (pages.Dynamic p) offset = by_steps.page_with offset p.ends

-- ---- an opening

abbrev pub opened_as : {A : Type 0} → (A → IndexPages) → Result A PageFault → Result IndexPages PageFault
opened_as as_index (Ok p) = Ok (as_index p)
opened_as as_index (Err fault) = Err fault

-- of the file that stands there
unfoldable pub opened : Files → List ℕ → IndexKind → Result IndexPages PageFault
opened m name Fixed = opened_as pages.Fixed (fixeds.opened m name)
opened m name Dynamic = opened_as pages.Dynamic (dynamics.opened m name)

-- on an honest disk it is opened so
abbrev pub OpensIndex : {D : Type 0} → Ghosts D → D → List ℕ → IndexKind → Result IndexPages PageFault → Type 0
OpensIndex d disk name kind result = d.honest disk → Gives (λ (p : IndexPages). p) result (opened (d.content disk) name kind)

-- of each piece the digest and where it ends, where the text is an index of this kind
unfoldable pub entries_in : IndexKind → List ℕ → Option (List Ended)
entries_in Fixed text = elim (fixed_of text) [ Ok x ↦ Some (fixeds.fixed_ends x) | Err cause ↦ None ]
entries_in Dynamic text = elim (dynamic_of text) [ Ok x ↦ Some x.entries | Err cause ↦ None ]

-- of an honest disk those of the index that stands there are handed on
abbrev pub HandsEntries : {D T : Type 0} → Ghosts D → D → List ℕ → IndexKind → (T → ℕ → List Ended → Type 0) → T → T → Type 0
HandsEntries d disk name kind taken old new =
    d.honest disk → (text : List ℕ) (entries : List Ended) → get (d.content disk) name ≡ Some text → entries_in kind text ≡ Some entries → HandsOn taken 0 entries old new
