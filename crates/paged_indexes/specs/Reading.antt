-- The pages of an index as its opening reads them in turn.
use Rattle.std.specs.Prelude.{◌≡◌, ℕ, ◌+◌, ◌-◌, ◌*◌, ◌<◌, ◌≤◌, true, false, List, [], ◌++◌, ◌∷◌, length, drop, slice_index_or, Some, None, Result, Ok, Err}
use Rattle.std.specs.FinMap.{get}
use Rattle.std.specs.List.Sorted.{IsNonDecreasingBy}
use Rattle.disk_trait.specs.declared.disk.Disk.{Ghosts}
use Rattle.store_files.specs.Cells.{header_len}
use Rattle.store_files.specs.declared.causes.IndexFault.TheVariants.{Sizes}
use Rattle.store_files.specs.DynamicIndex.{Ended, steps_fit}
use Rattle.index_pages.specs.declared.fault.PageFault.{PageFault}
use Rattle.index_pages.specs.declared.fault.PageFault.TheVariants.{BadIndex, Failed, NoMemory}
use Rattle.index_pages.specs.Opening.{AreBytes, HasPages, IsBody, NotesPage, page_of}
use Rattle.index_pages.specs.declared.opening.Body.{Body}
use Rattle.index_pages.specs.Paged.{entries_at, page_count}
use Rattle.paged_indexes.specs.declared.reading.Reading.{Reading}
use Rattle.paged_indexes.specs.declared.reading.DynamicBody.{DynamicBody}
use Rattle.paged_indexes.specs.declared.pieces.Cut.{Cut}
use Rattle.paged_indexes.specs.Fixed.{ends_in}
use Rattle.paged_indexes.specs.Handing.{HandsOn}
use Rattle.paged_indexes.specs.Steps.{entries_of, page_ends, stepped}

-- how many pages were noted
abbrev pub sums_of : Reading → ℕ
sums_of r = length r.opening.sums.items

-- ---- a page

-- page i was noted, and its last piece ends there
pub record Takes (count i : ℕ) (body : List ℕ) (old new : Reading) (page : List ℕ) : Type 0 where
  pub bytes : page ≡ page_of 40 count i body
  pub noted : HasPages 40 i body old.opening → HasPages 40 (i + 1) body new.opening
  pub steps : stepped old.end (entries_of (page_of 40 count i body)) ≡ Some new.end
  pub ends : new.ends.items ≡ old.ends.items ++ new.end ∷ []

-- its pieces are not as long as pieces may be
pub record Fails (count i : ℕ) (body : List ℕ) (old : Reading) (fault : PageFault) : Type 0 where
  pub cause : fault ≡ BadIndex Sizes
  pub steps : stepped old.end (entries_of (page_of 40 count i body)) ≡ None

abbrev pub TakesThe : ℕ → ℕ → List ℕ → Reading → Reading → List ℕ → Result (Unit {0}) PageFault → Type 0
TakesThe count i body old new page (Ok x) = Takes count i body old new page
TakesThe count i body old new page (Err Failed) = Unit {0}
TakesThe count i body old new page (Err NoMemory) = Unit {0}
TakesThe count i body old new page (Err fault) = Fails count i body old fault

-- of the file that stands there, whose size is that of so many entries
abbrev pub TakesPage : {D : Type 0} → Ghosts D → D → List ℕ → ℕ → ℕ → Reading → Reading → List ℕ → Result (Unit {0}) PageFault → Type 0
TakesPage d disk name count i old new page result =
    d.honest disk → (text : List ℕ) → get (d.content disk) name ≡ Some text → length text ≡ header_len + count * 40
    → TakesThe count i (drop header_len text) old new page result

-- a page's bytes are noted, and its entries are handed on behind those before
pub record HandsPage {T : Type 0} (taken : T → ℕ → List Ended → Type 0) (count i : ℕ) (old new : Reading) (page : List ℕ) (before after : T) : Type 0 where
  pub len : length page ≡ entries_at count i * 40
  pub small : AreBytes page
  pub notes : NotesPage old.opening new.opening page
  pub steps : stepped old.end (entries_of page) ≡ Some new.end
  pub ends : new.ends.items ≡ old.ends.items ++ new.end ∷ []
  pub hands : HandsOn taken old.end (entries_of page) before after

-- no page ends before the one in front of it, nor behind the last piece so far
pub record EndsRise (r : Reading) : Type 0 where
  pub rises : IsNonDecreasingBy (λ (n : ℕ). n) r.ends.items
  pub last : (d : ℕ) → 0 < length r.ends.items → slice_index_or r.ends.items (length r.ends.items - 1) d ≤ r.end

-- ---- all pages

pub record IsDynamicBody (body : List ℕ) (count : ℕ) (b : DynamicBody) : Type 0 where
  pub read : IsBody 40 count body b.body
  pub ends : b.ends.items ≡ page_ends (page_count count) (entries_of body)
  pub steps : steps_fit 0 (entries_of body) ≡ true

pub record HasBadSteps (body : List ℕ) (fault : PageFault) : Type 0 where
  pub cause : fault ≡ BadIndex Sizes
  pub steps : steps_fit 0 (entries_of body) ≡ false

abbrev pub BodyIs : List ℕ → ℕ → Result DynamicBody PageFault → Type 0
BodyIs body count (Ok b) = IsDynamicBody body count b
BodyIs body count (Err Failed) = Unit {0}
BodyIs body count (Err NoMemory) = Unit {0}
BodyIs body count (Err fault) = HasBadSteps body fault

abbrev pub ReadsBody : {D : Type 0} → Ghosts D → D → List ℕ → ℕ → Result DynamicBody PageFault → Type 0
ReadsBody d disk name count result =
    d.honest disk → (text : List ℕ) → get (d.content disk) name ≡ Some text → length text ≡ header_len + count * 40
    → BodyIs (drop header_len text) count result

-- of an honest disk the entries that are handed on are the body's
abbrev pub HandsBody : {D T : Type 0} → Ghosts D → D → List ℕ → ℕ → (T → ℕ → List Ended → Type 0) → T → T → Type 0
HandsBody d disk name count taken old new =
    d.honest disk → (text : List ℕ) → get (d.content disk) name ≡ Some text → length text ≡ header_len + count * 40
    → HandsOn taken 0 (entries_of (drop header_len text)) old new

-- on any disk these bytes were read: what is kept is theirs, and so are the entries that are handed on
pub record ReadsSome {T : Type 0} (taken : T → ℕ → List Ended → Type 0) (count : ℕ) (b : DynamicBody) (old new : T) : Type 0 where
  pub body : List ℕ
  pub len : length body ≡ count * 40
  pub is : IsDynamicBody body count b
  pub hands : HandsOn taken 0 (entries_of body) old new

-- of a fixed one, in which no page tells a fault
abbrev pub FixedBodyIs : List ℕ → ℕ → Result Body PageFault → Type 0
FixedBodyIs body count (Ok b) = IsBody 32 count body b
FixedBodyIs body count (Err Failed) = Unit {0}
FixedBodyIs body count (Err NoMemory) = Unit {0}
FixedBodyIs body count (Err fault) = ⊥

abbrev pub ReadsFixedBody : {D : Type 0} → Ghosts D → D → List ℕ → ℕ → Result Body PageFault → Type 0
ReadsFixedBody d disk name count result =
    d.honest disk → (text : List ℕ) → get (d.content disk) name ≡ Some text → length text ≡ header_len + count * 32
    → FixedBodyIs (drop header_len text) count result

abbrev pub HandsFixedBody : {D T : Type 0} → Ghosts D → D → List ℕ → ℕ → Cut → (T → ℕ → List Ended → Type 0) → T → T → Type 0
HandsFixedBody d disk name count cut taken old new =
    d.honest disk → (text : List ℕ) → get (d.content disk) name ≡ Some text → length text ≡ header_len + count * 32
    → HandsOn taken 0 (ends_in cut 0 (drop header_len text)) old new

pub record ReadsSomeFixed {T : Type 0} (taken : T → ℕ → List Ended → Type 0) (count : ℕ) (cut : Cut) (b : Body) (old new : T) : Type 0 where
  pub body : List ℕ
  pub len : length body ≡ count * 32
  pub is : IsBody 32 count body b
  pub hands : HandsOn taken 0 (ends_in cut 0 body) old new
