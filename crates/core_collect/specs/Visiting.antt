-- The visits of a collector.
use Rattle.std.specs.Prelude.{◌≡◌, ◌<◌, ◌^◌, ◌⊎◌, Bool, true, false, List, [], ◌∷◌, length, Option, Some, None, Result, IsOk, IsErr, IsErrOf, OnOk}
use Rattle.disk_trait.specs.Disk.{MayGo}
use Rattle.disk_trait.specs.Effects.{DiskDrops, OnlyReads, StepsOn}
use Rattle.disk_trait.specs.declared.disk.Disk.{Ghosts}
use Rattle.disk_trait.specs.declared.disk.DiskError.{DiskError}
use Rattle.disk_trait.specs.declared.disk.DiskError.TheVariants.{NoMemory, Failed}
use Rattle.store_types.specs.declared.names.Digest32.{Digest32}
use Rattle.store_files.specs.Book.{Book}
use Rattle.store_files.specs.Folder.{chunk_name}
use Rattle.atime_book.specs.Touches.{SweptAt, is_stale, last_of}
use Rattle.chunk_store.specs.Listed.{Lists}
use Rattle.gc_plan.specs.Plan.{Plan, has_names, is_over, left_of, next_visit, visited, with_names, with_removal}
use Rattle.core_state.specs.declared.marked.MarkedPages.{MarkedPages}
use Rattle.core_state.specs.Changes.{Change, LeavesChange, after, drops, stays}
use Rattle.core_state.specs.Entries.{FitsPages}

-- ---- one chunk

-- its last touch is before the cutoff
abbrev pub goes : Book → Plan → Digest32 → Bool
goes book plan digest = is_stale (last_of book digest.0) plan.cutoff

-- It is taken out exactly where it goes, and else nothing is done. Where the disk fails, book and plan are as before.
pub record VisitsOne {D E : Type 0} (d : Ghosts D) (old new : D) (before after : Book) (p q : Plan) (digest : Digest32) (result : Result (Unit {0}) E) : Type 0 where
  pub stays : goes before p digest ≡ false → (new ≡ old) × (after ≡ before) × (q ≡ p) × IsOk result
  pub crash : goes before p digest ≡ true → StepsOn d old new (MayGo (chunk_name digest.0))
  pub dropped : goes before p digest ≡ true → DiskDrops d old new (chunk_name digest.0) result
  pub taken : goes before p digest ≡ true → OnOk result (SweptAt before after digest.0 true × (q ≡ with_removal p))
  pub failed : IsErr result → (after ≡ before) × (q ≡ p)

-- ---- the chunks that are there

-- these are an honest disk's, and no more than a list may have
pub record AreListed {D : Type 0} (d : Ghosts D) (disk : D) (names : List Digest32) : Type 0 where
  pub few : length names < 2 ^ 63
  pub lists : d.honest disk → Lists (d.content disk) names

-- they are listed now, in byte order, or were listed before
abbrev pub IsListed : {D : Type 0} → Ghosts D → D → Plan → Plan → Type 0
IsListed d disk p q =
    ((has_names p ≡ true) × (q ≡ p))
    ⊎ ((has_names p ≡ false) × ((names : List Digest32) × (q ≡ with_names p names) × AreListed d disk names))

pub record ListsPlan {D : Type 0} (d : Ghosts D) (old new : D) (p q : Plan) (result : Result (Unit {0}) DiskError) : Type 0 where
  pub reads : OnlyReads d old new (IsErrOf result Failed)
  pub listed : OnOk result (IsListed d old p q)
  pub failed : IsErr result → q ≡ p

-- ---- the next visit

-- the first chunk of a plan that has them listed is visited, if one is left
abbrev pub VisitedFirst : Book → Book → Plan → Plan → Change → Option Digest32 → Type 0
VisitedFirst before after p q change None = (after ≡ before) × (q ≡ visited p) × (change ≡ stays)
VisitedFirst before after p q change (Some digest) =
    ((goes before p digest ≡ false) × (after ≡ before) × (q ≡ visited p) × (change ≡ stays))
    ⊎ ((goes before p digest ≡ true) × SweptAt before after digest.0 true × (q ≡ with_removal (visited p)) × (change ≡ drops (chunk_name digest.0 ∷ [])))

-- the first chunk of those that are listed goes, and is lost
pub record DropsFirst {D : Type 0} (d : Ghosts D) (disk : D) (book : Book) (p : Plan) (change : Change) : Type 0 where
  pub listed : Plan
  pub digest : Digest32
  pub is_listed : IsListed d disk p listed
  pub first : next_visit listed ≡ Some digest
  pub stale : goes book listed digest ≡ true
  pub change_is : change ≡ drops (chunk_name digest.0 ∷ [])

pub record VisitsNext {D : Type 0} (d : Ghosts D) (old new : D) (before after_ : Book) (p q : Plan) (result : Result (Unit {0}) DiskError) : Type 0 where
  pub change : Change
  -- an honest disk loses nothing, or the first chunk where it goes
  pub going : (change ≡ stays) ⊎ DropsFirst d old before p change
  pub crash : LeavesChange d old new change
  pub content : (IsErrOf result Failed → ⊥) → d.honest old → d.content new ≡ after change (d.content old)
  pub done : OnOk result ((listed : Plan) × IsListed d old p listed × VisitedFirst before after_ listed q change (next_visit listed))
  -- want of memory has changed nothing; where the disk failed the book is as before
  pub want : IsErrOf result NoMemory → (q ≡ p) × (change ≡ stays)
  pub unswept : IsErr result → after_ ≡ before
  pub less : is_over p ≡ false → OnOk result (left_of q < left_of p)
  -- what fits the pages at hand fits them still, also where the disk failed
  pub fits : (pages : Option MarkedPages) → FitsPages p pages → FitsPages q pages
