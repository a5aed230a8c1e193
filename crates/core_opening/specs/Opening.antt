-- What a datastore is opened with, and what opening leaves.
use Rattle.std.specs.Prelude.{◌≡◌, ◌≤◌, ◌+◌, ◌↔◌, ℕ, Bool, true, ◌&&◌, List, [], ◌∷◌, map, replicate, Option, None, Some, is_some, Result, Ok, Err, IsTrue, IfOk}
use Rattle.std.specs.List.{Contains}
use Rattle.disk_trait.specs.Disk.{Serves}
use Rattle.disk_trait.specs.declared.disk.DiskError.{DiskError}
use Rattle.disk_trait.specs.declared.disk.DiskError.TheVariants.{NoMemory as Wanting, Failed}
use Rattle.disk_trait.specs.declared.disk.Disk.{Ghosts}
use Rattle.port_traits.specs.Readings.{Readings}
use Rattle.lock_book.specs.Locks.{no_locks}
use Rattle.store_types.specs.declared.names.Digest32.{Digest32}
use Rattle.store_types.specs.declared.names.SnapshotKey.{SnapshotKey}
use Rattle.store_types.specs.FileNames.{manifest_name}
use Rattle.store_types.specs.Names.{name_lt}
use Rattle.store_types.specs.Times.{last_moment}
use Rattle.store_files.specs.Archive.{Snapshot}
use Rattle.store_files.specs.Folder.{Files, file_path}
use Rattle.store_files.specs.Manifest.{Manifest}
use Rattle.chunk_store.specs.Listed.{Lists as ListsDigests}
use Rattle.atime_book.specs.Touches.{IsEarly}
use Rattle.atime_book.specs.Present.{IsOfPresent}
use Rattle.store_model.specs.Manifests.{listed_names}
use Rattle.store_model.specs.Stands.{StandsFor as Stands}
use Rattle.snapshot_files.specs.Scanned.{FoundSnapshot, Lists}
use Rattle.snapshot_files.specs.Leaving.{Cleans, MayClean}
use Rattle.snapshot_files.specs.Opened.{Opens}
use Rattle.store_history.specs.History.{Opening}
use Rattle.store_history.specs.Saved.{saved_book}
use Rattle.core_state.specs.declared.kept.Kept.{Kept}
use Rattle.core_state.specs.declared.kept.Listed.{Listed}
use Rattle.core_state.specs.declared.indexes.Indexes.TheVariants.{Unread}
use Rattle.core_state.specs.declared.kept.Session.TheVariants.{Idle}
use Rattle.core_state.specs.declared.kept.StoredFile.{StoredFile}
use Rattle.core_opening.specs.declared.opening.NotOpened.{NotOpened}
use Rattle.core_opening.specs.declared.opening.Opened.{Opened}
use Rattle.core_opening.specs.declared.opening.OpenFault.{OpenFault}
use Rattle.core_opening.specs.declared.opening.OpenFault.TheVariants.{NotSynced, DiskFault, NoMemory}
use Rattle.core_state.specs.declared.state.Core.{Core}
use Rattle.core_state.specs.declared.upkeep.Upkeep.{Upkeep}
use Rattle.core_state.specs.Catalogue.{insert_listed}
use Rattle.core_state.specs.Entering.{AllHeld}
use Rattle.core_state.specs.History.{StandsFor, began}
use Rattle.core_state.specs.KeepsTouches.{KeepsTouches}
use Rattle.core_state.specs.Numbers.{AreNumbered, first_number}
use Rattle.core_state.specs.Records.{Records}
use Rattle.core_state.specs.Recovers.{Recovers}
use Rattle.store_history.specs.Opened.{opening_of}
use Rattle.core_opening.specs.Stops.{StopsOpening}

-- ---- the catalogue

-- the names that a manifest lists beside its own, if it reads
abbrev pub names_listed : Option Manifest → List (List ℕ)
names_listed None = []
names_listed (Some m) = listed_names m

-- these are its own name and those that it lists, if it reads
abbrev pub ListsNames : Option Manifest → List (List ℕ) → Type 0
ListsNames manifest names = (name : List ℕ) → Contains names name ↔ Contains (manifest_name ∷ names_listed manifest) name

-- the snapshot's file of this name, and where it stands
abbrev pub stored_at : SnapshotKey → List ℕ → StoredFile
stored_at key name = record { name = name; path = file_path key name }

abbrev pub stored_names_rise : List StoredFile → Bool
stored_names_rise [] = true
stored_names_rise (f ∷ []) = true
stored_names_rise (f ∷ g ∷ fs) = name_lt f.name g.name && stored_names_rise (g ∷ fs)

-- what is kept of a snapshot that was found: its manifest and the files that it lists, each once and in byte order of their names
pub record IsKeptOf (x : FoundSnapshot) (k : Kept) : Type 0 where
  pub key : k.key ≡ x.key
  pub unreadable : k.unreadable ≡ x.unreadable
  pub rising : IsTrue (stored_names_rise k.files)
  pub files : ListsNames x.manifest (map (λ f. f.name) k.files)
  pub paths : map (λ f. f.path) k.files ≡ map (λ f. file_path x.key f.name) k.files

-- the snapshots that were found are listed by these numbers, one after another
abbrev pub AreListed : ℕ → List FoundSnapshot → List Listed → Type 0
AreListed n [] [] = Unit {0}
AreListed n (x ∷ xs) (y ∷ ys) = (y.number ≡ n) × IsKeptOf x y.kept × AreListed (n + 1) xs ys
AreListed n _ _ = ⊥

-- one after another at its place in the order
abbrev pub inserted : List Listed → List Listed → List Listed
inserted done [] = done
inserted done (x ∷ xs) = inserted (insert_listed x done) xs

-- in whatever order they were found, they stand in that of their keys
pub record AreInserted (found : List FoundSnapshot) (catalogue : List Listed) : Type 0 where
  pub each : List Listed
  pub listed : AreListed first_number found each
  pub order : catalogue ≡ inserted [] each

-- no two have one number, nor that of an act
abbrev pub NumbersAll : List Listed → Type 0
NumbersAll catalogue = (acts : ℕ) → AreNumbered acts catalogue

-- the catalogue is of the snapshots whose manifests are there, damaged ones too
pub record IsCatalogue (files : Files) (catalogue : List Listed) : Type 0 where
  pub found : List FoundSnapshot
  pub lists : Lists files found
  pub listed : AreListed first_number found catalogue

-- that of an honest disk, as it reads when it was opened
abbrev pub CataloguesDisk : {D E : Type 0} → Ghosts D → D → D → Result Opened E → Type 0
CataloguesDisk d old new result = d.honest old → IfOk result (λ x. IsCatalogue (d.content new) x.catalogue.listed)

abbrev pub ListsFound : {D E C : Type 0} → Ghosts D → Core D E C → Type 0
ListsFound d core = IsCatalogue (d.content (core.parts).disk) (core.parts).catalogue.listed

-- ---- the book

-- the book has these chunks, with the touches that the saved one has of them
abbrev pub KeepsChunks : Files → List Digest32 → Upkeep → Type 0
KeepsChunks files digests u = IsOfPresent (saved_book files) u.book digests u.undated.items

-- the book is of the chunks under whose names a file stands
pub record IsBookOf (files : Files) (u : Upkeep) : Type 0 where
  pub digests : List Digest32
  pub lists : ListsDigests files digests
  pub keeps : KeepsChunks files digests u

-- that of an honest disk, as it reads when it was opened
abbrev pub BooksDisk : {D E : Type 0} → Ghosts D → D → D → Result Opened E → Type 0
BooksDisk d old new result = d.honest old → IfOk result (λ x. IsBookOf (d.content new) x.upkeep)

abbrev pub HasBook : {D E C : Type 0} → Ghosts D → Core D E C → Type 0
HasBook d core = IsBookOf (d.content (core.parts).disk) core.upkeep

-- ---- the core

-- no act is in the order, each reserve is whole, and no lane has a session or keeps anything of indexes
pub record IsNew (x : Opened) : Type 0 where
  pub entries : (x.journal).entries.items ≡ []
  pub calls : (x.journal).calls.items ≡ []
  pub held : AllHeld x.journal
  pub sessions : x.sessions.items ≡ replicate 64 Idle
  pub indexes : x.indexes.items ≡ replicate 64 Unread
  -- whatever acts are to come
  pub numbers : NumbersAll x.catalogue.listed
  -- no chunk was touched after the book's moment
  pub early : IsEarly (x.upkeep).book
  pub in_time : (x.upkeep).book.moment ≤ last_moment

-- nothing has happened yet, and no lane has a session or keeps anything of indexes
pub record HasBegun {D E C : Type 0} (core : Core D E C) : Type 0 where
  pub fault : core.fault ≡ None
  pub collector : core.collector ≡ None
  -- the last moment of the saved book
  pub last : core.last ≡ (core.upkeep).book.moment
  pub entries : (core.journal).entries.items ≡ []
  pub calls : (core.journal).calls.items ≡ []
  pub sessions : (core.parts).sessions.items ≡ replicate 64 Idle
  pub indexes : (core.parts).indexes.items ≡ replicate 64 Unread
  pub locks : (core.parts).locks ≡ no_locks

-- Where an honest disk stands for a list of snapshots, the core stands for the history without events that was opened with it, whatever the
-- remote has, where there is one.
abbrev pub StandsOpened : {D E C : Type 0} → Ghosts D → (C → Option Readings) → D → C → Core D E C → Type 0
StandsOpened d readings disk clock core =
    (L : List Snapshot) (R : Option (List Snapshot)) → is_some core.remote ≡ is_some R → d.honest disk → Stands (d.content disk) L
    → StandsFor d readings core (began (opening_of d disk (core.parts).disk L) R (readings clock))

-- its book is that of this history
abbrev pub TouchesOpened : {D E C : Type 0} → Ghosts D → (C → Option Readings) → D → C → Core D E C → Type 0
TouchesOpened d readings disk clock core =
    (L : List Snapshot) (R : Option (List Snapshot)) → d.honest disk → Stands (d.content disk) L
    → KeepsTouches d core (began (opening_of d disk (core.parts).disk L) R (readings clock))

-- From the moment of opening on at which what a crash leaves lacks only what opening takes away, it stands for each list of snapshots that the
-- disk stood for.
pub record RecoversOpened {D E C : Type 0} (d : Ghosts D) (readings : C → Option Readings) (disk : D) (clock : C) (core : Core D E C) : Type 0 where
  pub opens : Opens d disk (core.parts).disk
  pub recovers : (L : List Snapshot) (R : Option (List Snapshot)) → Stands (d.content disk) L
      → Recovers d opens.start core (began (opening_of d disk (core.parts).disk L) R (readings clock))

-- on any disk it keeps each history without events
abbrev pub RecordsOpened : {D E C : Type 0} → (C → Option Readings) → C → Core D E C → Type 0
RecordsOpened readings clock core = (o : Opening) (R : Option (List Snapshot)) → o.moment ≡ core.last → Records readings core (began o R (readings clock))

-- ---- the disk

abbrev pub disk_after : {D E C : Type 0} → Result (Core D E C) (NotOpened D E C) → D
disk_after (Ok core) = (core.parts).disk
disk_after (Err e) = e.disk

-- it is the disk that failed
abbrev pub TellsDisk : OpenFault → Type 0
TellsDisk NotSynced = Unit {0}
TellsDisk DiskFault = Unit {0}
TellsDisk NoMemory = ⊥

-- the disk's fault is told
abbrev pub IsFaulted : {D E C : Type 0} → Result (Core D E C) (NotOpened D E C) → Type 0
IsFaulted (Ok core) = ⊥
IsFaulted (Err e) = TellsDisk e.cause

abbrev pub fault_of : DiskError → OpenFault
fault_of Wanting = NoMemory
fault_of Failed = DiskFault

-- opening serves the disk: it is honest where it was, and a fault is told only where its count rose
abbrev pub ServesOpening : {D E C : Type 0} → Ghosts D → D → Result (Core D E C) (NotOpened D E C) → Type 0
ServesOpening d disk result = Serves d.honest d.faults disk (disk_after result) (IsFaulted result)

abbrev pub LeavesOpened : {D E C : Type 0} → Ghosts D → D → Result (Core D E C) (NotOpened D E C) → Type 0
LeavesOpened d disk (Ok core) = Opens d disk (core.parts).disk
LeavesOpened d disk (Err e) = StopsOpening d disk e.disk e.cause

-- what opening takes away is gone of an honest disk, and all else is as it was
abbrev pub CleansOpening : {D E C : Type 0} → Ghosts D → D → Result (Core D E C) (NotOpened D E C) → Type 0
CleansOpening d disk result = d.honest disk → IfOk result (λ core. Cleans (d.content disk) (d.content (core.parts).disk))

-- Remote and clock are handed back. Where memory was wanting, an honest disk reads as before, without some of the files that opening takes away.
pub record IsGivenBack {D E C : Type 0} (d : Ghosts D) (disk : D) (remote : Option E) (clock : C) (e : NotOpened D E C) : Type 0 where
  pub remote_is : e.remote ≡ remote
  pub clock_is : e.clock ≡ clock
  pub want : d.honest disk → e.cause ≡ NoMemory → MayClean (d.content disk) (d.content disk) (d.content e.disk)
