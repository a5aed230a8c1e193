-- What sessions and finished snapshots need of the chunks, and what holds of it beside an open sweep.
use Rattle.std.specs.Prelude.{◌≡◌, ◌≤◌, ◌⊎◌, ℕ, false, List, [], ◌∷◌, map, Some, IsSome}
use Rattle.sha2.specs.Sha256.{sha256}
use Rattle.store_types.specs.declared.names.SnapshotKey.{SnapshotKey}
use Rattle.store_files.specs.Archive.{File, Snapshot}
use Rattle.store_model.specs.Store.{Begun, Writer, writer, Reader, reader, Store, session}
use Rattle.atime_book.specs.Touches.{is_stale}
use Rattle.store_history.specs.History.{World, Opening}
use Rattle.store_history.specs.LastTouches.{LastTouches}
use Rattle.store_history.specs.Sweeping.{digests_of, Unmarked, Sweep, Swept}

-- the element is among these
abbrev pub In : {A : Type 0} → A → List A → Type 0
In x [] = ⊥
In x (y ∷ ys) = (x ≡ y) ⊎ In x ys

-- ---- what is needed, by its digest

-- a piece of one of the files has the digest
abbrev pub Has : List File → List ℕ → Type 0
Has files d = (f : File) × In f files × In d (digests_of f.content)

-- the writer appended it to an open archive
abbrev pub HasBegun : List Begun → List ℕ → Type 0
HasBegun begun d = (b : Begun) × In b begun × In d (map sha256 (b.archive).pieces)

-- the writer appended it, to an open archive or to a file
abbrev pub HasAppended : Writer → List ℕ → Type 0
HasAppended x d = HasBegun x.begun d ⊎ Has x.files d

-- the writer may append it
abbrev pub MayAppend : Writer → List ℕ → Type 0
MayAppend x d = In d (map sha256 x.pool)

-- the snapshot with this key is finished
abbrev pub IsFinished : List Snapshot → SnapshotKey → Type 0
IsFinished snapshots key = (x : Snapshot) × In x snapshots × (x.key ≡ key)

-- the snapshot with this key is finished and has it
abbrev pub IsOf : List Snapshot → SnapshotKey → List ℕ → Type 0
IsOf snapshots key d = (x : Snapshot) × In x snapshots × (x.key ≡ key) × Has x.files d

-- it is of the writer's base
abbrev pub IsOfBase : Store → Writer → List ℕ → Type 0
IsOfBase s x d = (key : SnapshotKey) × (x.base ≡ Some key) × IsOf s.snapshots key d

-- a finished snapshot has it
abbrev pub IsStored : Store → List ℕ → Type 0
IsStored s d = (x : Snapshot) × In x s.snapshots × Has x.files d

-- a running writer may append it
abbrev pub IsPooled : Store → List ℕ → Type 0
IsPooled s d = (lane : ℕ) × (x : Writer) × (session s lane ≡ writer x) × MayAppend x d

abbrev pub IsNeeded : Store → List ℕ → Type 0
IsNeeded s d = IsStored s d ⊎ IsPooled s d

-- ---- beside the sweep

-- A visit with this cutoff does not take the chunk out: it is not there, or was last touched at the cutoff or later.
abbrev pub IsFresh : LastTouches → ℕ → List ℕ → Type 0
IsFresh touches cutoff d = is_stale (touches.last d) cutoff ≡ false

-- among what is still to be marked is the digest, in an index of the snapshot with this key
abbrev pub IsUnmarked : List Unmarked → SnapshotKey → List ℕ → Type 0
IsUnmarked unmarked key d = (u : Unmarked) × In u unmarked × (u.key ≡ key) × In d u.digests

-- What a running writer appended it may append, and is not there, or was touched since it began. So is what it may append, or it is of its base.
pub record IsTouched (s : Store) (touches : LastTouches) (x : Writer) : Type 0 where
  pub pooled : (d : List ℕ) → HasAppended x d → MayAppend x d
  pub appended : (d : List ℕ) → HasAppended x d → IsFresh touches x.start d
  pub pool : (d : List ℕ) → MayAppend x d → IsFresh touches x.start d ⊎ IsOfBase s x d

-- What holds at all times, for every open sweep:
pub record IsSafe (w : World) (s : Swept) : Type 0 where
  -- nothing is later than the last moment
  pub began : (lane : ℕ) (x : Writer) → session w.store lane ≡ writer x → x.start ≤ w.moment
  pub cut : (sweep : Sweep) → s.sweep ≡ Some sweep → sweep.cutoff ≤ w.moment
  -- no running writer began before the cutoff
  pub later : (sweep : Sweep) → s.sweep ≡ Some sweep → (lane : ℕ) (x : Writer) → session w.store lane ≡ writer x → sweep.cutoff ≤ x.start
  -- what running writers appended is not there, or was touched since they began
  pub touched : (lane : ℕ) (x : Writer) → session w.store lane ≡ writer x → IsTouched w.store s.touches x
  -- what finished snapshots have is not there, or was touched at the cutoff or later, or is still to be marked
  pub marked : (sweep : Sweep) → s.sweep ≡ Some sweep → (x : Snapshot) → In x (w.store).snapshots → (d : List ℕ) → Has x.files d
      → IsFresh s.touches sweep.cutoff d ⊎ IsUnmarked sweep.unmarked x.key d
  -- each writer's base and each reader's snapshot is finished
  pub bases : (lane : ℕ) (x : Writer) (key : SnapshotKey) → session w.store lane ≡ writer x → x.base ≡ Some key → IsFinished (w.store).snapshots key
  pub readers : (lane : ℕ) (r : Reader) → session w.store lane ≡ reader r → IsFinished (w.store).snapshots r.key

-- ---- what is there

-- the chunk is there
abbrev pub IsThere : LastTouches → List ℕ → Type 0
IsThere touches d = IsSome (touches.last d)

-- each chunk that is needed is there
abbrev pub IsStocked : Store → LastTouches → Type 0
IsStocked s touches = (d : List ℕ) → IsNeeded s d → IsThere touches d

-- as a store is opened, each chunk of its finished snapshots is there
abbrev pub OpensStocked : Opening → Type 0
OpensStocked o = (x : Snapshot) → In x o.snapshots → (d : List ℕ) → Has x.files d → In d (map sha256 o.chunks)
