-- When the core's parts stand for a plain store, and what an act on them does.
use Rattle.disk_trait.specs.declared.disk.Disk.{Ghosts}
use Rattle.std.specs.Prelude.{◌≡◌, ◌<◌, ◌≤◌, ℕ, ◌+◌, Bool, true, false, not, ◌&&◌, List, [], ◌∷◌, map, length, Some, IsTrue, IsSome, Result, MatchResult, FitsSigned}
use Rattle.std.specs.Int.{w64}
use Rattle.std.specs.List.{All, AllByRecursion, Contains, list_any}
use Rattle.std.specs.Str.{bytes_eq}
use Rattle.std.specs.FinMap.{get}
use Rattle.sha2.specs.Sha256.{sha256}
use Rattle.store_types.specs.declared.names.GroupKey.{GroupKey}
use Rattle.store_types.specs.FileNames.{manifest_name}
use Rattle.store_types.specs.Names.{IsKey, same_group, group_of_key}
use Rattle.blob_codec.specs.Blob.{blob}
use Rattle.store_files.specs.Cells.{entry_limit}
use Rattle.store_files.specs.Archive.{Layout, dynamic, fixed, File, Snapshot, file_text, pieces_of}
use Rattle.wire_commands.specs.declared.reply.Reply.{Reply}
use Rattle.disk_trait.specs.Files.{Files}
use Rattle.disk_trait.specs.declared.disk.DiskError.{DiskError}
use Rattle.disk_trait.specs.declared.disk.DiskError.TheVariants.{NoMemory, Failed as DiskFailed}
use Rattle.store_model.specs.Store.{Store, Begun, Writer, Reader, writer, reader, session, in_group, snapshot_named, Outcome}
use Rattle.store_files.specs.Folder.{file_path}
use Rattle.store_model.specs.Steps.{answered}
use Rattle.store_model.specs.Stands.{StandsFor, IsSnapshot, names_content, names_rise, keys_rise, FitsContent, file_limit, group_limit}
use Rattle.store_files.specs.Folder.{IsPiece, chunk_name}
use Rattle.backup_session.specs.Shown.{IsOpen}
use Rattle.core_state.specs.declared.parts.Parts.{Parts}
use Rattle.core_state.specs.Shown.{shown_snapshot, shown_session}
use Rattle.core_state.specs.Locked.{Locked}
use Rattle.core_state.specs.Indexed.{FitsRows}

-- ---- what holds of every plain store that is reached

-- the snapshot is of another group, or older
abbrev pub IsOlder : Writer → Snapshot → Type 0
IsOlder w x = IsTrue (same_group (group_of_key x.key) (group_of_key w.key)) → (x.key).time < (w.key).time

-- how many bytes of an index's header are reserved
abbrev pub reserved_len : Layout → ℕ
reserved_len dynamic = 4032
reserved_len (fixed size chunk_size) = 4016

-- an open archive: its header has a text, and its pieces are among these, and no more than an index may have
pub record IsBegun (pool : List (List ℕ)) (b : Begun) : Type 0 where
  pub is_open : IsOpen b
  pub uuid : length (b.archive).uuid ≡ 16
  pub ctime : FitsSigned w64 (b.archive).ctime
  pub reserved : length (b.archive).reserved ≡ reserved_len (b.archive).layout
  pub limit : length (b.archive).pieces ≤ entry_limit
  pub pieces : All (Contains pool) (b.archive).pieces

abbrev pub has_named : List ℕ → List File → Bool
has_named name files = list_any (λ f. bytes_eq f.name name) files

abbrev pub names_differ : List Begun → Bool
names_differ [] = true
names_differ (b ∷ bs) = not (list_any (λ c. bytes_eq c.name b.name) bs) && names_differ bs

-- a writer beside these snapshots
pub record IsWriter (snapshots : List Snapshot) (w : Writer) : Type 0 where
  pub key : IsKey w.key
  pub newer : All (IsOlder w) snapshots
  pub room : length (in_group (group_of_key w.key) snapshots) < group_limit
  pub names : IsTrue (names_rise w.files)
  pub kinds : All (λ f. IsTrue (names_content f.content f.name)) w.files
  pub contents : All (λ f. FitsContent f.content) w.files
  pub count : length w.files + length w.begun ≤ file_limit
  pub pool : All IsPiece w.pool
  pub begun : AllByRecursion (IsBegun w.pool) w.begun
  pub pooled : All (λ f. All (Contains w.pool) (pieces_of f.content)) w.files
  -- no two of the files and the open archives have one name
  pub free : All (λ b. has_named b.name w.files ≡ false) w.begun
  pub differ : IsTrue (names_differ w.begun)

pub record IsReader (snapshots : List Snapshot) (r : Reader) : Type 0 where
  pub finished : IsSome (snapshot_named r.key snapshots)

pub record IsSound (s : Store) : Type 0 where
  pub lanes : length s.sessions ≡ 64
  pub order : IsTrue (keys_rise s.snapshots)
  pub each : All IsSnapshot s.snapshots
  pub groups : (group : GroupKey) → length (in_group group s.snapshots) ≤ group_limit
  pub writers : (lane : ℕ) (w : Writer) → session s lane ≡ writer w → IsWriter s.snapshots w
  pub readers : (lane : ℕ) (r : Reader) → session s lane ≡ reader r → IsReader s.snapshots r
  -- a group has one writer at most
  pub apart : (i j : ℕ) (v w : Writer) → session s i ≡ writer v → session s j ≡ writer w →
      IsTrue (same_group (group_of_key v.key) (group_of_key w.key)) → i ≡ j

-- ---- the parts

-- catalogue, sessions and locks are those of the store, and what is kept of indexes is of its sessions'
pub record Shows {D : Type 0} (parts : Parts D) (s : Store) : Type 0 where
  pub catalogue : map (λ x. x.kept) parts.catalogue.listed ≡ map shown_snapshot s.snapshots
  pub sessions : parts.sessions.items ≡ map (shown_session s.snapshots) s.sessions
  pub locks : Locked parts.locks s
  pub indexes : FitsRows s parts.indexes.items
  pub sound : IsSound s

-- a writer's files but the manifest are there
abbrev pub IsPut : Files → Writer → File → Type 0
IsPut m w f = (f.name ≡ manifest_name → ⊥) → get m (file_path w.key f.name) ≡ Some (file_text f.content)

-- its files, and its pieces
pub record HasUploads (m : Files) (w : Writer) : Type 0 where
  pub files : All (IsPut m w) w.files
  pub pool : All (λ p. get m (chunk_name (sha256 p)) ≡ Some (blob p)) w.pool

-- the files of the snapshots and of the writers are there
pub record IsOnDisk (m : Files) (s : Store) : Type 0 where
  pub snapshots : StandsFor m s.snapshots
  pub writers : (lane : ℕ) (w : Writer) → session s lane ≡ writer w → HasUploads m w

-- The disk is honest, and the parts stand for the store.
pub record Holds {D : Type 0} (d : Ghosts D) (parts : Parts D) (s : Store) : Type 0 where
  pub honest : d.honest parts.disk
  pub shows : Shows parts s
  pub files : IsOnDisk (d.content parts.disk) s

-- ---- acts

-- Want of memory has changed nothing of it. After a fault of the disk catalogue, sessions and locks are as before.
abbrev pub Refuses : {D : Type 0} → Ghosts D → Parts D → Store → DiskError → Type 0
Refuses d parts s NoMemory = Holds d parts s
Refuses d parts s DiskFailed = d.honest parts.disk × Shows parts s

-- The parts stand for the store after, and the reply is its; or the act was refused by memory or disk.
abbrev pub Does : {D : Type 0} → Ghosts D → Parts D → Store → Store × Reply → Result Reply DiskError → Type 0
Does d new s after result =
    MatchResult result (λ reply. (reply ≡ after.1) × Holds d new after.0) (λ e. Refuses d new s e)

-- for every store that the parts stood for
abbrev pub Acts : {D : Type 0} → Ghosts D → Parts D → Parts D → (Store → Outcome) → Result Reply DiskError → Type 0
Acts d old new outcome_of result =
    (s : Store) → Holds d old s → Does d new s (answered s (outcome_of s)) result
