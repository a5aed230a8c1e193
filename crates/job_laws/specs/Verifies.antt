-- What a VERIFY reports of a snapshot that the store may hold, where the plain store answers each of its
-- steps, but any chunk may be damaged.
use Rattle.std.specs.Prelude.{◌≡◌, ◌<◌, ℕ, zero, suc, ◌+◌, Bool, true, false, List, [], ◌∷◌, ◌++◌, length, is_none, if◌then◌else◌, Option, Some, None, Ok, Err, ⊤}
use Rattle.std.specs.List.{concat, filter_map, flat_map}
use Rattle.std.specs.Option.{option_map, option_or}
use Rattle.std.specs.Str.{bytes_eq}
use Rattle.store_types.specs.declared.refusal.Refusal.TheVariants as refusals
use Rattle.store_types.specs.FileNames.{manifest_name}
use Rattle.store_types.specs.Names.{key_of, key_text}
use Rattle.blob_codec.specs.Blob.{data_of}
use Rattle.store_files.specs.Archive.{File, Snapshot, digest_of, pieces_of}
use Rattle.store_files.specs.Manifest.{Manifest, manifest_of}
use Rattle.store_files.specs.Manifest.Fields.{Fact}
use Rattle.store_files.specs.Manifest.Mismatch.{fact_named, fact_mismatch}
use Rattle.wire_commands.specs.declared.rows.FileFault.{FileFault}
use Rattle.wire_commands.specs.declared.rows.FileFault.TheVariants.{Damaged, Differs}
use Rattle.wire_commands.specs.declared.rows.FaultRow.{FaultRow}
use Rattle.wire_commands.specs.declared.reply.Reply.{Reply}
use Rattle.wire_commands.specs.declared.reply.Reply.TheVariants.{Data, Refused, Verified}
use Rattle.store_model.specs.declared.step.Step.{Step}
use Rattle.store_model.specs.declared.step.Step.TheVariants as steps
use Rattle.store_model.specs.AdminSteps.{facts_in}
use Rattle.store_model.specs.Job.{opening, Job, over, asking, step_of}
use Rattle.store_model.specs.Jobs.{take}
use Rattle.store_model.specs.JobSteps.{step_outcome}
use Rattle.store_model.specs.Manifests.{fact_of, manifest_data, listing_of}
use Rattle.store_model.specs.Stands.{IsSnapshot, pieces_in}
use Rattle.store_model.specs.Steps.{answered}
use Rattle.store_model.specs.Store.{none, Store, session, snapshot_named}

-- ---- damage

-- of a file and a place in it, whether the chunk of the entry there is damaged
abbrev pub Damage : Type 0
Damage = List ℕ → ℕ → Bool

abbrev pub undamaged : Damage
undamaged name place = false

-- the bytes are no blob, or one of another digest than this blob's
abbrev pub IsOther : List ℕ → List ℕ → Type 0
IsOther blob bytes =
    (p q : List ℕ) → data_of blob ≡ Ok p → data_of bytes ≡ Ok q → digest_of q ≡ digest_of p → ⊥

-- The reply to the read of a chunk, damaged or not, where the plain store replies this: to that of a
-- damaged one a refusal that says so, or bytes that are no blob of its digest.
abbrev pub ReadAs : Bool → Reply → Reply → Type 0
ReadAs false plain r = r ≡ plain
ReadAs true plain (Refused (refusals.Damaged asked found)) = ⊤
ReadAs true (Data blob) (Data bytes) = IsOther blob bytes
ReadAs true plain r = ⊥

-- the reply to a step, where the plain store replies this
abbrev pub MayReply : Damage → Step → Reply → Reply → Type 0
MayReply bad (steps.ReadChunk name place) plain r = ReadAs (bad name place) plain r
MayReply bad step plain r = r ≡ plain

-- ---- the report

-- the manifest is of this snapshot
abbrev pub names_snapshot : Snapshot → Bool
names_snapshot x =
    elim (manifest_data x.files) [
      | None ↦ false
      | Some bytes ↦ elim (manifest_of bytes) [
        | Ok m ↦ bytes_eq (key_text m.key) (key_text x.key)
        | Err cause ↦ false
      ]
    ]

-- the file has the size and the checksum that are listed
abbrev pub is_listed : List Fact → File → Bool
is_listed facts f =
    elim (fact_named f.name facts) [
      | None ↦ false
      | Some fact ↦ is_none (fact_mismatch fact (fact_of f))
    ]

abbrev pub is_as_listed : Snapshot → File → Bool
is_as_listed x f =
    if bytes_eq f.name manifest_name then names_snapshot x else is_listed (facts_in x.files) f

abbrev pub differs_in : Snapshot → File → Option FileFault
differs_in x f = if is_as_listed x f then None else Some Differs

-- the first damaged chunk of these pieces of the file, from this place on
abbrev pub damage_from : Damage → List ℕ → ℕ → List (List ℕ) → Option FileFault
damage_from bad name place [] = None
damage_from bad name place (p ∷ ps) =
    if bad name place then Some (Damaged (digest_of p)) else damage_from bad name (place + 1) ps

-- that it differs comes before
abbrev pub first_fault : Damage → Snapshot → File → Option FileFault
first_fault bad x f = option_or (differs_in x f) (damage_from bad f.name 0 (pieces_of f.content))

abbrev pub row_of : File → FileFault → FaultRow
row_of f fault = record { file = f.name; fault = fault }

abbrev pub fault_in : Damage → Snapshot → File → Option FaultRow
fault_in bad x f = option_map (row_of f) (first_fault bad x f)

abbrev pub faults_of : Damage → Snapshot → List FaultRow
faults_of bad x = filter_map (fault_in bad x) x.files

-- each file, each piece, and their bytes; and of each file its first fault
abbrev pub report_of : Damage → Snapshot → Reply
report_of bad x =
    Verified (length x.files) (length (pieces_in x)) (length (concat (pieces_in x)))
    (faults_of bad x)

-- ---- the chunks

-- a read for each of these pieces of the file, from this place on
abbrev pub reads_from : List ℕ → ℕ → List (List ℕ) → List Step
reads_from name place [] = []
reads_from name place (p ∷ ps) = steps.ReadChunk name place ∷ reads_from name (place + 1) ps

abbrev pub reads_of_file : File → List Step
reads_of_file f = reads_from f.name 0 (pieces_of f.content)

-- one for each entry of its indexes, from file to file
abbrev pub chunk_reads : Snapshot → List Step
chunk_reads x = flat_map reads_of_file x.files

-- the step, where it reads a chunk
abbrev pub chunk_read : Step → List Step
chunk_read (steps.ReadChunk name entry) = steps.ReadChunk name entry ∷ []
chunk_read step = []

-- ---- the steps

-- Between two steps of a lane it keeps its session, and the store the snapshot that it verifies.
pub record Meanwhile (x : Snapshot) (lane : ℕ) (s t : Store) : Type 0 where
  pub own : session t lane ≡ session s lane
  pub lanes : length t.sessions ≡ length s.sessions
  pub there : snapshot_named x.key t.snapshots ≡ Some x

-- After so many steps, each answered by the store as it stands then, but for damaged chunks, the job
-- reports this, and its session is closed. No step changes the snapshots. Those that read chunks are
-- these, in this order.
abbrev pub EndsIn : Damage → ℕ → List Step → Snapshot → Reply → ℕ → Store → Job → Type 0
EndsIn bad zero reads x report lane s job =
    (reads ≡ []) × (job ≡ over report) × (session s lane ≡ none)
EndsIn bad (suc n) reads x report lane s (over reply) = ⊥
EndsIn bad (suc n) reads x report lane s (asking a) =
    (later : List Step) × (reads ≡ chunk_read (step_of a) ++ later)
    × ((t : Store) (moment : ℕ) → Meanwhile x lane s t
    → (let after = answered t (step_outcome t lane moment (step_of a)) in
    ((after.0).snapshots ≡ t.snapshots)
    × ((r : Reply) → MayReply bad (step_of a) after.1 r
    → EndsIn bad n later x report lane after.0 (take a r))))

-- A VERIFY of a snapshot that the store may hold, on a lane without a session, comes to its end, whichever
-- chunks are damaged. It reads the chunk of each entry of the indexes, once, in their order. Of each file
-- it tells the first fault: that it differs from what the manifest lists, or is the manifest of another
-- snapshot, and else its first damaged chunk.
abbrev pub SoundSnapshotsVerify : Type 0
SoundSnapshotsVerify =
    (x : Snapshot) (text : List ℕ) (s : Store) (lane : ℕ) (bad : Damage)
    → IsSnapshot x → key_of text ≡ Some x.key → lane < length s.sessions → session s lane ≡ none
    → (n : ℕ) × EndsIn bad n (chunk_reads x) x (report_of bad x) lane s (asking (opening text))

-- Of such a snapshot whose files FINISH takes under its key none differs: where no chunk is damaged, none
-- has a fault.
abbrev pub FinishedSnapshotsDoNotDiffer : Type 0
FinishedSnapshotsDoNotDiffer =
    (x : Snapshot) (m : Manifest)
    → IsSnapshot x → listing_of x.key x.files ≡ Ok m → faults_of undamaged x ≡ []
