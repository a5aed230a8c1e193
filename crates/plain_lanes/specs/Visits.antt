-- What a VERIFY makes of the replies to its steps.
use Rattle.std.specs.Prelude.{◌≡◌, ℕ, ◌+◌, ◌*◌, ◌<◌, ◌≤◌, Bool, true, false, List, [], ◌∷◌, ◌++◌, length, nat_lt, if◌then◌else◌, Option, Some, None, Result, IfOk, MatchResult, Vec}
use Rattle.std.specs.declared.alloc.Global.{Global}
use Rattle.std.specs.Option.{option_or}
use Rattle.sha2.specs.Sha256.{sha256}
use Rattle.store_types.specs.declared.names.Digest32.{Digest32}
use Rattle.store_types.specs.declared.refusal.Refusal.TheVariants.{Damaged, Unreadable}
use Rattle.store_files.specs.FixedIndex.{FixedIndex}
use Rattle.store_files.specs.DynamicIndex.{DynamicIndex}
use Rattle.wire_commands.specs.declared.rows.FileRow.{FileRow}
use Rattle.wire_commands.specs.declared.rows.FileFault.{FileFault}
use Rattle.wire_commands.specs.declared.rows.FileFault.TheVariants as faults
use Rattle.wire_commands.specs.declared.rows.FaultRow.{FaultRow}
use Rattle.wire_commands.specs.declared.reply.Reply.{Reply}
use Rattle.wire_commands.specs.declared.reply.Reply.TheVariants.{Done, Part, Data, Files, Refused}
use Rattle.store_types.specs.declared.piece.Piece.{Piece}
use Rattle.store_model.specs.SizeLimits.{size_limit}
use Rattle.store_model.specs.Job.{ended_by}
use Rattle.store_model.specs.Job as model
use Rattle.store_model.specs.VerifyJob as verify
use Rattle.plain_lanes.specs.declared.judging.Judged.{Judged}
use Rattle.plain_lanes.specs.declared.visit.Visit.{Visit}

abbrev pub shown_visit : Visit → model.Visit
shown_visit v = record {
  snapshot = v.snapshot;
  files = v.files;
  entries = v.entries;
  bytes = v.bytes;
  faults = v.faults.items;
  later = v.later.items;
}

abbrev pub shown_judged : Judged → verify.Judged
shown_judged j = record { fault = j.fault; bytes = j.bytes; entries = j.entries.items }

-- where memory is not wanting, this is what the file says
abbrev pub GivesJudged : {E : Type 0} → Result Judged E → verify.Judged → Type 0
GivesJudged result judged = IfOk result (λ given. shown_judged given ≡ judged)

-- the pieces of an index's entries
abbrev pub fixed_pieces_of : FixedIndex → List Piece
fixed_pieces_of x = verify.fixed_pieces x.size x.chunk_size 0 x.digests

abbrev pub dynamic_pieces_of : DynamicIndex → List Piece
dynamic_pieces_of x = verify.dynamic_pieces 0 x.entries

abbrev pub GivesPieces : {E : Type 0} → Result (Vec Piece Global) E → List Piece → Type 0
GivesPieces result pieces = IfOk result (λ given. given.items ≡ pieces)

-- no piece of a fixed index is longer than a piece may be, and the last begins within its size
pub record HasPieces (x : FixedIndex) : Type 0 where
  pub longest : x.chunk_size ≤ 16_777_216
  pub reach : length x.digests * x.chunk_size < x.size + x.chunk_size

-- where memory is not wanting, this is the fault
abbrev pub GivesFault : {E : Type 0} → Result (Option FileFault) E → Option FileFault → Type 0
GivesFault result fault = IfOk result (λ given. given ≡ fault)

-- the fault of a file that is longer than one of its kind may be
abbrev pub long_fault_of : FileRow → ℕ → Option FileFault
long_fault_of row total = if nat_lt (size_limit row.file) total then Some (verify.too_long row total) else None

-- the fault of a blob of this name: that it differs from what is listed comes first
abbrev pub blob_fault_of : List ℕ → List ℕ → FileRow → List ℕ → Option FileFault
blob_fault_of snapshot name row bytes = option_or (verify.compared row (length bytes) (sha256 bytes)) (verify.blob_fault snapshot name bytes)

abbrev pub GivesVisit : {E : Type 0} → Result Visit E → model.Visit → Type 0
GivesVisit result visit = IfOk result (λ given. shown_visit given ≡ visit)

-- the faults behind that of one more file
abbrev pub with_faults : FileRow → Option FileFault → List FaultRow → List FaultRow
with_faults row None faults = faults
with_faults row (Some fault) faults = faults ++ record { file = row.file; fault = fault } ∷ []

-- so many more entries, with so many bytes
abbrev pub counted_of : model.Visit → ℕ → ℕ → model.Visit
counted_of v entries bytes = record v { entries = v.entries + entries; bytes = v.bytes + bytes }

-- ---- replies

abbrev pub is_done : Reply → Bool
is_done Done = true
is_done _ = false

abbrev pub is_files : Reply → Bool
is_files (Files rows) = true
is_files _ = false

abbrev pub is_part : Reply → Bool
is_part (Part total bytes) = true
is_part _ = false

abbrev pub is_data : Reply → Bool
is_data (Data bytes) = true
is_data _ = false

abbrev pub unreadable_told : Reply → Bool
unreadable_told (Refused (Unreadable name)) = true
unreadable_told _ = false

-- what a reply of one kind gives, or the reply back where it is of another
abbrev pub GivesOrBack : {A : Type 0} → (A → Reply) → (Reply → Bool) → Reply → Result A Reply → Type 0
GivesOrBack made is_one reply result = MatchResult result (λ given. reply ≡ made given) (λ back. (is_one reply ≡ false) × (back ≡ reply))

-- the fault of a file that a refusal tells
abbrev pub fault_told : Reply → Option FileFault
fault_told (Refused (Damaged asked found)) = Some (faults.Damaged asked)
fault_told (Refused (Unreadable name)) = Some faults.Unreadable
fault_told _ = None

-- the fault of a chunk of this digest that a refusal tells
abbrev pub chunk_told : Reply → Digest32 → Option FileFault
chunk_told (Refused (Damaged asked found)) d = Some (faults.Damaged d)
chunk_told _ d = None

-- the fault of the piece's chunk, or that it has none, where the file goes on
abbrev pub chunk_judged : Reply → Piece → Option (Option FileFault)
chunk_judged (Data bytes) p = Some (verify.chunk_fault p bytes)
chunk_judged (Refused (Damaged asked found)) p = Some (Some (faults.Damaged p.digest))
chunk_judged _ p = None

abbrev pub JudgesChunk : Reply → Piece → Result (Option FileFault) Reply → Type 0
JudgesChunk reply p result =
    MatchResult result (λ fault. chunk_judged reply p ≡ Some fault) (λ back. (chunk_judged reply p ≡ None) × (back ≡ reply))

-- ---- the job, by a reply that gives nothing of what was read

-- behind the read of a part
abbrev pub read_by : model.Visit → FileRow → Reply → model.Job
read_by v row reply = elim (fault_told reply) [ Some fault ↦ verify.file_done v row (Some fault) | None ↦ ended_by model.closing reply ]

-- behind the read of a chunk
abbrev pub checked_by : model.Visit → FileRow → Option FileFault → Reply → model.Job
checked_by v row fault (Refused (Unreadable name)) = verify.file_done v row (option_or fault (Some faults.Unreadable))
checked_by v row fault reply = ended_by model.closing reply
