-- A VERIFY's state.
use Rattle.std.specs.Prelude.{◌≡◌, ℕ, ◌+◌, ◌*◌, ◌^◌, ◌<◌, ◌≤◌, Bool, true, ◌==◌, List, [], drop, length, nat_lt, Option, Some, None, is_some, Result, Vec, IfOk, if◌then◌else◌, slice_index_or}
use Rattle.std.specs.declared.alloc.Global.{Global}
use Rattle.std.specs.Option.{option_or}
use Rattle.sha2.specs.Sha256.{sha256}
use Rattle.store_files.specs.FixedIndex.{FixedIndex}
use Rattle.store_files.specs.DynamicIndex.{DynamicIndex}
use Rattle.wire_commands.specs.declared.rows.FileFault.{FileFault}
use Rattle.wire_commands.specs.declared.rows.FileRow.{FileRow}
use Rattle.wire_commands.specs.declared.reply.Reply.{Reply}
use Rattle.wire_commands.specs.declared.reply.Reply.TheVariants.{Part}
use Rattle.store_types.specs.declared.piece.Piece.{Piece}
use Rattle.store_model.specs.declared.step.Step.{Step}
use Rattle.store_model.specs.declared.step.Step.TheVariants.{ReadFile}
use Rattle.store_model.specs.SizeLimits.{size_limit}
use Rattle.store_model.specs.Job as model
use Rattle.store_model.specs.VerifyJob as verify
use Rattle.job_steps.specs.declared.chunks.Chunks.{Chunks}
use Rattle.job_steps.specs.declared.chunks.Judged.{Judged}
use Rattle.job_steps.specs.declared.visit.Visit.{Visit}
use Rattle.job_steps.specs.Parts.{parts_fault}
use Rattle.job_steps.specs.Waits.{fault_with}

abbrev pub shown_visit : Visit → model.Visit
shown_visit v = record {
  snapshot = v.snapshot;
  files = v.files;
  entries = v.entries;
  bytes = v.bytes;
  faults = v.faults.items;
  later = v.later.items;
}

-- ---- the chunks of an index

abbrev pub GivesPieces : {E : Type 0} → List Piece → Result (Vec Piece Global) E → Type 0
GivesPieces pieces result = IfOk result (λ entries. entries.items ≡ pieces)

-- how many of its chunks were read: those that are tested or at a thread, and those that wait
abbrev pub place_in : Chunks → ℕ
place_in c = c.tested + length c.waiting.chunks.items

-- those to be read
abbrev pub pieces_left : Chunks → List Piece
pieces_left c = drop (place_in c) c.entries.items

-- the first fault of a file whose fault so far is this, with the chunks that were read: what they hold counts, tested or not
abbrev pub fault_in : Option FileFault → Chunks → Option FileFault
fault_in fault c = fault_with (option_or fault (parts_fault c.handed.parts.items)) c.waiting.chunks.items

-- all were read
abbrev pub IsRead : Chunks → Type 0
IsRead c = length c.entries.items ≤ place_in c

-- there is a chunk to be read, and its piece
abbrev pub HasNext : Chunks → Type 0
HasNext c = place_in c < length c.entries.items

abbrev pub next_piece : Chunks → Piece
next_piece c = slice_index_or (pieces_left c) 0 (record { digest = verify.digest []; length = 0 })

-- a blob is as long as that of this piece
abbrev pub is_as_long : Piece → List ℕ → Bool
is_as_long p blob = length blob == p.length + 12

-- ---- what a call leaves

-- whatever the fault of the file so far: with the chunks that were read, its first fault is as before
abbrev pub SameFault : Chunks → Chunks → Type 0
SameFault old new = (fault : Option FileFault) → fault_in fault new ≡ fault_in fault old

-- the same, where this fault was taken out of them
abbrev pub KeepsFault : Chunks → Chunks → Option FileFault → Type 0
KeepsFault old new found = (fault : Option FileFault) → fault_in (option_or fault found) new ≡ fault_in fault old

-- the same, where this fault is all that they have
abbrev pub FindsFault : Chunks → Option FileFault → Type 0
FindsFault c found = (fault : Option FileFault) → option_or fault found ≡ fault_in fault c

-- one more was read
pub record ReadsOne (old new : Chunks) : Type 0 where
  pub entries : new.entries.items ≡ old.entries.items
  pub place : place_in new ≡ place_in old + 1

-- it waits: whatever the fault of the file so far, this comes before what is wrong with the chunk
abbrev pub HoldsOne : Chunks → Chunks → List ℕ → Type 0
HoldsOne old new blob =
    (fault : Option FileFault) → fault_in fault new ≡ option_or (fault_in fault old) (verify.chunk_fault (next_piece old) blob)

-- as many were read
pub record StaysAt (old new : Chunks) : Type 0 where
  pub entries : new.entries.items ≡ old.entries.items
  pub place : place_in new ≡ place_in old

-- none waits any more, nor is one at a thread
abbrev pub IsSettled : Chunks → Type 0
IsSettled c = (c.handed.parts.items ≡ []) × (c.waiting.chunks.items ≡ [])

-- as many were read, and all of them are tested
pub record TestsAll (old new : Chunks) : Type 0 where
  pub stays : StaysAt old new
  pub settled : IsSettled new

-- a chunk is not tested where the file has a fault already: a file has its first fault alone
abbrev pub WaitsFor : Option FileFault → Chunks → Type 0
WaitsFor fault c = is_some fault ≡ true → c.waiting.chunks.items ≡ []

-- behind the last of them none waits, nor is one at a thread
abbrev pub EndsTested : Chunks → Type 0
EndsTested c = IsRead c → IsSettled c

-- none of its chunks was read
abbrev pub IsUnread : Chunks → Type 0
IsUnread c = (c.tested ≡ 0) × IsSettled c

-- of the file at hand no entries are counted
abbrev pub IsUncounted : Visit → Type 0
IsUncounted v = (v.entries ≤ v.files * 2 ^ 20) × (v.bytes ≤ v.files * 2 ^ 44)

-- ---- a whole file

abbrev pub shown_judged : Judged → verify.Judged
shown_judged j = record { fault = j.fault; bytes = j.bytes; entries = j.entries.items }

abbrev pub GivesJudged : {E : Type 0} → Result Judged E → verify.Judged → Type 0
GivesJudged result judged = IfOk result (λ given. shown_judged given ≡ judged)

-- the pieces of a fixed index are in range: none is longer than a piece may be, and together they have its size
pub record HasPieces (x : FixedIndex) : Type 0 where
  pub limit : length x.digests ≤ 1_048_576
  pub longest : x.chunk_size ≤ 16_777_216
  pub size : x.size ≤ length x.digests * x.chunk_size
  pub reach : length x.digests * x.chunk_size < x.size + x.chunk_size

-- the pieces of an index
abbrev pub fixed_pieces_of : FixedIndex → List Piece
fixed_pieces_of x = verify.fixed_pieces x.size x.chunk_size 0 x.digests

abbrev pub dynamic_pieces_of : DynamicIndex → List Piece
dynamic_pieces_of x = verify.dynamic_pieces 0 x.entries

-- the fault of a blob of this name: that it differs from what is listed comes first
abbrev pub blob_fault_of : List ℕ → List ℕ → FileRow → List ℕ → Option FileFault
blob_fault_of snapshot name row bytes = option_or (verify.compared row (length bytes) (sha256 bytes)) (verify.blob_fault snapshot name bytes)

abbrev pub GivesFault : {E : Type 0} → Result (Option FileFault) E → Option FileFault → Type 0
GivesFault result fault = IfOk result (λ given. given ≡ fault)

-- the fault of a file that is longer than one of its kind may be
abbrev pub long_fault : FileRow → ℕ → Option FileFault
long_fault row total = if nat_lt (size_limit row.file) total then Some (verify.too_long row total) else None

-- a part of a file was read: the one reply that is taken only where there is memory
abbrev pub IsPartRead : Option Step → Reply → Type 0
IsPartRead (Some (ReadFile name offset)) (Part total bytes) = Unit {0}
IsPartRead step reply = ⊥

-- what a file with these bytes says, where they are all of it
abbrev pub judged_by : model.Visit → FileRow → List ℕ → ℕ → Option verify.Judged
judged_by v row bytes total = if nat_lt (length bytes) total then None else Some (verify.judged v.snapshot row bytes)
