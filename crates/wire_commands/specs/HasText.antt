-- What has a spelling: texts of at most 255 bytes, digests of 32, and numbers and counts within their fields.
use Rattle.std.specs.Prelude.{◌≡◌, true, ℕ, ◌<◌, ◌≤◌, ◌^◌, ◌↔◌, List, [], length, ⊤, Some, All}
use Rattle.store_types.specs.declared.append.AppendEntry.{AppendEntry}
use Rattle.store_types.specs.declared.names.Digest32.{Digest32}
use Rattle.store_types.specs.declared.names.Keep.{Keep}
use Rattle.store_types.specs.declared.refusal.BadBlob.{BadBlob as BlobCause}
use Rattle.store_types.specs.declared.refusal.BadBlob.TheVariants as blobs
use Rattle.store_types.specs.declared.refusal.CloseFault.{CloseFault}
use Rattle.store_types.specs.declared.refusal.CloseFault.TheVariants.{Count, Size, Csum, Rest}
use Rattle.store_types.specs.declared.refusal.ChunkFault.{ChunkFault}
use Rattle.store_types.specs.declared.refusal.ChunkFault.TheVariants.{Other}
use Rattle.store_types.specs.declared.refusal.Refusal.{Refusal}
use Rattle.store_types.specs.declared.refusal.Refusal.TheVariants.{BadFrame, TooLong, GroupBusy, SnapshotBusy, NotNewer, BadBlob, WrongDigest, WrongSize, UnknownChunk, BadOffset, BadClose, OpenIndexes, BadManifest, ManifestMismatch, TooMany, BadRange, Damaged, Unreadable, CollectorBusy, Halted}
use Rattle.wire_frames.specs.Frames.{body_limit, AreBytes}
use Rattle.wire_commands.specs.declared.command.Command.{Command}
use Rattle.wire_commands.specs.declared.command.Command.TheVariants.{OpenWriter, Previous, NewFixed, NewDynamic, Chunk, Append, CloseIndex, Blob, OpenReader, Download, GetChunk, Range, List as ListAll, Files as FilesOf, Forget, Prune, Verify, Sync, Group}
use Rattle.wire_commands.specs.declared.rows.ListRow.{ListRow}
use Rattle.wire_commands.specs.declared.rows.FileRow.{FileRow}
use Rattle.wire_commands.specs.declared.rows.PruneRow.{PruneRow}
use Rattle.wire_commands.specs.declared.rows.FileFault.{FileFault}
use Rattle.wire_commands.specs.declared.rows.FileFault.TheVariants as file_faults
use Rattle.wire_commands.specs.declared.rows.FaultRow.{FaultRow}
use Rattle.wire_commands.specs.declared.reply.Reply.{Reply}
use Rattle.wire_commands.specs.declared.reply.Reply.TheVariants.{Base, Part, Number, Listing, Files, Keys, Marks, Verified, Collected, Refused}
use Rattle.wire_commands.specs.CommandText.{command_text, command_of}
use Rattle.wire_commands.specs.ReplyText.{files_fit, reply_text, AnswersCode}
use Rattle.wire_commands.specs.ReplyReading.{reply_of}

abbrev pub IsText : List ℕ → Type 0
IsText t = length t < 256

abbrev pub IsDigest : Digest32 → Type 0
IsDigest d = length d.0 ≡ 32

abbrev pub FitsEntry : AppendEntry → Type 0
FitsEntry e = IsDigest e.digest × (e.offset < 2 ^ 64)

abbrev pub FitsKeep : Keep → Type 0
FitsKeep k = (k.last < 2 ^ 16) × (k.hourly < 2 ^ 16) × (k.daily < 2 ^ 16) × (k.weekly < 2 ^ 16) × (k.monthly < 2 ^ 16) × (k.yearly < 2 ^ 16)

abbrev pub FitsCommand : Command → Type 0
FitsCommand (OpenWriter snapshot) = IsText snapshot
FitsCommand (Previous file offset) = IsText file × (offset < 2 ^ 64)
FitsCommand (NewFixed file size chunk_size) = IsText file × (size < 2 ^ 64) × (chunk_size < 2 ^ 64)
FitsCommand (NewDynamic file) = IsText file
FitsCommand (Chunk digest blob) = IsDigest digest
FitsCommand (Append number entries) = (number < 256) × (length entries < 2 ^ 16) × All FitsEntry entries
FitsCommand (CloseIndex number count size csum) = (number < 256) × (count < 2 ^ 64) × (size < 2 ^ 64) × IsDigest csum
FitsCommand (Blob file blob) = IsText file
FitsCommand (OpenReader snapshot) = IsText snapshot
FitsCommand (Download file offset) = IsText file × (offset < 2 ^ 64)
FitsCommand (GetChunk digest) = IsDigest digest
FitsCommand (Range file offset len) = IsText file × (offset < 2 ^ 64) × (len < 2 ^ 32)
FitsCommand (ListAll after) = IsText after
FitsCommand (FilesOf snapshot) = IsText snapshot
FitsCommand (Forget snapshot) = IsText snapshot
FitsCommand (Prune group keep dry) = IsText group × FitsKeep keep
FitsCommand (Verify snapshot) = IsText snapshot
FitsCommand (Sync group) = IsText group
FitsCommand (Group group) = IsText group
FitsCommand _ = ⊤

-- the command has a spelling
abbrev pub HasText : Command → Type 0
HasText c = FitsCommand c × (length (command_text c) ≤ body_limit)

-- ---- replies

abbrev pub FitsBadBlob : BlobCause → Type 0
FitsBadBlob (blobs.WrongCrc kept found) = (kept < 2 ^ 32) × (found < 2 ^ 32)
FitsBadBlob _ = ⊤

abbrev pub FitsCloseFault : CloseFault → Type 0
FitsCloseFault (Count n) = n < 2 ^ 64
FitsCloseFault (Size n) = n < 2 ^ 64
FitsCloseFault (Csum d) = IsDigest d
FitsCloseFault (Rest n) = n < 2 ^ 64

abbrev pub FitsChunkFault : ChunkFault → Type 0
FitsChunkFault (Other d) = IsDigest d
FitsChunkFault _ = ⊤

-- Just the fields 1 to 3 name no file.
abbrev pub FitsMismatch : List ℕ → ℕ → Type 0
FitsMismatch file field = IsText file × (1 ≤ field) × (field ≤ 7) × ((file ≡ []) ↔ (field ≤ 3))

abbrev pub FitsRefusal : Refusal → Type 0
FitsRefusal (BadFrame offset) = offset < 2 ^ 64
FitsRefusal (TooLong len) = len < 2 ^ 32
FitsRefusal (GroupBusy lane) = lane < 2 ^ 32
FitsRefusal (SnapshotBusy lane) = lane < 2 ^ 32
FitsRefusal (NotNewer latest) = latest < 2 ^ 64
FitsRefusal (BadBlob fault) = FitsBadBlob fault
FitsRefusal (WrongDigest found) = IsDigest found
FitsRefusal (WrongSize place size) = (place < 2 ^ 32) × (size < 2 ^ 64)
FitsRefusal (UnknownChunk place) = place < 2 ^ 32
FitsRefusal (BadOffset place expected) = (place < 2 ^ 32) × (expected < 2 ^ 64)
FitsRefusal (BadClose fault) = FitsCloseFault fault
FitsRefusal (OpenIndexes count) = count < 256
FitsRefusal (BadManifest cause) = (1 ≤ cause) × (cause ≤ 5)
FitsRefusal (ManifestMismatch file field) = FitsMismatch file field
FitsRefusal (TooMany limit) = limit < 2 ^ 32
FitsRefusal (BadRange size) = size < 2 ^ 64
FitsRefusal (Damaged digest fault) = IsDigest digest × FitsChunkFault fault
FitsRefusal (Unreadable name) = IsText name
FitsRefusal (CollectorBusy lane) = lane < 2 ^ 32
FitsRefusal (Halted place) = place < 2 ^ 64
FitsRefusal _ = ⊤

abbrev pub FitsListRow : ListRow → Type 0
FitsListRow r = IsText r.snapshot × (r.files < 256) × (files_fit r.damaged r.files ≡ true)

abbrev pub FitsFileRow : FileRow → Type 0
FitsFileRow r = IsText r.file × (r.size < 2 ^ 64) × IsDigest r.csum

abbrev pub FitsPruneRow : PruneRow → Type 0
FitsPruneRow r = IsText r.snapshot

abbrev pub FitsFileFault : FileFault → Type 0
FitsFileFault (file_faults.Damaged digest) = IsDigest digest
FitsFileFault _ = ⊤

abbrev pub FitsFaultRow : FaultRow → Type 0
FitsFaultRow r = IsText r.file × FitsFileFault r.fault

abbrev pub FitsReply : Reply → Type 0
FitsReply (Base snapshot) = IsText snapshot
FitsReply (Part total bytes) = total < 2 ^ 64
FitsReply (Number n) = n < 256
FitsReply (Listing rows) = (length rows < 2 ^ 16) × All FitsListRow rows
FitsReply (Files rows) = (length rows < 256) × All FitsFileRow rows
FitsReply (Keys snapshots) = (length snapshots < 2 ^ 16) × All IsText snapshots
FitsReply (Marks rows) = (length rows < 2 ^ 16) × All FitsPruneRow rows
FitsReply (Verified files entries bytes faults) =
    (files < 256) × (entries < 2 ^ 64) × (bytes < 2 ^ 64) × (length faults < 256) × All FitsFaultRow faults
FitsReply (Collected start cutoff used pending removed) =
    (start < 2 ^ 64) × (cutoff < 2 ^ 64) × (used < 2 ^ 64) × (pending < 2 ^ 64) × (removed < 2 ^ 64)
FitsReply (Refused refusal) = FitsRefusal refusal
FitsReply _ = ⊤

abbrev pub ReplyHasText : Reply → Type 0
ReplyHasText r = FitsReply r × (length (reply_text r) ≤ body_limit)

-- ---- laws

-- what is written is read again, and what is read has one spelling
abbrev pub CommandsAreReadAgain : Type 0
CommandsAreReadAgain = (c : Command) → HasText c → command_of (command_text c) ≡ Some c

abbrev pub CommandsHaveOneText : Type 0
CommandsHaveOneText = (body : List ℕ) (c : Command) → AreBytes body → command_of body ≡ Some c → HasText c × (body ≡ command_text c)

abbrev pub RepliesAreReadAgain : Type 0
RepliesAreReadAgain = (code : ℕ) (r : Reply) → ReplyHasText r → AnswersCode code r → reply_of code (reply_text r) ≡ Some r

abbrev pub RepliesHaveOneText : Type 0
RepliesHaveOneText = (code : ℕ) (body : List ℕ) (r : Reply) → AreBytes body → reply_of code body ≡ Some r →
    ReplyHasText r × AnswersCode code r × (body ≡ reply_text r)

-- ---- what was read

-- it has a spelling, which these bytes are
abbrev pub SpellsCommand : List ℕ → Command → Type 0
SpellsCommand body c = HasText c × (body ≡ command_text c)

abbrev pub SpellsReply : List ℕ → Reply → Type 0
SpellsReply body r = ReplyHasText r × (body ≡ reply_text r)
