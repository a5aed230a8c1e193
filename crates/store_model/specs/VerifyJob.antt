-- VERIFY: reads each file of a snapshot and each chunk that its indexes name, and compares them with what the manifest and the indexes say.
use Rattle.std.specs.Prelude.{ℕ, ◌+◌, ◌-◌, Bool, ◌&&◌, ◌||◌, List, [], ◌∷◌, ◌++◌, length, ◌==◌, nat_lt, if◌then◌else◌, Option, Some, None, Ok, Err}
use Rattle.std.specs.Option.{option_or}
use Rattle.std.specs.Str.{bytes_eq}
use Rattle.sha2.specs.Sha256.{sha256}
use Rattle.store_types.specs.declared.names.Digest32.{Digest32}
use Rattle.store_types.specs.declared.refusal.Refusal.TheVariants.{Damaged, Unreadable}
use Rattle.store_types.specs.FileNames.{is_fixed_name, is_dynamic_name, is_index_name, manifest_name}
use Rattle.store_types.specs.Names.{key_text}
use Rattle.blob_codec.specs.Blob.{data_of}
use Rattle.store_files.specs.FixedIndex as fixed_index
use Rattle.store_files.specs.DynamicIndex as dynamic_index
use Rattle.store_files.specs.Manifest.{manifest_of}
use Rattle.wire_commands.specs.declared.rows.FileRow.{FileRow}
use Rattle.wire_commands.specs.declared.rows.FileFault.{FileFault}
use Rattle.wire_commands.specs.declared.rows.FileFault.TheVariants as faults
use Rattle.wire_commands.specs.declared.reply.Reply.{Reply}
use Rattle.wire_commands.specs.declared.reply.Reply.TheVariants.{Done, Part, Data, Files, Verified, Refused}
use Rattle.store_types.specs.declared.piece.Piece.{Piece}
use Rattle.store_model.specs.SizeLimits.{size_limit}
use Rattle.store_model.specs.Job.{Visit, listing, reading, checking, closing, Job, over, asking, stopped}

-- ---- what a whole file says

-- its fault, and of an index how many bytes its entries have together, and each of them
pub record Judged : Type 0 where
  pub fault : Option FileFault
  pub bytes : ℕ
  pub entries : List Piece

abbrev pub without_entries : Option FileFault → Judged
without_entries fault = record { fault = fault; bytes = 0; entries = [] }

-- the size and the checksum are those that are listed
abbrev pub compared : FileRow → ℕ → List ℕ → Option FileFault
compared row size csum = if (row.size == size) && bytes_eq (row.csum).0 csum then None else Some faults.Differs

abbrev pub digest : List ℕ → Digest32
digest d = record { 0 = d }

-- the pieces with these digests, of an archive of this size and chunk size, from an offset on
abbrev pub fixed_pieces : ℕ → ℕ → ℕ → List (List ℕ) → List Piece
fixed_pieces size chunk_size offset [] = []
fixed_pieces size chunk_size offset (d ∷ ds) =
    record { digest = digest d; length = fixed_index.piece_len size chunk_size offset } ∷ fixed_pieces size chunk_size (offset + chunk_size) ds

unfoldable pub fixed_judged : FileRow → List ℕ → Judged
fixed_judged row bytes =
    elim (fixed_index.fixed_of bytes) [
      | Err cause ↦ without_entries (Some faults.Unreadable)
      | Ok x ↦ record {
        fault = compared row x.size (fixed_index.csum_of x);
        bytes = x.size;
        entries = fixed_pieces x.size x.chunk_size 0 x.digests;
      }
    ]

-- where the last entry ends
abbrev pub last_end : List dynamic_index.Ended → ℕ
last_end [] = 0
last_end (e ∷ []) = e.end
last_end (e ∷ f ∷ es) = last_end (f ∷ es)

-- each piece begins where the one before it ends
abbrev pub dynamic_pieces : ℕ → List dynamic_index.Ended → List Piece
dynamic_pieces start [] = []
dynamic_pieces start (e ∷ es) = record { digest = digest e.digest; length = e.end - start } ∷ dynamic_pieces e.end es

unfoldable pub dynamic_judged : FileRow → List ℕ → Judged
dynamic_judged row bytes =
    elim (dynamic_index.dynamic_of bytes) [
      | Err cause ↦ without_entries (Some faults.Unreadable)
      | Ok x ↦ record {
        fault = compared row (last_end x.entries) (dynamic_index.csum_of x);
        bytes = last_end x.entries;
        entries = dynamic_pieces 0 x.entries;
      }
    ]

-- the manifest is one, and of the snapshot with this text
abbrev pub manifest_fault : List ℕ → List ℕ → Option FileFault
manifest_fault snapshot contents =
    elim (manifest_of contents) [
      | Err cause ↦ Some faults.Unreadable
      | Ok m ↦ if bytes_eq (key_text m.key) snapshot then None else Some faults.Differs
    ]

abbrev pub blob_fault : List ℕ → List ℕ → List ℕ → Option FileFault
blob_fault snapshot name bytes =
    elim (data_of bytes) [
      | Err cause ↦ Some faults.Unreadable
      | Ok contents ↦ if bytes_eq name manifest_name then manifest_fault snapshot contents else None
    ]

-- that it differs from what is listed comes first
unfoldable pub blob_judged : List ℕ → FileRow → List ℕ → Judged
blob_judged snapshot row bytes =
    without_entries (option_or (compared row (length bytes) (sha256 bytes)) (blob_fault snapshot row.file bytes))

unfoldable pub judged : List ℕ → FileRow → List ℕ → Judged
judged snapshot row bytes =
    if is_fixed_name row.file then fixed_judged row bytes else
    if is_dynamic_name row.file then dynamic_judged row bytes else
    blob_judged snapshot row bytes

-- ---- from file to file

abbrev pub tally : Visit → Reply
tally v = Verified v.files v.entries v.bytes v.faults

unfoldable pub next_file : Visit → List FileRow → Job
next_file v [] = asking (closing (tally v))
next_file v (row ∷ later) = asking (reading (record v { later = later }) row [])

abbrev pub with_fault : FileRow → Option FileFault → Visit → Visit
with_fault row None v = v
with_fault row (Some fault) v = record v { faults = v.faults ++ record { file = row.file; fault = fault } ∷ [] }

-- all of the file is read
unfoldable pub file_done : Visit → FileRow → Option FileFault → Job
file_done v row fault = next_file (with_fault row fault (record v { files = v.files + 1 })) v.later

unfoldable pub next_chunk : Visit → FileRow → Option FileFault → ℕ → List Piece → Job
next_chunk v row fault place [] = file_done v row fault
next_chunk v row fault place (p ∷ ps) = asking (checking v row fault place p ps)

-- the file is read, and of an index the chunks come next
unfoldable pub file_read : Visit → FileRow → Judged → Job
file_read v row j =
    next_chunk (record v { entries = v.entries + length j.entries; bytes = v.bytes + j.bytes }) row j.fault 0 j.entries

-- ---- the replies

unfoldable pub opened : List ℕ → Reply → Job
opened snapshot Done = asking (listing snapshot)
opened snapshot reply = over reply

abbrev pub begun : List ℕ → Visit
begun snapshot = record { snapshot = snapshot; files = 0; entries = 0; bytes = 0; faults = []; later = [] }

unfoldable pub listed : List ℕ → Reply → Job
listed snapshot (Files rows) = next_file (begun snapshot) rows
listed snapshot (Refused refusal) = stopped closing refusal
listed snapshot reply = over reply

-- What is longer than a file of its kind may be is no index and no blob. That a blob differs from what is listed comes first.
abbrev pub too_long : FileRow → ℕ → FileFault
too_long row total = if is_index_name row.file || (row.size == total) then faults.Unreadable else faults.Differs

-- behind a part the next is read; of a file that is too long none is
unfoldable pub part_read : Visit → FileRow → List ℕ → ℕ → Job
part_read v row bytes total =
    if nat_lt (size_limit row.file) total then file_done v row (Some (too_long row total)) else
    if nat_lt (length bytes) total then asking (reading v row bytes) else
    file_read v row (judged v.snapshot row bytes)

unfoldable pub read_part : Visit → FileRow → List ℕ → Reply → Job
read_part v row bytes (Part total more) = part_read v row (bytes ++ more) total
read_part v row bytes (Refused (Damaged asked found)) = file_done v row (Some (faults.Damaged asked))
read_part v row bytes (Refused (Unreadable name)) = file_done v row (Some faults.Unreadable)
read_part v row bytes (Refused refusal) = stopped closing refusal
read_part v row bytes reply = over reply

-- the data are those of a piece with this digest; a piece is not empty
abbrev pub is_piece_of : Digest32 → List ℕ → Bool
is_piece_of d piece = nat_lt 0 (length piece) && bytes_eq (sha256 piece) d.0

-- it is the one that the index names
abbrev pub is_piece : Piece → List ℕ → Bool
is_piece p piece = (length piece == p.length) && is_piece_of p.digest piece

-- the bytes are the blob of the piece, or the chunk is damaged
abbrev pub chunk_fault : Piece → List ℕ → Option FileFault
chunk_fault p bytes =
    elim (data_of bytes) [
      | Err cause ↦ Some (faults.Damaged p.digest)
      | Ok piece ↦ if is_piece p piece then None else Some (faults.Damaged p.digest)
    ]

-- A file has the first fault that it shows. What can't be read ends the file.
unfoldable pub checked : Visit → FileRow → Option FileFault → ℕ → Piece → List Piece → Reply → Job
checked v row fault place p later (Data bytes) = next_chunk v row (option_or fault (chunk_fault p bytes)) (place + 1) later
checked v row fault place p later (Refused (Damaged asked found)) = next_chunk v row (option_or fault (Some (faults.Damaged p.digest))) (place + 1) later
checked v row fault place p later (Refused (Unreadable name)) = file_done v row (option_or fault (Some faults.Unreadable))
checked v row fault place p later (Refused refusal) = stopped closing refusal
checked v row fault place p later reply = over reply
