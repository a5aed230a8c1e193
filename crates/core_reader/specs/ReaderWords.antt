-- The words of the acts of readers: what each is answered, which file and which chunks it asks for, how often it calls the disk, and what it
-- notes.
use Rattle.std.specs.Prelude.{◌≡◌, ℕ, true, List, Option, None, Some, Result, OnOk}
use Rattle.disk_trait.specs.declared.disk.Disk.{Ghosts}
use Rattle.disk_trait.specs.Files.{Files}
use Rattle.sha2.specs.Sha256.{sha256}
use Rattle.blob_codec.specs.Blob.{blob}
use Rattle.store_types.specs.declared.names.Digest32.{Digest32}
use Rattle.store_files.specs.Folder.{IsPiece}
use Rattle.wire_commands.specs.declared.command.Command.TheVariants.{Download, GetChunk, OpenReader, Range}
use Rattle.wire_commands.specs.declared.reply.Reply.{Reply}
use Rattle.wire_commands.specs.declared.reply.Reply.TheVariants.{Data}
use Rattle.store_history.specs.declared.act.Act.{Act}
use Rattle.store_history.specs.declared.act.Act.TheVariants.{Plain, ReadChunk, ReadFile}
use Rattle.store_stops.specs.declared.stop.Stop.{Stop}
use Rattle.core_state.specs.Closing.{is_reader}
use Rattle.core_state.specs.Kept.{KeptAt}
use Rattle.core_state.specs.Tells.{Words, asked_calls, by_disk, by_state, untold}
use Rattle.core_state.specs.Wanted.{session_at}
use Rattle.core_state.specs.declared.parts.Parts.{Parts}
use Rattle.core_reader.specs.AnsweredBy.{bytes_told, chunk_told, part_told, reader_told}
use Rattle.core_reader.specs.Asked.{asked_download, asked_file, asked_part}
use Rattle.core_reader.specs.Damages.{MayName, damage_by}
use Rattle.core_reader.specs.NotesEntry.{NotesEntry}
use Rattle.core_reader.specs.NotesIndex.{NotesIndex}
use Rattle.core_reader.specs.NotesRange.{NotesRange}

-- on any disk, what is given has the digest that was asked for
abbrev pub IsGiven : Digest32 → Reply → Type 0
IsGiven digest (Data bytes) = (p : List ℕ) × IsPiece p × (sha256 p ≡ digest.0) × (bytes ≡ blob p)
IsGiven digest reply = Unit {0}

-- OPEN_READER on any disk; RANGE and a VERIFY's reads as it stands on an honest one, whatever it holds
abbrev pub reader_answers : {D : Type 0} → Act → Ghosts D → D → KeptAt → Reply → Type 0
reader_answers (Plain (OpenReader snapshot)) d disk k reply = by_state (reader_told snapshot) d disk k reply
reader_answers (Plain (GetChunk digest)) d disk k reply = IsGiven digest reply
reader_answers (Plain (Range file offset len)) d disk k reply = by_disk (λ k files. bytes_told file offset len files k) d disk k reply
reader_answers (ReadFile name offset) d disk k reply = by_disk (λ k files. part_told name offset files k) d disk k reply
reader_answers (ReadChunk name entry) d disk k reply = by_disk (λ k files. chunk_told name entry files k) d disk k reply
reader_answers act d disk k reply = untold d disk k reply

-- as often as for the part of a file that is given
abbrev pub reader_calls : Act → KeptAt → Files → Option ℕ
reader_calls (Plain (Download file offset)) k files = asked_calls (asked_download file offset k) files
reader_calls (ReadFile name offset) k files = asked_calls (asked_part name offset k) files
reader_calls act k files = None

-- what the lane keeps of indexes then, and its session: once an OPEN_READER is done, the lane has a reader
abbrev pub reader_notes : {D : Type 0} → Act → Ghosts D → Parts D → Parts D → ℕ → Result Reply Stop → Type 0
reader_notes (Plain (OpenReader snapshot)) d old new lane result = OnOk result (is_reader (session_at new lane) ≡ true)
reader_notes (Plain (Download file offset)) d old new lane result = NotesIndex d old new lane file offset result
reader_notes (Plain (Range file offset len)) d old new lane result = NotesRange d old new lane file offset len result
reader_notes (ReadChunk name entry) d old new lane result = NotesEntry d old new lane name entry result
reader_notes act d old new lane result = Unit {0}

abbrev pub reader_words : {D : Type 0} → Act → Words D
reader_words act = record {
  answers = reader_answers act;
  asked = asked_file act;
  damage = damage_by act;
  may_name = MayName act;
  calls = reader_calls act;
  notes = reader_notes act;
}
