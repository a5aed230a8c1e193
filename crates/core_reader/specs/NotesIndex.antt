-- What a reader notes of an index behind a DOWNLOAD of it.
use Rattle.std.specs.Prelude.{◌≡◌, ℕ, List, Option, None, Some, Result, Ok, IfOk}
use Rattle.disk_trait.specs.Files.{Files}
use Rattle.disk_trait.specs.declared.disk.Disk.{Ghosts}
use Rattle.paged_indexes.specs.declared.index.IndexPages.{IndexPages}
use Rattle.paged_indexes.specs.declared.kinds.IndexKind.{IndexKind}
use Rattle.restore_reader.specs.declared.index.Table.{Table}
use Rattle.wire_commands.specs.declared.reply.Reply.{Reply}
use Rattle.store_stops.specs.declared.stop.Stop.{Stop}
use Rattle.core_state.specs.Kept.{kept_at}
use Rattle.core_state.specs.declared.kept.Session.{Session}
use Rattle.core_state.specs.declared.parts.Parts.{Parts}
use Rattle.core_state.specs.Unreadables.{Asked, from_offset}
use Rattle.core_state.specs.Wanted.{session_at}
use Rattle.core_reader.specs.declared.downloading.Given.{Given}
use Rattle.core_reader.specs.Asked.{IsGiven, file_asked, noting}

-- a part of the file at the path; of an index that is read whole, of this kind
abbrev pub part_of : List ℕ → Option IndexKind → ℕ → Asked
part_of path whole offset = record { path = path; way = from_offset whole offset }

-- what was opened and read of the index at the path is noted
abbrev pub NotesGiven : Files → List ℕ → IndexKind → ℕ → List ℕ → Session → Session → Type 0
NotesGiven content path of_kind offset file old new = (g : Given) × IsGiven content path of_kind offset g × (new ≡ noting file g.table g.pages old)

-- on any disk: by some table and some pages, and of all other names what was noted stays
abbrev pub NotesSome : List ℕ → Session → Session → Type 0
NotesSome file old new = (table : Table) × (pages : IndexPages) × (new ≡ noting file table pages old)

-- Once it is done, a file of which a part was read leaves the session as it was, and an index that was read whole is noted: of an honest
-- disk's, what was read.
pub record NotesIndex {D : Type 0} (d : Ghosts D) (old new : Parts D) (lane : ℕ) (file : List ℕ) (offset : ℕ) (result : Result Reply Stop) : Type 0 where
  pub part : IfOk result (λ reply. (path : List ℕ) → file_asked file offset (kept_at old lane) ≡ Ok (part_of path None offset) → session_at new lane ≡ session_at old lane)
  pub index : IfOk result (λ reply. (path : List ℕ) (of_kind : IndexKind) → file_asked file offset (kept_at old lane) ≡ Ok (part_of path (Some of_kind) offset) → d.honest old.disk
      → NotesGiven (d.content old.disk) path of_kind offset file (session_at old lane) (session_at new lane))
  pub some : IfOk result (λ reply. (path : List ℕ) (of_kind : IndexKind) → file_asked file offset (kept_at old lane) ≡ Ok (part_of path (Some of_kind) offset)
      → NotesSome file (session_at old lane) (session_at new lane))
