-- The tests of the commands on archives, one after another.
use Rattle.std.specs.Prelude.{◌≡◌, ℕ, List, length, map, Result, Ok, Err, IfOk, MatchResult}
use Rattle.std.specs.Borrow.{Bor}
use Rattle.store_types.specs.declared.append.AppendEntry.{AppendEntry}
use Rattle.store_types.specs.declared.names.Digest32.{Digest32}
use Rattle.store_types.specs.declared.names.SnapshotKey.{SnapshotKey}
use Rattle.store_types.specs.declared.refusal.Refusal.{Refusal}
use Rattle.store_types.specs.declared.refusal.Refusal.TheVariants.{BadName, NoFile}
use Rattle.store_types.specs.Chain.Refusing.{◌>>=◌, unless, or_else}
use Rattle.store_types.specs.FileNames.{is_fixed_name, is_dynamic_name}
use Rattle.store_files.specs.Archive.{Archive, Layout, dynamic, fixed, File, archive, content_of, csum_by, piece_with}
use Rattle.store_model.specs.Store.{Begun, Writer}
use Rattle.store_model.specs.Uploads.{want_room}
use Rattle.store_model.specs.Archives.{new_archive, want_sizes, want_number, free_number, want_entries, piece_named, pieces_named, want_facts}
use Rattle.store_model.specs.ArchiveSteps.{named}
use Rattle.store_model.specs.WriterCalls.{numbers, begun_at}
use Rattle.plain_snapshots.specs.declared.archive.Layout as layouts
use Rattle.plain_snapshots.specs.Shown.{shown_layout}

-- where memory is not wanting, it is the new archive
abbrev pub BeginsArchive : {E : Type 0} → Layout → ℕ → SnapshotKey → List ℕ → ℕ → Result Archive E → Type 0
BeginsArchive layout reserved key name moment result =
    IfOk result (λ archive. archive ≡ new_archive layout reserved key name moment)

-- the dynamic archive that a writer begins
abbrev pub begun_of : Writer → List ℕ → ℕ → Result Begun Refusal
begun_of w name moment = do
  _ ← unless BadName (is_dynamic_name name)
  _ ← want_room name w
  _ ← want_number (length w.begun)
  Ok (record { number = free_number (numbers w); name = name; archive = new_archive dynamic 4032 w.key name moment })

-- the fixed archive
abbrev pub fixed_begun_of : Writer → List ℕ → ℕ → ℕ → ℕ → Result Begun Refusal
fixed_begun_of w name size chunk_size moment = do
  _ ← unless BadName (is_fixed_name name)
  _ ← want_room name w
  _ ← want_number (length w.begun)
  _ ← want_sizes size chunk_size
  Ok (record { number = free_number (numbers w); name = name; archive = new_archive (fixed size chunk_size) 4016 w.key name moment })

-- the piece of a pool that the entry at a place names
abbrev pub piece_at : List (List ℕ) → Layout → ℕ → ℕ → Digest32 × ℕ → Result (List ℕ) Refusal
piece_at pool layout place end entry = piece_named (λ digest. piece_with digest pool) (λ p. length p) layout place end entry

-- the same of a command's entry, in an archive's own layout
abbrev pub piece_for : List (List ℕ) → layouts.Layout → ℕ → ℕ → AppendEntry → Result (List ℕ) Refusal
piece_for pool layout place end entry = piece_at pool (shown_layout layout) place end (named entry)

-- it is this piece, or this refusal
abbrev pub NamesPiece : Result (Bor (List ℕ)) Refusal → Result (List ℕ) Refusal → Type 0
NamesPiece result piece = MatchResult result (λ p. piece ≡ Ok p.now) (λ refusal. piece ≡ Err refusal)

-- the pieces of a pool that the entries name
abbrev pub pieces_from : List (List ℕ) → Layout → ℕ → ℕ → List (Digest32 × ℕ) → Result (List (List ℕ)) Refusal
pieces_from pool layout place end entries = pieces_named (λ digest. piece_with digest pool) (λ p. length p) layout place end entries

-- the same of a command's entries, in an archive's own layout
abbrev pub first_pieces : List (List ℕ) → layouts.Layout → ℕ → List AppendEntry → Result (List (List ℕ)) Refusal
first_pieces pool layout end entries = pieces_from pool (shown_layout layout) 0 end (map named entries)

-- the pieces that a writer's archive of a number gets
abbrev pub appended : Writer → ℕ → List (Digest32 × ℕ) → Result (List (List ℕ)) Refusal
appended w number entries = do
  b ← or_else NoFile (begun_at number w)
  _ ← want_entries (length (b.archive).pieces) (length entries)
  pieces_from w.pool (b.archive).layout 0 (length (content_of b.archive)) entries

-- the archive has so many pieces, they end there, its index has this checksum, and its size is reached
abbrev pub want_facts_of : Archive → ℕ → ℕ → Digest32 → Result (Unit {0}) Refusal
want_facts_of a count size csum = want_facts a.layout (length a.pieces) (length (content_of a)) (csum_by a.layout a) count size csum

-- the file that a writer's archive of a number becomes
abbrev pub closed_of : Writer → ℕ → ℕ → ℕ → Digest32 → Result File Refusal
closed_of w number count size csum = do
  b ← or_else NoFile (begun_at number w)
  _ ← want_facts_of b.archive count size csum
  Ok (record { name = b.name; content = archive b.archive })
