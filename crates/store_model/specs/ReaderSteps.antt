-- The commands of a reader, with their refusals in order.
use Rattle.std.specs.Prelude.{if◌then◌else◌, ◌++◌, ◌+◌, [], ◌∷◌, ℕ, Bool, List, length, take, drop, nat_le, slice_get, Option, Some, None, option_map, Result, Ok}
use Rattle.std.specs.Str.{bytes_eq}
use Rattle.std.specs.List.{list_any, concat, flat_map}
use Rattle.store_types.specs.declared.refusal.Refusal.{Refusal}
use Rattle.store_types.specs.declared.refusal.Refusal.TheVariants.{BadName, NoSnapshot, NoFile, NotAllowed, TooMany, BadRange}
use Rattle.store_types.specs.declared.names.Digest32.{Digest32}
use Rattle.store_types.specs.Chain.Refusing.{◌>>=◌, unless, or_else}
use Rattle.store_types.specs.FileNames.{is_file_name, is_index_name}
use Rattle.store_files.specs.Archive.{Content, archive, blob, File, file_text, file_named, pieces_of, piece_with}
use Rattle.blob_codec.specs.Blob as blobs
use Rattle.wire_commands.specs.declared.reply.Reply.TheVariants.{Done, Data}
use Rattle.store_model.specs.Store.{Reader, reader, Store, Outcome, session, with_session, want_reader, ended, snapshot_named}
use Rattle.store_model.specs.Heads.{idle_key}
use Rattle.store_model.specs.WriterSteps.{part_limit, part_of}

unfoldable pub open_reader : Store → ℕ → List ℕ → Outcome
open_reader s lane snapshot = do
  key ← idle_key s lane snapshot
  _ ← or_else NoSnapshot (snapshot_named key s.snapshots)
  Ok (with_session s lane (reader (record { key = key; noted = [] })), Done)

-- the files of the reader's snapshot
abbrev pub reader_files : Store → Reader → List File
reader_files s r = elim (snapshot_named r.key s.snapshots) [ None ↦ [] | Some x ↦ x.files ]

abbrev pub is_noted : Reader → List ℕ → Bool
is_noted r name = list_any (bytes_eq name) r.noted

-- an archive's name is noted, once
abbrev pub note : List ℕ → Content → Reader → Reader
note name (archive a) r = if is_noted r name then r else record r { noted = r.noted ++ name ∷ [] }
note name (blob bytes) r = r

unfoldable pub download : Store → ℕ → List ℕ → ℕ → Outcome
download s lane name offset = do
  r ← want_reader (session s lane)
  _ ← unless BadName (is_file_name name)
  file ← or_else NoFile (file_named name (reader_files s r))
  _ ← unless (BadRange (length (file_text file.content))) (nat_le offset (length (file_text file.content)))
  Ok (with_session s lane (reader (note name file.content r)), part_of (file_text file.content) offset)

-- ---- the archives that a reader noted, among the files of its snapshot

abbrev pub content_at : List File → List ℕ → Option Content
content_at files name = option_map (λ f. f.content) (file_named name files)

-- the pieces of the archive of this name
abbrev pub pieces_at : List File → List ℕ → List (List ℕ)
pieces_at files name = elim (content_at files name) [ None ↦ [] | Some content ↦ pieces_of content ]

abbrev pub noted_pieces : List File → Reader → List (List ℕ)
noted_pieces files r = flat_map (pieces_at files) r.noted

-- ---- GET_CHUNK

unfoldable pub get_chunk : Store → ℕ → Digest32 → Outcome
get_chunk s lane digest = do
  r ← want_reader (session s lane)
  piece ← or_else NotAllowed (piece_with digest (noted_pieces (reader_files s r) r))
  Ok (s, Data (blobs.blob piece))

-- ---- RANGE

-- a range of no more bytes than one reply holds, within content of this size
abbrev pub want_range : ℕ → ℕ → ℕ → Result (Unit {0}) Refusal
want_range size offset len = do
  _ ← unless (TooMany part_limit) (nat_le len part_limit)
  unless (BadRange size) (nat_le (offset + len) size)

-- so many bytes from an offset of a noted archive's content
unfoldable pub range_of : List File → Reader → List ℕ → ℕ → ℕ → Result (List ℕ) Refusal
range_of files r name offset len = do
  _ ← unless NotAllowed (is_noted r name)
  _ ← want_range (length (concat (pieces_at files name))) offset len
  Ok (take len (drop offset (concat (pieces_at files name))))

unfoldable pub range : Store → ℕ → List ℕ → ℕ → ℕ → Outcome
range s lane name offset len = do
  r ← want_reader (session s lane)
  _ ← unless BadName (is_index_name name)
  _ ← or_else NoFile (file_named name (reader_files s r))
  bytes ← range_of (reader_files s r) r name offset len
  Ok (s, Data bytes)

-- ---- a VERIFY's own reads, which note nothing

-- as DOWNLOAD gives it
unfoldable pub read_file : Store → ℕ → List ℕ → ℕ → Outcome
read_file s lane name offset = do
  given ← download s lane name offset
  Ok (s, given.1)

-- the blob of the piece at an entry of an index
unfoldable pub read_chunk : Store → ℕ → List ℕ → ℕ → Outcome
read_chunk s lane name entry = do
  r ← want_reader (session s lane)
  _ ← unless NoFile (is_index_name name)
  file ← or_else NoFile (file_named name (reader_files s r))
  piece ← or_else (BadRange (length (pieces_of file.content))) (slice_get (pieces_of file.content) entry)
  Ok (s, Data (blobs.blob piece))

-- ---- CLOSE_READER

unfoldable pub close_reader : Store → ℕ → Outcome
close_reader s lane = do
  _ ← want_reader (session s lane)
  Ok (ended s lane, Done)
