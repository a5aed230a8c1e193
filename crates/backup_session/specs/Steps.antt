-- What a writer's commands do to a session: the writer afterwards and the answer, or the first refusal.
use Rattle.std.specs.Prelude.{ℕ, ◌+◌, Bool, not, ◌||◌, List, [], ◌∷◌, ◌++◌, map, length, ◌==◌, nat_lt, pos, if◌then◌else◌, Option, Some, None, Result, Ok}
use Rattle.std.specs.Option.{option_map}
use Rattle.std.specs.List.{list_any, find}
use Rattle.std.specs.FinMap.{FinMap, entries as entries_of}
use Rattle.std.specs.Str.{bytes_eq}
use Rattle.sha2.specs.Sha256.{sha256}
use Rattle.store_types.specs.declared.names.Digest32.{Digest32}
use Rattle.store_types.specs.declared.names.SnapshotKey.{SnapshotKey}
use Rattle.store_types.specs.declared.piece.Piece.{Piece}
use Rattle.store_types.specs.declared.refusal.Refusal.{Refusal}
use Rattle.store_types.specs.declared.refusal.Refusal.TheVariants.{BadName, NoFile, Exists, TooMany}
use Rattle.store_types.specs.Chain.Refusing.{◌>>=◌, unless, or_else}
use Rattle.store_types.specs.FileNames.{is_fixed_name, is_dynamic_name, is_blob_name, manifest_name}
use Rattle.store_types.specs.Names.{name_lt, text_cmp}
use Rattle.manifest.specs.declared.facts.FileFact.{FileFact}
use Rattle.dynamic_index.specs.Writing as dynamic_indexes
use Rattle.fixed_index.specs.Writing as fixed_indexes
use Rattle.store_model.specs.Archives.{uuid_of, want_sizes, want_number, free_number, change_first, without_first, want_entries, piece_named, pieces_named, want_facts}
use Rattle.backup_session.specs.declared.index.Layout.{Layout}
use Rattle.backup_session.specs.declared.index.OpenIndex.{OpenIndex}
use Rattle.backup_session.specs.declared.index.OpenIndex.TheVariants.{Dynamic, Fixed}
use Rattle.backup_session.specs.Indexes.{layout_view, layout_of, count_of, end_of, size_of, csum_of, text_of, with_pieces}
use Rattle.known_chunks.specs.Lengths.{Lengths}
use Rattle.backup_session.specs.Session.{Pool, length_at, with_length, with_lengths, without_length, Open, Writing}

abbrev pub opened : SnapshotKey → ℕ → Option SnapshotKey → Writing
opened key start base = record { key = key; start = start; base = base; pool = []; begun = []; files = []; manifest = None }

-- ---- names

-- one of these files has the name
abbrev pub among_files : List ℕ → List FileFact → Bool
among_files name files = list_any (λ f. bytes_eq f.name name) files

abbrev pub has_file : List ℕ → List FileFact → List Open → Bool
has_file name files begun = among_files name files || list_any (λ b. bytes_eq b.name name) begun

-- the name is free among these files and open indexes, and there is room for one more file
abbrev pub want_room : List ℕ → List FileFact → List Open → Result (Unit {0}) Refusal
want_room name files begun = do
  _ ← unless Exists (not (has_file name files begun))
  unless (TooMany 64) (nat_lt (length files + length begun) 64)

-- at its place in the order of names
abbrev pub insert_fact : FileFact → List FileFact → List FileFact
insert_fact new [] = new ∷ []
insert_fact new (f ∷ fs) = if name_lt new.name f.name then new ∷ f ∷ fs else f ∷ insert_fact new fs

-- ---- NEW_FIXED and NEW_DYNAMIC

abbrev pub numbers : List Open → List ℕ
numbers begun = map (λ b. b.number) begun

abbrev pub want_fixed : List ℕ → ℕ → ℕ → Writing → Result (Unit {0}) Refusal
want_fixed name size chunk_size w = do
  _ ← unless BadName (is_fixed_name name)
  _ ← want_room name w.files w.begun
  _ ← want_number (length w.begun)
  want_sizes size chunk_size

abbrev pub want_dynamic : List ℕ → Writing → Result (Unit {0}) Refusal
want_dynamic name w = do
  _ ← unless BadName (is_dynamic_name name)
  _ ← want_room name w.files w.begun
  want_number (length w.begun)

-- at the least free number
abbrev pub begin : Writing → List ℕ → OpenIndex → Writing
begin w name index = record w { begun = w.begun ++ record { number = free_number (numbers w.begun); name = name; index = index } ∷ [] }

-- without pieces, made at this moment
abbrev pub fixed_at : SnapshotKey → List ℕ → ℕ → ℕ → ℕ → OpenIndex
fixed_at key name size chunk_size moment = Fixed (fixed_indexes.begun (uuid_of key name) (pos moment) size chunk_size)

abbrev pub dynamic_at : SnapshotKey → List ℕ → ℕ → OpenIndex
dynamic_at key name moment = Dynamic (dynamic_indexes.begun (uuid_of key name) (pos moment))

abbrev pub begin_fixed : Writing → List ℕ → ℕ → ℕ → ℕ → Writing
begin_fixed w name size chunk_size moment = begin w name (fixed_at w.key name size chunk_size moment)

abbrev pub begin_dynamic : Writing → List ℕ → ℕ → Writing
begin_dynamic w name moment = begin w name (dynamic_at w.key name moment)

unfoldable pub new_fixed : Writing → List ℕ → ℕ → ℕ → ℕ → Result (Writing × ℕ) Refusal
new_fixed w name size chunk_size moment = do
  _ ← want_fixed name size chunk_size w
  Ok (begin_fixed w name size chunk_size moment, free_number (numbers w.begun))

unfoldable pub new_dynamic : Writing → List ℕ → ℕ → Result (Writing × ℕ) Refusal
new_dynamic w name moment = do
  _ ← want_dynamic name w
  Ok (begin_dynamic w name moment, free_number (numbers w.begun))

-- ---- PREVIOUS, CHUNK and APPEND

abbrev pub previous : Writing → Lengths → Writing
previous w pieces = record w { pool = with_lengths w.pool (entries_of pieces) }

abbrev pub chunk : Writing → List ℕ → ℕ → Writing
chunk w digest len = record w { pool = with_length w.pool digest len }

-- the chunk may not be named any more
abbrev pub without_chunk : Writing → List ℕ → Writing
without_chunk w digest = record w { pool = without_length w.pool digest }

abbrev pub has_number : ℕ → Open → Bool
has_number number b = b.number == number

abbrev pub begun_at : ℕ → Writing → Option Open
begun_at number w = find (has_number number) w.begun

-- the name of the open index of the number
abbrev pub name_at : ℕ → Writing → Option (List ℕ)
name_at number w = option_map (λ b. b.name) (begun_at number w)

-- what the pool knows under a digest
abbrev pub known_in : Pool → Digest32 → Option Piece
known_in pool digest = option_map (λ len. record { digest = digest; length = len }) (length_at pool digest.0)

-- the piece that the entry at a place names, where it begins at the end reached so far
abbrev pub piece_in : FinMap text_cmp ℕ → Layout → ℕ → ℕ → Digest32 × ℕ → Result Piece Refusal
piece_in pool layout place end entry = piece_named (known_in (entries_of pool)) (λ p. p.length) (layout_view layout) place end entry

-- the pieces that the entries name, of which the first begins at the start
abbrev pub pieces_in : FinMap text_cmp ℕ → Layout → ℕ → List (Digest32 × ℕ) → Result (List Piece) Refusal
pieces_in pool layout start entries = pieces_named (known_in (entries_of pool)) (λ p. p.length) (layout_view layout) 0 start entries

-- the pieces of an APPEND to an index
unfoldable pub pieces_for : Pool → OpenIndex → List (Digest32 × ℕ) → Result (List Piece) Refusal
pieces_for pool x entries = do
  _ ← want_entries (count_of x) (length entries)
  pieces_named (known_in pool) (λ p. p.length) (layout_of x) 0 (end_of x) entries

abbrev pub grown : List Piece → Open → Open
grown pieces b = record b { index = with_pieces pieces b.index }

unfoldable pub append : Writing → ℕ → List (Digest32 × ℕ) → Result (Writing × Unit {0}) Refusal
append w number entries = do
  b ← or_else NoFile (begun_at number w)
  pieces ← pieces_for w.pool b.index entries
  Ok (record w { begun = change_first (has_number number) (grown pieces) w.begun }, tt)

-- ---- CLOSE_INDEX and BLOB

-- what a manifest lists of an index
abbrev pub fact_of : Open → FileFact
fact_of b = record { name = b.name; size = size_of b.index; csum = csum_of b.index }

abbrev pub want_close : OpenIndex → ℕ → ℕ → Digest32 → Result (Unit {0}) Refusal
want_close x count size csum = want_facts (layout_of x) (count_of x) (end_of x) (csum_of x) count size csum

unfoldable pub close_index : Writing → ℕ → ℕ → ℕ → Digest32 → Result (Writing × List ℕ) Refusal
close_index w number count size csum = do
  b ← or_else NoFile (begun_at number w)
  _ ← want_close b.index count size csum
  Ok (record w { begun = without_first (has_number number) w.begun; files = insert_fact (fact_of b) w.files }, text_of b.index)

-- what a manifest lists of a blob of this file text
abbrev pub blob_fact : List ℕ → List ℕ → FileFact
blob_fact name text = record { name = name; size = length text; csum = record { 0 = sha256 text } }

abbrev pub want_blob : List ℕ → Writing → Result (Unit {0}) Refusal
want_blob name w = do
  _ ← unless BadName (is_blob_name name)
  want_room name w.files w.begun

-- the text of the manifest is kept
abbrev pub manifest_with : List ℕ → List ℕ → Option (List ℕ) → Option (List ℕ)
manifest_with name text before = if bytes_eq name manifest_name then Some text else before

unfoldable pub blob : Writing → List ℕ → List ℕ → Result (Writing × Unit {0}) Refusal
blob w name text = do
  _ ← want_blob name w
  Ok (record w { files = insert_fact (blob_fact name text) w.files; manifest = manifest_with name text w.manifest }, tt)
