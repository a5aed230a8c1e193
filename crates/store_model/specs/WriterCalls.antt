-- What a writer's commands do to the writer: it afterwards and the answer, or the first refusal.
use Rattle.std.specs.Prelude.{ℕ, Bool, List, [], ◌∷◌, ◌++◌, map, length, ◌==◌, Option, Result, Ok}
use Rattle.std.specs.List.{find}
use Rattle.store_types.specs.declared.names.Digest32.{Digest32}
use Rattle.store_types.specs.declared.refusal.Refusal.{Refusal}
use Rattle.store_types.specs.declared.refusal.Refusal.TheVariants.{BadName, NoFile}
use Rattle.store_types.specs.Chain.Refusing.{◌>>=◌, unless, or_else}
use Rattle.store_types.specs.FileNames.{is_fixed_name, is_dynamic_name, is_blob_name}
use Rattle.store_files.specs.Archive.{dynamic, fixed, Archive, archive, blob, content_of, archive_text, csum_by, piece_with}
use Rattle.store_model.specs.Store.{Begun, Writer}
use Rattle.store_model.specs.Uploads.{want_room}
use Rattle.store_model.specs.WriterSteps.{with_pool, with_file}
use Rattle.store_model.specs.Archives.{new_archive, want_sizes, want_number, free_number, change_first, without_first, want_entries, pieces_named, want_facts}

-- ---- beginning

abbrev pub numbers : Writer → List ℕ
numbers w = map (λ b. b.number) w.begun

-- an archive at the least free number
abbrev pub begin : Writer → List ℕ → Archive → Writer
begin w name a = record w { begun = w.begun ++ record { number = free_number (numbers w); name = name; archive = a } ∷ [] }

-- NEW_FIXED
unfoldable pub new_fixed : Writer → List ℕ → ℕ → ℕ → ℕ → Result (Writer × ℕ) Refusal
new_fixed w name size chunk_size moment = do
  _ ← unless BadName (is_fixed_name name)
  _ ← want_room name w
  _ ← want_number (length w.begun)
  _ ← want_sizes size chunk_size
  Ok (begin w name (new_archive (fixed size chunk_size) 4016 w.key name moment), free_number (numbers w))

-- NEW_DYNAMIC
unfoldable pub new_dynamic : Writer → List ℕ → ℕ → Result (Writer × ℕ) Refusal
new_dynamic w name moment = do
  _ ← unless BadName (is_dynamic_name name)
  _ ← want_room name w
  _ ← want_number (length w.begun)
  Ok (begin w name (new_archive dynamic 4032 w.key name moment), free_number (numbers w))

-- ---- pieces

-- CHUNK: the piece joins the pool
abbrev pub chunk : Writer → List ℕ → Writer
chunk w piece = with_pool (piece ∷ []) w

abbrev pub has_number : ℕ → Begun → Bool
has_number number b = b.number == number

abbrev pub begun_at : ℕ → Writer → Option Begun
begun_at number w = find (has_number number) w.begun

abbrev pub with_pieces : List (List ℕ) → Begun → Begun
with_pieces pieces b = record b { archive = record (b.archive) { pieces = (b.archive).pieces ++ pieces } }

-- APPEND
unfoldable pub append : Writer → ℕ → List (Digest32 × ℕ) → Result (Writer × Unit {0}) Refusal
append w number entries = do
  b ← or_else NoFile (begun_at number w)
  _ ← want_entries (length (b.archive).pieces) (length entries)
  pieces ← pieces_named (λ digest. piece_with digest w.pool) (λ p. length p) (b.archive).layout 0 (length (content_of b.archive)) entries
  Ok (record w { begun = change_first (has_number number) (with_pieces pieces) w.begun }, tt)

-- ---- files

-- CLOSE_INDEX: the archive becomes a file, and the answer is that file's text
unfoldable pub close_index : Writer → ℕ → ℕ → ℕ → Digest32 → Result (Writer × List ℕ) Refusal
close_index w number count size csum = do
  b ← or_else NoFile (begun_at number w)
  _ ← want_facts (b.archive).layout (length (b.archive).pieces) (length (content_of b.archive)) (csum_by (b.archive).layout b.archive) count size csum
  Ok (with_file b.name (archive b.archive) (record w { begun = without_first (has_number number) w.begun }), archive_text b.archive)

-- BLOB of an upload that was checked
unfoldable pub put_data : Writer → List ℕ → List ℕ → Result (Writer × Unit {0}) Refusal
put_data w name contents = do
  _ ← unless BadName (is_blob_name name)
  _ ← want_room name w
  Ok (with_file name (blob contents) w, tt)
