-- The archives that a writer has begun: how they begin, grow and are closed.
use Rattle.std.specs.Prelude.{ℕ, zero, suc, ◌+◌, Bool, true, List, [], ◌∷◌, ◌++◌, replicate, ◌==◌, nat_le, nat_lt, pos, if◌then◌else◌, Option, Result, Ok, take}
use Rattle.std.specs.List.{list_any}
use Rattle.std.specs.Str.{bytes_eq}
use Rattle.sha1.specs.Sha1.{sha1}
use Rattle.uuid.specs.Parts.{zero_bytes, with_variant, with_version}
use Rattle.uuid.specs.declared.Variant.TheVariants.{RFC4122}
use Rattle.uuid.specs.declared.Version.TheVariants.{Sha1}
use Rattle.store_types.specs.declared.names.Digest32.{Digest32}
use Rattle.store_types.specs.declared.names.SnapshotKey.{SnapshotKey}
use Rattle.store_types.specs.declared.refusal.CloseFault.TheVariants.{Count, Size, Csum, Rest}
use Rattle.store_types.specs.declared.refusal.Refusal.{Refusal}
use Rattle.store_types.specs.declared.refusal.Refusal.TheVariants.{TooMany, WrongSize, UnknownChunk, BadOffset, BadClose}
use Rattle.store_types.specs.Chain.Refusing.{◌>>=◌, unless, or_else}
use Rattle.store_files.specs.Cells.{entry_limit}
use Rattle.store_files.specs.FixedIndex.{is_chunk_size, piece_count, piece_len}
use Rattle.store_files.specs.Archive.{Layout, dynamic, fixed, Archive}
use Rattle.store_files.specs.Folder.{file_path}

-- ---- beginning

-- the version 5 identifier of the file's path, in the namespace of 16 zero bytes
unfoldable pub uuid_of : SnapshotKey → List ℕ → List ℕ
uuid_of key name = with_version (with_variant (take 16 (sha1 (zero_bytes ++ file_path key name))) RFC4122) Sha1

-- no piece yet, and so many reserved bytes, all zero
abbrev pub new_archive : Layout → ℕ → SnapshotKey → List ℕ → ℕ → Archive
new_archive layout reserved key name moment = record {
  layout = layout;
  uuid = uuid_of key name;
  ctime = pos moment;
  reserved = replicate reserved 0;
  pieces = [];
}

-- sizes that a fixed archive may have
abbrev pub want_sizes : ℕ → ℕ → Result (Unit {0}) Refusal
want_sizes size chunk_size = do
  _ ← unless (WrongSize 0 chunk_size) (is_chunk_size chunk_size)
  unless (TooMany entry_limit) (nat_le (piece_count size chunk_size) entry_limit)

-- beside so many open archives there is room for one more
abbrev pub want_number : ℕ → Result (Unit {0}) Refusal
want_number begun = unless (TooMany 16) (nat_lt begun 16)

-- the least number from n on, among the next so many, that isn't taken
unfoldable pub free_from : ℕ → ℕ → List ℕ → ℕ
free_from zero n taken = n
free_from (suc more) n taken = if list_any (λ k. k == n) taken then free_from more (n + 1) taken else n

-- the least from 0 to 15
abbrev pub free_number : List ℕ → ℕ
free_number taken = free_from 16 0 taken

-- ---- the first that passes a test

-- it becomes another
abbrev pub change_first : {A : Type 0} → (A → Bool) → (A → A) → List A → List A
change_first test change [] = []
change_first test change (x ∷ xs) = if test x then change x ∷ xs else x ∷ change_first test change xs

-- it goes
abbrev pub without_first : {A : Type 0} → (A → Bool) → List A → List A
without_first test [] = []
without_first test (x ∷ xs) = if test x then xs else x ∷ without_first test xs

-- ---- appending

-- so many entries fit a command, and an archive that has so many pieces
abbrev pub want_entries : ℕ → ℕ → Result (Unit {0}) Refusal
want_entries pieces entries = do
  _ ← unless (TooMany 4096) (nat_le entries 4096)
  unless (TooMany entry_limit) (nat_le (pieces + entries) entry_limit)

-- a piece of this length fits at the end reached so far: in a fixed archive it has the length that is asked there
abbrev pub fits_layout : Layout → ℕ → ℕ → Bool
fits_layout dynamic end len = true
fits_layout (fixed size chunk_size) end len = len == piece_len size chunk_size end

-- The entries are a digest and an offset each. What stands for a piece is found by its digest and has a length.

-- the piece that the entry at a place names, where it begins at the end reached so far
unfoldable pub piece_named : {A : Type 0} → (Digest32 → Option A) → (A → ℕ) → Layout → ℕ → ℕ → Digest32 × ℕ → Result A Refusal
piece_named find len layout place end entry = do
  piece ← or_else (UnknownChunk place) (find entry.0)
  _ ← unless (BadOffset place end) (entry.1 == end)
  _ ← unless (WrongSize place (len piece)) (fits_layout layout end (len piece))
  Ok piece

-- the pieces that the entries name, from the place and the end reached so far on; or the first refusal
unfoldable pub pieces_named : {A : Type 0} → (Digest32 → Option A) → (A → ℕ) → Layout → ℕ → ℕ → List (Digest32 × ℕ) → Result (List A) Refusal
pieces_named find len layout place end [] = Ok []
pieces_named find len layout place end (entry ∷ entries) = do
  piece ← piece_named find len layout place end entry
  others ← pieces_named find len layout (place + 1) (end + len piece) entries
  Ok (piece ∷ others)

-- ---- closing

-- a fixed archive's size is reached
abbrev pub want_size : Layout → ℕ → Result (Unit {0}) Refusal
want_size dynamic end = Ok tt
want_size (fixed size chunk_size) end = unless (BadClose (Rest size)) (nat_le size end)

-- The number of pieces, where they end and the index's csum are those that are given, and the size is reached.
abbrev pub want_facts : Layout → ℕ → ℕ → Digest32 → ℕ → ℕ → Digest32 → Result (Unit {0}) Refusal
want_facts layout pieces end csum given_count given_size given_csum = do
  _ ← unless (BadClose (Count pieces)) (given_count == pieces)
  _ ← unless (BadClose (Size end)) (given_size == end)
  _ ← unless (BadClose (Csum csum)) (bytes_eq given_csum.0 csum.0)
  want_size layout end
