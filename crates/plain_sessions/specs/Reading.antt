-- What a reader's commands answer.
use Rattle.std.specs.Prelude.{ℕ, List, length, slice_get, Option, Result, Ok}
use Rattle.store_types.specs.declared.names.Digest32.{Digest32}
use Rattle.store_types.specs.declared.refusal.Refusal.{Refusal}
use Rattle.store_types.specs.declared.refusal.Refusal.TheVariants.{NotAllowed, BadRange}
use Rattle.store_types.specs.Chain.Refusing.{◌>>=◌, or_else}
use Rattle.blob_codec.specs.Blob as blobs
use Rattle.store_files.specs.Archive.{File, piece_with}
use Rattle.store_model.specs.Store.{Reader}
use Rattle.store_model.specs.ReaderSteps.{noted_pieces}

-- the first piece with this digest of the archives that were downloaded
abbrev pub noted_piece : List File → Reader → Digest32 → Option (List ℕ)
noted_piece files r digest = piece_with digest (noted_pieces files r)

-- the blob of a piece of an archive that was downloaded
abbrev pub chunk_of : List File → Reader → Digest32 → Result (List ℕ) Refusal
chunk_of files r digest = do
  piece ← or_else NotAllowed (noted_piece files r digest)
  Ok (blobs.blob piece)

-- the blob of the piece at an entry of an index
abbrev pub entry_blob : List (List ℕ) → ℕ → Result (List ℕ) Refusal
entry_blob pieces entry = do
  piece ← or_else (BadRange (length pieces)) (slice_get pieces entry)
  Ok (blobs.blob piece)
