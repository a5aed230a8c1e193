-- GET_CHUNK is the store's.
use Rattle.std.proofs.Common.{◌≡◌, ℕ, Bool, Result, true, false, List, length, ◌<◌, ◌≤◌, Option, Some, None, is_some, arith, Ok, Err, refl, sym, ap, ◌∙◌}
use Rattle.store_types.specs.declared.names.Digest32.{Digest32}
use Rattle.store_types.specs.declared.refusal.Refusal.{Refusal}
use Rattle.store_types.specs.declared.refusal.Refusal.TheVariants.{NotAllowed}
use Rattle.store_types.specs.Chain.Refusing.{◌>>=◌, or_else}
use Rattle.wire_frames.specs.Frames.{body_limit}
use Rattle.blob_codec.specs.Blob.{blob as blob_of}
use Rattle.store_files.specs.Archive.{File, digest_of, piece_with}
use Rattle.wire_commands.specs.declared.reply.Reply.TheVariants.{Data}
use Rattle.wire_commands.specs.declared.command.Command.TheVariants.{GetChunk}
use Rattle.store_model.specs.Store as model
use Rattle.store_model.specs.Store.{Store, Outcome, reader, session, want_reader}
use Rattle.store_model.specs.ReaderSteps.{get_chunk, noted_pieces, reader_files}
use Rattle.store_model.specs.Steps.{outcome}
use Rattle.disk_trait.specs.declared.disk.Disk.{Ghosts}
use Rattle.restore_reader.specs.Session.{Reading}
use Rattle.restore_reader.specs.Shown.{shown}
use Rattle.chunk_store.specs.Pieces.{IsHeld}
use Rattle.core_state.specs.declared.parts.Parts.{Parts}
use Rattle.core_state.specs.Holds.{Holds, Shows}
use Rattle.core_state.specs.Wanted.{reader_in, session_at}
use Rattle.core_state.proofs.Commanding.{reader_shown}
use Rattle.core_reader.proofs.Held.{found_held}

abbrev piece_then : Store → Option (List ℕ) → Outcome
piece_then s o = or_else NotAllowed o >>= λ piece. Ok (s, Data (blob_of piece))

pub get_unread : (s : Store) (lane m : ℕ) (digest : Digest32) (refusal : Refusal) → want_reader (session s lane) ≡ Err refusal → outcome s lane m (GetChunk digest) ≡ Err refusal
unfolding outcome get_chunk
get_unread s lane m digest refusal no_reader = rw no_reader refl

reading_is : (s : Store) (lane m : ℕ) (digest : Digest32) (r : model.Reader) → session s lane ≡ reader r
    → outcome s lane m (GetChunk digest) ≡ piece_then s (piece_with digest (noted_pieces (reader_files s r) r))
unfolding outcome get_chunk
reading_is s lane m digest r at = rw at refl

get_none : (s : Store) (lane m : ℕ) (digest : Digest32) (r : model.Reader) → session s lane ≡ reader r → is_some (piece_with digest (noted_pieces (reader_files s r) r)) ≡ false
    → outcome s lane m (GetChunk digest) ≡ Err NotAllowed
get_none s lane m digest r at missing = reading_is s lane m digest r at ∙ ap (piece_then s) (no_some _ missing)
  where
    no_some : (o : Option (List ℕ)) → is_some o ≡ false → o ≡ None
    no_some None e = refl
    no_some (Some x) e = cc

get_piece : (s : Store) (lane m : ℕ) (digest : Digest32) (r : model.Reader) (p : List ℕ) → session s lane ≡ reader r → piece_with digest (noted_pieces (reader_files s r) r) ≡ Some p
    → outcome s lane m (GetChunk digest) ≡ Ok (s, Data (blob_of p))
get_piece s lane m digest r p at found = reading_is s lane m digest r at ∙ ap (piece_then s) found

some_is : {A : Type 0} (o : Option A) → is_some o ≡ true → (x : A) × (o ≡ Some x)
some_is None e = cc
some_is (Some x) e = (x, refl)

-- the reader of the parts may ask for the digest, as the plain store's may or may not
abbrev pub Allows : Reading → Digest32 → Bool → Type 0
Allows reading digest b = (files : List File) (r : model.Reader) → reading ≡ shown files r → b ≡ is_some (piece_with digest (noted_pieces files r))

-- what may be asked for stands on the disk
pub allowed_piece : {D : Type 0} (d : Ghosts D) (parts : Parts D) (s : Store) (lane m : ℕ) (digest : Digest32) (reading : Reading) → Holds d parts s → lane < 64 → reader_in (session_at parts lane) ≡ Ok reading
    → Allows reading digest true → (p : List ℕ) × IsHeld (d.content parts.disk) p × (digest ≡ digest_of p) × (outcome s lane m (GetChunk digest) ≡ Ok (s, Data (blob_of p)))
allowed_piece d parts s lane m digest reading h lt reads allowed =
    let (r, at, is) = reader_shown parts s lane reading h.shows lt reads in
    let (p, found) = some_is (piece_with digest (noted_pieces (reader_files s r) r)) (sym (allowed (reader_files s r) r (sym is))) in
    let (held, named) = found_held (d.content parts.disk) s r digest p h.files found in
    (p, held, named, get_piece s lane m digest r p at found)

-- and what may not is refused
pub not_allowed : {D : Type 0} (parts : Parts D) (s : Store) (lane m : ℕ) (digest : Digest32) (reading : Reading) → Shows parts s → lane < 64 → reader_in (session_at parts lane) ≡ Ok reading
    → Allows reading digest false → outcome s lane m (GetChunk digest) ≡ Err NotAllowed
not_allowed parts s lane m digest reading shows lt reads allowed =
    let (r, at, is) = reader_shown parts s lane reading shows lt reads in
    get_none s lane m digest r at (sym (allowed (reader_files s r) r (sym is)))

pub get_given : (s : Store) (lane m : ℕ) (digest : Digest32) (p chunk bytes : List ℕ) → outcome s lane m (GetChunk digest) ≡ Ok (s, Data (blob_of p)) → ◌≡◌ {A = Result (List ℕ) Refusal} (Ok p) (Ok chunk) → bytes ≡ blob_of chunk
    → outcome s lane m (GetChunk digest) ≡ Ok (s, Data bytes)
get_given s lane m digest p chunk bytes is given blob = is ∙ ap (λ q. Ok (s, Data (blob_of q))) (same p chunk given) ∙ ap (λ b. Ok (s, Data b)) (sym blob)
  where
    same : (x y : List ℕ) → ◌≡◌ {A = Result (List ℕ) Refusal} (Ok x) (Ok y) → x ≡ y
    same x y e = cc

-- a piece's blob fits a reply
pub blob_short : (p bytes : List ℕ) → bytes ≡ blob_of p → length p ≤ 16_777_216 → length bytes < body_limit
unfolding blob_of
blob_short p bytes is le = omega (arith, ap length is, le)
