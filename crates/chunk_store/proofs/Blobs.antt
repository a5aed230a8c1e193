-- What it takes that bytes hold a piece.
use Rattle.std.proofs.Common.{◌≡◌, ◌<◌, ◌≤◌, ℕ, List, Bool, true, false, ◌&&◌, length, drop, MatchResult, OnOk, is_ok, Result, Ok, Err, if◌then◌else◌, refl, sym, ap, subst, ◌∙◌, arith, drop-drop}
use Rattle.std.specs.Prelude.{nat_le}
use Rattle.std.specs.Str.{bytes_eq}
use Rattle.std.proofs.lemmas.Bool.{and_parts, leb-true, le-leb}
use Rattle.std.proofs.lemmas.List.Elements.{All-drop}
use Rattle.std.proofs.lemmas.Slice.Eq.{bytes_eq-Decides}
use Rattle.sha2.specs.Sha256.{sha256}
use Rattle.blob_codec.specs.Blob.{blob, data_of}
use Rattle.blob_codec.specs.Laws.{AreBytes}
use Rattle.blob_codec.proofs.Reading.{HasParts-from_data_of}
use Rattle.blob_codec.proofs.RoundTrips.{data_of-blob, blob-from_data_of}
use Rattle.store_types.specs.declared.refusal.BadBlob.{BadBlob}
use Rattle.store_types.specs.declared.refusal.ChunkFault.{ChunkFault}
use Rattle.store_types.specs.declared.refusal.ChunkFault.TheVariants.{NotABlob, Other}
use Rattle.store_files.specs.Archive.{digest_of}
use Rattle.store_files.specs.Folder.{IsPiece}
use Rattle.chunk_store.specs.Pieces.{IsChunk, TellsChecked, TestsPiece, by_data, checked, piece_in}

-- the data stand behind the header
pub data_behind_header : (p : List ℕ) → drop 12 (blob p) ≡ p
unfolding blob
data_behind_header p = refl

pub has_header : (text p : List ℕ) → text ≡ blob p → 12 ≤ length text
unfolding blob
has_header text p is = omega (arith, ap length is)

pub data_is : (text p : List ℕ) → data_of text ≡ Ok p → drop 12 text ≡ p
data_is text p is = sym (drop-drop 4 8 text) ∙ (HasParts-from_data_of text p is).rest

-- bytes that decode are the blob of what stands behind the header
pub blob_is : (text p : List ℕ) → AreBytes text → data_of text ≡ Ok p → text ≡ blob (drop 12 text)
blob_is text p are is = (blob-from_data_of text p are is).0 ∙ ap blob (sym (data_is text p is))

pub same_data : (p q : List ℕ) → blob p ≡ blob q → p ≡ q
same_data p q e = sym (data_behind_header p) ∙ ap (drop 12) e ∙ data_behind_header q

pub data_are_bytes : (p : List ℕ) → AreBytes (blob p) → AreBytes p
data_are_bytes p are = subst AreBytes (data_behind_header p) (All-drop (λ b. b < 256) 12 (blob p) are)

-- ---- tests

pub piece_from : (digest bytes p : List ℕ) → data_of bytes ≡ Ok p → piece_in digest bytes ≡ checked digest p
piece_from digest bytes p is = ap (by_data digest) is

passed : (t : Bool) (p q : List ℕ) (fault : ChunkFault) → (if t then Ok p else Err fault) ≡ Ok q → (t ≡ true) × (p ≡ q)
passed true p q fault is = (refl, cc)
passed false p q fault is = cc

-- what passes is a piece with this digest
pub checked_piece : (digest p q : List ℕ) → checked digest p ≡ Ok q → (p ≡ q) × (1 ≤ length p) × (sha256 p ≡ digest)
checked_piece digest p q is =
    let test = passed (nat_le 1 (length p) && bytes_eq (sha256 p) digest) p q (Other (digest_of p)) is in
    let both = and_parts (nat_le 1 (length p)) (bytes_eq (sha256 p) digest) test.0 in
    (test.1, leb-true 1 (length p) both.0, (bytes_eq-Decides (sha256 p) digest).0 both.1)

pub piece_passes : (digest p : List ℕ) → 1 ≤ length p → sha256 p ≡ digest → checked digest p ≡ Ok p
piece_passes digest p one is =
    ap (λ t. if t && bytes_eq (sha256 p) digest then Ok p else Err (Other (digest_of p))) (le-leb 1 (length p) one)
    ∙ ap (λ t. if t then Ok p else Err (Other (digest_of p))) ((bytes_eq-Decides (sha256 p) digest).1 is)

-- the blob of a piece holds it
pub piece_in_blob : (digest bytes p : List ℕ) → bytes ≡ blob p → AreBytes p → IsPiece p → sha256 p ≡ digest → piece_in digest bytes ≡ Ok p
piece_in_blob digest bytes p text are is named =
    piece_from digest bytes p (ap data_of text ∙ data_of-blob p are is.1) ∙ piece_passes digest p is.0 named

-- what is told of the blob of a piece with the digest
pub blob_told : (digest bytes p : List ℕ) (told : Result (List ℕ) ChunkFault) → bytes ≡ blob p → AreBytes bytes → IsPiece p → sha256 p ≡ digest
    → MatchResult told (λ q. piece_in digest bytes ≡ Ok q) (λ fault. piece_in digest bytes ≡ Err fault) → MatchResult told (λ q. q ≡ p) (λ _. ⊥)
blob_told digest bytes p (Ok q) text are is named value = oks q p (sym value ∙ piece_in_blob digest bytes p text (data_are_bytes p (subst AreBytes text are)) is named)
  where
    oks : (a b : List ℕ) → ◌≡◌ {A = Result (List ℕ) ChunkFault} (Ok a) (Ok b) → a ≡ b
    oks a b e = cc
blob_told digest bytes p (Err fault) text are is named value = apart fault (sym value ∙ piece_in_blob digest bytes p text (data_are_bytes p (subst AreBytes text are)) is named)
  where
    apart : (fault : ChunkFault) → ◌≡◌ {A = Result (List ℕ) ChunkFault} (Err fault) (Ok p) → ⊥
    apart fault e = cc

-- what holds a piece with this digest
pub piece_is : (digest bytes p : List ℕ) → AreBytes bytes → piece_in digest bytes ≡ Ok p → IsPiece p × (sha256 p ≡ digest)
piece_is digest bytes p are is = by_case (data_of bytes) refl is
  where
    by_case : (r : Result (List ℕ) BadBlob) → data_of bytes ≡ r → by_data digest r ≡ Ok p → IsPiece p × (sha256 p ≡ digest)
    by_case (Ok q) e is =
        let test = checked_piece digest q p is in
        let spelled = blob-from_data_of bytes q are e in
        subst (λ x. IsPiece x × (sha256 x ≡ digest)) test.0 ((test.1, spelled.1, data_are_bytes q (subst AreBytes spelled.0 are)), test.2)
    by_case (Err cause) e is = absurd (not_ok is)
      where
        not_ok : ◌≡◌ {A = Result (List ℕ) ChunkFault} (Err NotABlob) (Ok p) → ⊥
        not_ok e = cc

-- ---- bytes that were tested

module _ (digest bytes p : List ℕ) (is : data_of bytes ≡ Ok p) where
  -- the answer of the data is that of the bytes
  pub tests_from : {A : Type 0} (told : Result A ChunkFault) → TellsChecked digest p told → TestsPiece digest bytes told
  tests_from (Ok x) passes = ap is_ok (piece_from digest bytes p is ∙ passes)
  tests_from (Err fault) found = piece_from digest bytes p is ∙ found

  -- and what passes is a chunk
  pub chunk_from : {A : Type 0} (told : Result A ChunkFault) → AreBytes bytes → TellsChecked digest p told → OnOk told (IsChunk digest bytes)
  chunk_from (Ok x) are passes =
      let held = piece_is digest bytes p are (piece_from digest bytes p is ∙ passes) in
      (p, held.0, (blob-from_data_of bytes p are is).0, held.1)
  chunk_from (Err fault) are found = tt

module _ (digest bytes : List ℕ) (chunk : IsChunk digest bytes) where
  -- its piece stands behind the header
  piece_behind : drop 12 bytes ≡ chunk.0
  piece_behind = ap (drop 12) chunk.2 ∙ data_behind_header chunk.0

  pub chunk_spelled : bytes ≡ blob (drop 12 bytes)
  chunk_spelled = chunk.2 ∙ ap blob (sym piece_behind)

  pub chunk_told : piece_in digest bytes ≡ Ok (drop 12 bytes)
  chunk_told = piece_in_blob digest bytes chunk.0 chunk.2 (chunk.1).2 chunk.1 chunk.3 ∙ ap Ok (sym piece_behind)

  pub chunk_piece : IsPiece (drop 12 bytes) × (sha256 (drop 12 bytes) ≡ digest)
  chunk_piece = subst (λ x. IsPiece x × (sha256 x ≡ digest)) (sym piece_behind) (chunk.1, chunk.3)
