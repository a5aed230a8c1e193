-- The check of a chunk's upload, by its tests.
use Rattle.std.proofs.Common.{◌≡◌, ◌==◌, ℕ, Bool, true, false, not, List, length, Result, Ok, Err, IsOk, refl, ap, sym, ◌∙◌, arith, nat_lt}
use Rattle.std.specs.Result.{is_ok}
use Rattle.std.specs.Str.{bytes_eq}
use Rattle.std.proofs.lemmas.Bool.{lt-ltb, eqb-true, eqb-false}
use Rattle.sha2.specs.Sha256.{sha256}
use Rattle.store_types.specs.Chain.Refusing.{◌>>=◌, unless}
use Rattle.store_types.specs.declared.names.Digest32.{Digest32}
use Rattle.store_types.specs.declared.refusal.BadBlob.{BadBlob}
use Rattle.store_types.specs.declared.refusal.Refusal.{Refusal}
use Rattle.store_types.specs.declared.refusal.Refusal.TheVariants.{BadBlob as BadBlobOf, WrongSize, WrongDigest}
use Rattle.blob_codec.specs.Blob.{data_of}
use Rattle.store_files.specs.Archive.{digest_of}
use Rattle.store_model.specs.ArchiveSteps.{check_chunk}

none : (n : ℕ) → true ≡ (n == 0) → n ≡ 0
none n is = eqb-true n 0 (sym is)

some : (n : ℕ) → false ≡ (n == 0) → nat_lt 0 n ≡ true
some n is = let ne : n ≡ 0 → ⊥ = eqb-false n 0 (sym is) in lt-ltb 0 n (omega arith)

of_not : (a b : Bool) → a ≡ not b → b ≡ not a
of_not true true e = cc
of_not true false e = refl
of_not false true e = refl
of_not false false e = cc

-- the tests of a piece, by their answers
abbrev tested : List ℕ → ℕ → Bool → Bool → Result (List ℕ) Refusal
tested piece size some same = unless (WrongSize 0 size) some >>= (λ _. unless (WrongDigest (digest_of piece)) same >>= (λ _. Ok piece))

abbrev check_of : Digest32 → Result (List ℕ) BadBlob → Result (List ℕ) Refusal
check_of digest d =
    elim d [ Ok piece ↦ Ok piece | Err fault ↦ Err (BadBlobOf fault) ] >>= (λ piece. tested piece (length piece) (nat_lt 0 (length piece)) (bytes_eq (digest_of piece).0 digest.0))

-- ---- the tests, in turn

pub no_blob : (digest : Digest32) (bytes : List ℕ) (fault : BadBlob) → data_of bytes ≡ Err fault → check_chunk digest bytes ≡ Err (BadBlobOf fault)
unfolding check_chunk
no_blob digest bytes fault is = ap (check_of digest) is

of_piece : (digest : Digest32) (bytes piece : List ℕ) → data_of bytes ≡ Ok piece
    → check_chunk digest bytes ≡ tested piece (length piece) (nat_lt 0 (length piece)) (bytes_eq (sha256 piece) digest.0)
unfolding check_chunk
of_piece digest bytes piece is = ap (check_of digest) is

pub no_piece : (digest : Digest32) (bytes piece : List ℕ) → data_of bytes ≡ Ok piece → true ≡ (length piece == 0) → check_chunk digest bytes ≡ Err (WrongSize 0 0)
no_piece digest bytes piece is empty =
    of_piece digest bytes piece is ∙ ap (λ n. tested piece n (nat_lt 0 n) (bytes_eq (sha256 piece) digest.0)) (none (length piece) empty)

-- a piece that is not empty, by whether the digest that was found is the one that was given
by_digest : (digest : Digest32) (bytes piece found : List ℕ) (same : Bool) → data_of bytes ≡ Ok piece → false ≡ (length piece == 0) → found ≡ sha256 piece
    → bytes_eq found digest.0 ≡ same → check_chunk digest bytes ≡ tested piece (length piece) true same
by_digest digest bytes piece found same is more found_is test =
    of_piece digest bytes piece is
    ∙ ap (λ b. tested piece (length piece) b (bytes_eq (sha256 piece) digest.0)) (some (length piece) more)
    ∙ ap (tested piece (length piece) true) (ap (λ xs. bytes_eq xs digest.0) (sym found_is) ∙ test)

pub other_digest : (digest : Digest32) (bytes piece found : List ℕ) → data_of bytes ≡ Ok piece → false ≡ (length piece == 0) → found ≡ sha256 piece
    → true ≡ not (bytes_eq found digest.0) → check_chunk digest bytes ≡ Err (WrongDigest (record { 0 = found }))
other_digest digest bytes piece found is more found_is other =
    by_digest digest bytes piece found false is more found_is (of_not _ _ other)
    ∙ ap (λ xs. Err (WrongDigest (record { 0 = xs }))) (sym found_is)

pub same_digest : (digest : Digest32) (bytes piece found : List ℕ) → data_of bytes ≡ Ok piece → false ≡ (length piece == 0) → found ≡ sha256 piece
    → false ≡ not (bytes_eq found digest.0) → IsOk (check_chunk digest bytes)
same_digest digest bytes piece found is more found_is same = ap is_ok (by_digest digest bytes piece found true is more found_is (of_not _ _ same))
