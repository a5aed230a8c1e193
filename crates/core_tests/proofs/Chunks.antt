-- The check of a chunk's upload that has its digest.
use Rattle.std.proofs.Common.{◌≡◌, ◌==◌, ℕ, Bool, true, false, not, List, length, Result, Ok, Err, IsOk, refl, ap, sym, ◌∙◌, arith, nat_lt}
use Rattle.std.specs.Result.{is_ok}
use Rattle.std.specs.Str.{bytes_eq}
use Rattle.std.proofs.lemmas.Bool.{lt-ltb, eqb-false}
use Rattle.sha2.specs.Sha256.{sha256}
use Rattle.store_types.specs.Chain.Refusing.{◌>>=◌, unless}
use Rattle.store_types.specs.declared.names.Digest32.{Digest32}
use Rattle.store_types.specs.declared.refusal.BadBlob.{BadBlob}
use Rattle.store_types.specs.declared.refusal.Refusal.{Refusal}
use Rattle.store_types.specs.declared.refusal.Refusal.TheVariants.{BadBlob as BadBlobOf, WrongSize, WrongDigest}
use Rattle.blob_codec.specs.Blob.{data_of}
use Rattle.store_files.specs.Archive.{digest_of}
use Rattle.store_model.specs.ArchiveSteps.{check_chunk}

some : (n : ℕ) → false ≡ (n == 0) → nat_lt 0 n ≡ true
some n is = let ne : n ≡ 0 → ⊥ = eqb-false n 0 (sym is) in lt-ltb 0 n (omega arith)

of_not : (b : Bool) → false ≡ not b → b ≡ true
of_not true e = refl
of_not false e = cc

-- the tests of a piece, by their answers
abbrev tested : List ℕ → ℕ → Bool → Bool → Result (List ℕ) Refusal
tested piece size some same = unless (WrongSize 0 size) some >>= (λ _. unless (WrongDigest (digest_of piece)) same >>= (λ _. Ok piece))

abbrev check_of : Digest32 → Result (List ℕ) BadBlob → Result (List ℕ) Refusal
check_of digest d =
    elim d [ Ok piece ↦ Ok piece | Err fault ↦ Err (BadBlobOf fault) ] >>= (λ piece. tested piece (length piece) (nat_lt 0 (length piece)) (bytes_eq (digest_of piece).0 digest.0))

of_piece : (digest : Digest32) (bytes piece : List ℕ) → data_of bytes ≡ Ok piece
    → check_chunk digest bytes ≡ tested piece (length piece) (nat_lt 0 (length piece)) (bytes_eq (sha256 piece) digest.0)
unfolding check_chunk
of_piece digest bytes piece is = ap (check_of digest) is

pub is_checked : (digest : Digest32) (bytes piece found : List ℕ) → data_of bytes ≡ Ok piece → false ≡ (length piece == 0) → found ≡ sha256 piece
    → false ≡ not (bytes_eq found digest.0) → IsOk (check_chunk digest bytes)
is_checked digest bytes piece found is more found_is same =
    ap is_ok
    (of_piece digest bytes piece is
    ∙ ap (λ b. tested piece (length piece) b (bytes_eq (sha256 piece) digest.0)) (some (length piece) more)
    ∙ ap (tested piece (length piece) true) (ap (λ xs. bytes_eq xs digest.0) (sym found_is) ∙ of_not _ same))
