-- What the check of a chunk's upload gives.
use Rattle.std.specs.Result.{is_ok}
use Rattle.std.proofs.Common.{◌≡◌, ◌≤◌, ℕ, Bool, true, false, List, length, Result, Ok, Err, IsOk, refl, sym, ap, subst, ◌∙◌, arith, nat_lt}
use Rattle.std.specs.Str.{bytes_eq}
use Rattle.std.proofs.lemmas.Bool.{ltb-false}
use Rattle.std.proofs.lemmas.Slice.Eq.{bytes_eq-Decides}
use Rattle.store_types.specs.declared.names.Digest32.{Digest32}
use Rattle.store_types.specs.declared.refusal.Refusal.{Refusal}
use Rattle.store_types.specs.declared.refusal.Refusal.TheVariants.{BadBlob as BadBlobOf, WrongSize, WrongDigest}
use Rattle.store_types.specs.declared.refusal.BadBlob.{BadBlob}
use Rattle.store_types.specs.Chain.Refusing.{◌>>=◌, unless}
use Rattle.blob_codec.specs.Blob.{data_of}
use Rattle.store_files.specs.Archive.{digest_of}
use Rattle.store_model.specs.WriterSteps.{want_data}
use Rattle.store_model.specs.ArchiveSteps.{check_chunk}
use Rattle.store_history.specs.Acts.{checked_by, IsCheckedChunk}
use Rattle.store_history.specs.History.{data_in}

-- the data, or its refusal
wanted : Result (List ℕ) BadBlob → Result (List ℕ) Refusal
wanted (Ok piece) = Ok piece
wanted (Err fault) = Err (BadBlobOf fault)

-- the tests of the data, by their answers
tested : List ℕ → Bool → Bool → Result (List ℕ) Refusal
tested piece some same = unless (WrongSize 0 (length piece)) some >>= (λ _. unless (WrongDigest (digest_of piece)) same >>= (λ _. Ok piece))

tests : Digest32 → List ℕ → Result (List ℕ) Refusal
tests digest piece = tested piece (nat_lt 0 (length piece)) (bytes_eq (digest_of piece).0 digest.0)

check_is : (digest : Digest32) (bytes : List ℕ) → check_chunk digest bytes ≡ (wanted (data_of bytes) >>= tests digest)
unfolding check_chunk wanted tests tested
check_is digest bytes = by_data (data_of bytes)
  where
    by_data : (d : Result (List ℕ) BadBlob)
        → (elim d [ Ok piece ↦ Ok piece | Err fault ↦ Err (BadBlobOf fault) ] >>= (λ piece. unless (WrongSize 0 (length piece)) (nat_lt 0 (length piece))
        >>= (λ _. unless (WrongDigest (digest_of piece)) (bytes_eq (digest_of piece).0 digest.0) >>= (λ _. Ok piece))))
        ≡ (wanted d >>= tests digest)
    by_data (Ok piece) = refl
    by_data (Err fault) = refl

ok_same : (x y : List ℕ) → ◌≡◌ {A = Result (List ℕ) Refusal} (Ok x) (Ok y) → x ≡ y
ok_same x y e = cc

err_same : (x y : Refusal) → ◌≡◌ {A = Result (List ℕ) Refusal} (Err x) (Err y) → x ≡ y
err_same x y e = cc

no_length : (n : ℕ) → nat_lt 0 n ≡ false → n ≡ 0
no_length n e = let none : n ≤ 0 = ltb-false 0 n e in omega arith

-- ---- a refusal is one of the check's

refused_by : (digest : Digest32) (d : Result (List ℕ) BadBlob) (refusal : Refusal) → (wanted d >>= tests digest) ≡ Err refusal → IsCheckedChunk digest (Err refusal)
unfolding wanted tests tested
refused_by digest (Err fault) refusal e = subst (λ r. IsCheckedChunk digest (Err r)) (err_same _ _ e) tt
refused_by digest (Ok piece) refusal e = by_tests (nat_lt 0 (length piece)) (bytes_eq (digest_of piece).0 digest.0) refl e
  where
    by_tests : (some same : Bool) → nat_lt 0 (length piece) ≡ some → tested piece some same ≡ Err refusal → IsCheckedChunk digest (Err refusal)
    by_tests true true is e = absurd (apart e)
      where
        apart : ◌≡◌ {A = Result (List ℕ) Refusal} (Ok piece) (Err refusal) → ⊥
        apart x = cc
    by_tests true false is e = subst (λ r. IsCheckedChunk digest (Err r)) (err_same _ _ e) tt
    by_tests false same is e = subst (λ r. IsCheckedChunk digest (Err r)) (err_same _ _ e) (refl, no_length (length piece) is)

pub is_checked_chunk : (digest : Digest32) (bytes : List ℕ) → IsCheckedChunk digest (checked_by bytes (check_chunk digest bytes))
is_checked_chunk digest bytes = by_result (check_chunk digest bytes) refl
  where
    by_result : (r : Result (List ℕ) Refusal) → check_chunk digest bytes ≡ r → IsCheckedChunk digest (checked_by bytes r)
    by_result (Ok piece) e = ap is_ok e
    by_result (Err refusal) e = refused_by digest (data_of bytes) refusal (sym (check_is digest bytes) ∙ e)

-- ---- what passes is the upload's data

passed_by : (digest : Digest32) (d : Result (List ℕ) BadBlob) (piece : List ℕ) → (wanted d >>= tests digest) ≡ Ok piece → wanted d ≡ Ok piece
unfolding wanted tests tested
passed_by digest (Err fault) piece e = absurd (apart e)
  where
    apart : ◌≡◌ {A = Result (List ℕ) Refusal} (Err (BadBlobOf fault)) (Ok piece) → ⊥
    apart x = cc
passed_by digest (Ok found) piece e = by_tests (nat_lt 0 (length found)) (bytes_eq (digest_of found).0 digest.0) e
  where
    by_tests : (some same : Bool) → tested found some same ≡ Ok piece → ◌≡◌ {A = Result (List ℕ) Refusal} (Ok found) (Ok piece)
    by_tests true true e = e
    by_tests true false e = absurd (apart e)
      where
        apart : ◌≡◌ {A = Result (List ℕ) Refusal} (Err (WrongDigest (digest_of found))) (Ok piece) → ⊥
        apart x = cc
    by_tests false same e = absurd (apart e)
      where
        apart : ◌≡◌ {A = Result (List ℕ) Refusal} (Err (WrongSize 0 (length found))) (Ok piece) → ⊥
        apart x = cc

pub passed : (digest : Digest32) (bytes piece : List ℕ) → check_chunk digest bytes ≡ Ok piece → want_data bytes ≡ Ok piece
unfolding wanted
passed digest bytes piece e = by_data (data_of bytes) (passed_by digest (data_of bytes) piece (sym (check_is digest bytes) ∙ e))
  where
    by_data : (d : Result (List ℕ) BadBlob) → wanted d ≡ Ok piece → ◌≡◌ {A = Result (List ℕ) Refusal} (elim d [ Ok x ↦ Ok x | Err fault ↦ Err (BadBlobOf fault) ]) (Ok piece)
    by_data (Ok x) e = e
    by_data (Err fault) e = e

pub chunk_checked : (digest : Digest32) (bytes : List ℕ) → data_in (checked_by bytes (check_chunk digest bytes)) ≡ check_chunk digest bytes
chunk_checked digest bytes = by_result (check_chunk digest bytes) refl
  where
    by_result : (r : Result (List ℕ) Refusal) → check_chunk digest bytes ≡ r → data_in (checked_by bytes r) ≡ r
    by_result (Ok piece) e = passed digest bytes piece e
    by_result (Err refusal) e = refl

-- ---- and has the digest under which it was sent

false_true : false ≡ true → ⊥
false_true e = cc

digest_by : (digest : Digest32) (found : List ℕ) (some same : Bool) → bytes_eq (digest_of found).0 digest.0 ≡ same → IsOk (tested found some same) → (digest_of found).0 ≡ digest.0
unfolding tested
digest_by digest found true true is ok = (bytes_eq-Decides (digest_of found).0 digest.0).0 is
digest_by digest found true false is ok = absurd (false_true ok)
digest_by digest found false same is ok = absurd (false_true ok)

pub checked_digest : (digest : Digest32) (bytes piece : List ℕ) → IsOk (check_chunk digest bytes) → want_data bytes ≡ Ok piece → (digest_of piece).0 ≡ digest.0
unfolding wanted tests
checked_digest digest bytes piece ok is = by_data (data_of bytes) (subst (λ r. IsOk r) (check_is digest bytes) ok) is
  where
    by_data : (d : Result (List ℕ) BadBlob) → IsOk (wanted d >>= tests digest)
        → ◌≡◌ {A = Result (List ℕ) Refusal} (elim d [ Ok x ↦ Ok x | Err fault ↦ Err (BadBlobOf fault) ]) (Ok piece) → (digest_of piece).0 ≡ digest.0
    by_data (Ok found) ok e =
        ap (λ p. (digest_of p).0) (sym (ok_same found piece e)) ∙ digest_by digest found (nat_lt 0 (length found)) (bytes_eq (digest_of found).0 digest.0) refl ok
    by_data (Err fault) ok e = absurd (apart e)
      where
        apart : ◌≡◌ {A = Result (List ℕ) Refusal} (Err (BadBlobOf fault)) (Ok piece) → ⊥
        apart x = cc
