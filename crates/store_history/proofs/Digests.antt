-- What SHA-256 gives is a digest.
use Rattle.std.proofs.Common.{ℕ, zero, suc, ◌<◌, List, get_or, arith}
use Rattle.std.specs.Int.{w32, to_be_bytes}
use Rattle.std.specs.List.{All}
use Rattle.std.proofs.lemmas.List.Elements.{All-append}
use Rattle.sha2.specs.Sha256.{sha256, digest_bytes}
use Rattle.sha2.proofs.Facts256.{length-sha256}
use Rattle.store_files.specs.Folder.{IsDigest}

-- each byte of a word is one
word_at : (n i d : ℕ) → i < 4 → get_or (to_be_bytes w32 n) i d < 256
word_at n zero d lt = omega arith
word_at n (suc zero) d lt = omega arith
word_at n (suc (suc zero)) d lt = omega arith
word_at n (suc (suc (suc zero))) d lt = omega arith
word_at n (suc (suc (suc (suc i)))) d lt = absurd (omega (arith, lt))

digest_bytes_small : (h : List ℕ) (n : ℕ) → All (λ b. b < 256) (digest_bytes h n)
unfolding digest_bytes
digest_bytes_small h zero = λ i d lt. absurd (omega (arith, lt))
digest_bytes_small h (suc n) =
    All-append (λ b. b < 256) (digest_bytes h n) _ (digest_bytes_small h n) (λ i d lt. word_at _ i d lt)

pub is_digest : (p : List ℕ) → IsDigest (sha256 p)
unfolding sha256
is_digest p = (length-sha256 p, digest_bytes_small _ 8)
