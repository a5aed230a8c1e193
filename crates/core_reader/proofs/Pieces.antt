-- Parts one after another.
use Rattle.std.proofs.Common.{◌≡◌, ℕ, List, [], ◌∷◌, ◌++◌, Result, Ok, Err, refl, sym, ap, ◌∙◌, append_assoc}
use Rattle.disk_trait.specs.Files.{Files}
use Rattle.store_types.specs.declared.refusal.Refusal.{Refusal}
use Rattle.store_types.specs.Chain.Refusing.{◌>>=◌}
use Rattle.restore_reader.specs.declared.ranges.Part.{Part}
use Rattle.restore_reader.specs.Cutting.{cut}
use Rattle.core_reader.specs.Chunks.{behind, part_chunk_at, parts_at}

pub none_behind : (r : Result (List ℕ) Refusal) → r ≡ behind [] r
none_behind (Ok rest) = refl
none_behind (Err refusal) = refl

pub behind-behind : (front more : List ℕ) (r : Result (List ℕ) Refusal) → behind front (behind more r) ≡ behind (front ++ more) r
behind-behind front more (Ok rest) = ap Ok (sym (append_assoc front more rest))
behind-behind front more (Err refusal) = refl

-- what comes behind what is read first
pub behind-then : (front : List ℕ) (r q : Result (List ℕ) Refusal) → behind front (r >>= λ bytes. behind bytes q) ≡ (behind front r >>= λ bytes. behind bytes q)
behind-then front (Ok bytes) q = behind-behind front bytes q
behind-then front (Err refusal) q = refl

pub parts_both : (m : Files) (xs ys : List Part) → parts_at m (xs ++ ys) ≡ (parts_at m xs >>= λ bytes. behind bytes (parts_at m ys))
parts_both m [] ys = none_behind (parts_at m ys)
parts_both m (x ∷ xs) ys =
    ap (λ (r : Result (List ℕ) Refusal). part_chunk_at m x >>= λ piece. r >>= λ rest. Ok (cut x piece ++ rest)) (parts_both m xs ys)
    ∙ by_chunk (part_chunk_at m x)
  where
    by_chunk : (c : Result (List ℕ) Refusal)
        → (c >>= λ piece. (parts_at m xs >>= λ bytes. behind bytes (parts_at m ys)) >>= λ rest. Ok (cut x piece ++ rest))
        ≡ ((c >>= λ piece. parts_at m xs >>= λ rest. Ok (cut x piece ++ rest)) >>= λ bytes. behind bytes (parts_at m ys))
    by_chunk (Ok piece) = behind-then (cut x piece) (parts_at m xs) (parts_at m ys)
    by_chunk (Err refusal) = refl
