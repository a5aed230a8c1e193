-- Pieces that are in a pool.
use Rattle.std.proofs.Common.{◌≡◌, ℕ, Bool, true, false, cond, List, [], ◌∷◌, ◌++◌, length, map, Some, refl, ap, ◌∙◌}
use Rattle.std.proofs.lemmas.List.Elements.{All-cons, All-contains, All-contains_itself, All-head, All-nil, All-tail, All-weaker, Contains-append_right}
use Rattle.std.proofs.lemmas.Map.Text.{is_eq-slice_cmp}
use Rattle.std.proofs.lemmas.Slice.Eq.{bytes_eq-Decides}
use Rattle.std.specs.Cmp.Lexicographic.{nat_list_cmp_total}
use Rattle.std.specs.FinMap.{get-from_entries}
use Rattle.std.specs.FinMap as maps
use Rattle.std.specs.List.{All, Contains}
use Rattle.std.specs.Ordering.{eq_by_cmp}
use Rattle.sha2.specs.Sha256.{sha256}
use Rattle.store_types.specs.Names.{text_cmp}
use Rattle.backup_session.specs.Session.{Pool, with_length, with_lengths}
use Rattle.backup_session.specs.Shown.{known_of, lengths_of, pool_of}
use Rattle.backup_session.proofs.Pools.{with_length-there}

-- among more they are in it
pub all_pooled : (pool pieces : List (List ℕ)) → All (Contains (pool ++ pieces)) pieces
all_pooled pool pieces = All-weaker (Contains pieces) (Contains (pool ++ pieces)) (λ p has. Contains-append_right pool pieces p has) pieces (All-contains_itself pieces)

-- the pool has a length for the piece's digest
abbrev HasLength : List (List ℕ) → List ℕ → Type 0
HasLength pool p = (n : ℕ) × (maps.find text_cmp (sha256 p) (map known_of pool) ≡ Some n)

length_first : (p : List ℕ) (ps : List (List ℕ)) → HasLength (p ∷ ps) p
length_first p ps =
    let same : eq_by_cmp text_cmp (sha256 p) (sha256 p) ≡ true = is_eq-slice_cmp (sha256 p) (sha256 p) ∙ (bytes_eq-Decides (sha256 p) (sha256 p)).1 refl in
    (length p, ap (λ b. cond b (Some (length p)) (maps.find text_cmp (sha256 p) (map known_of ps))) same)

length_later : (p : List ℕ) (ps : List (List ℕ)) (q : List ℕ) → HasLength ps q → HasLength (p ∷ ps) q
length_later p ps q (n, e) = by_test (eq_by_cmp text_cmp (sha256 q) (sha256 p))
  where
    by_test : (b : Bool) → (k : ℕ) × (cond b (Some (length p)) (maps.find text_cmp (sha256 q) (map known_of ps)) ≡ Some k)
    by_test true = (length p, refl)
    by_test false = (n, e)

each_has : (pool : List (List ℕ)) → All (HasLength pool) pool
each_has [] = All-nil (HasLength [])
each_has (p ∷ ps) = All-cons (HasLength (p ∷ ps)) p ps (length_first p ps) (All-weaker (HasLength ps) (HasLength (p ∷ ps)) (length_later p ps) ps (each_has ps))

-- so to note it again changes nothing
pub lengths_there : (pool pieces : List (List ℕ)) → All (Contains pool) pieces → with_lengths (pool_of pool) (map known_of pieces) ≡ pool_of pool
lengths_there pool [] all = refl
lengths_there pool (p ∷ ps) all =
    let (n, e) = All-contains (HasLength pool) pool p (each_has pool) (All-head (Contains pool) p ps all) in
    let one : with_length (pool_of pool) (sha256 p) (length p) ≡ pool_of pool =
    with_length-there (lengths_of pool) (sha256 p) (length p) n (get-from_entries nat_list_cmp_total (map known_of pool) (sha256 p) ∙ e) in
    ap (λ (x : Pool). with_lengths x (map known_of ps)) one ∙ lengths_there pool ps (All-tail (Contains pool) p ps all)
