-- Digests joined, one more at a time.
use Rattle.std.proofs.Common.{◌≡◌, ◌<◌, ◌≤◌, ◌++◌, ℕ, suc, List, [], ◌∷◌, ◌+◌, length, map, take, get_or, refl, ap, subst, arith, ◌∙◌}
use Rattle.std.specs.List.{concat}
use Rattle.std.proofs.Math.Seq.{take-suc}
use Rattle.std.proofs.lemmas.List.Folds.{concat-append}
use Rattle.std.proofs.lemmas.List.{append-nil, take_all}
use Rattle.store_types.specs.declared.names.Digest32.{Digest32}

abbrev pub joined : List Digest32 → List ℕ
joined digests = concat (map (λ d. d.0) digests)

pub map-append : (xs ys : List Digest32) → map (λ d. d.0) (xs ++ ys) ≡ map (λ d. d.0) xs ++ map (λ d. d.0) ys
map-append [] ys = refl
map-append (x ∷ xs) ys = ap (λ zs. x.0 ∷ zs) (map-append xs ys)

pub joined_more : (digests : List Digest32) (i : ℕ) (d : Digest32) → i < length digests →
    joined (take (i + 1) digests) ≡ joined (take i digests) ++ (get_or digests i d).0
joined_more digests i d below =
    let same : suc i ≡ i + 1 = omega arith in
    let more = subst (λ n. take n digests ≡ take i digests ++ (get_or digests i d ∷ [])) same (take-suc digests i d below) in
    ap joined more ∙ ap concat (map-append (take i digests) (get_or digests i d ∷ []))
    ∙ concat-append (map (λ e. e.0) (take i digests)) ((get_or digests i d).0 ∷ [])
    ∙ ap (λ z. joined (take i digests) ++ z) (append-nil (get_or digests i d).0)

pub joined_all : (digests : List Digest32) (n : ℕ) → length digests ≤ n → joined (take n digests) ≡ joined digests
joined_all digests n all = ap joined (take_all n digests all)
