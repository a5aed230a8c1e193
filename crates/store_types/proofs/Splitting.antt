-- A text is cut at its slashes.
use Rattle.std.proofs.Common.{◌≡◌, ℕ, ◌+◌, ◌<◌, Bool, true, false, cond, ltb, eqb, length, take, drop, List, [], ◌∷◌, Some, None, Option, refl, sym, ap, ◌∙◌, arith}
use Rattle.std.proofs.lemmas.Bool.Decides.{nat_tests}
use Rattle.std.specs.List.{position_or_len}
use Rattle.std.proofs.lemmas.List.Sums.{fails_before_first}
use Rattle.std.proofs.lemmas.List.Splits.{slice_split_first, slice_split_none}
use Rattle.store_types.specs.Names.{parts}

abbrev is_slash : ℕ → Bool
is_slash b = eqb b 47

-- the place of the first slash, or the length
abbrev pub first_slash : List ℕ → ℕ
first_slash text = position_or_len is_slash text

-- what a search for the first slash answers
abbrev pub found_slash : List ℕ → Option ℕ
found_slash text = cond (ltb (first_slash text) (length text)) (Some (first_slash text)) None

some_is : (b : Bool) (i n : ℕ) → Some i ≡ cond b (Some n) None → (b ≡ true) × (i ≡ n)
some_is true i n h = (refl, cc)
some_is false i n h = cc

none_is : (b : Bool) (n : ℕ) → None ≡ cond b (Some n) None → b ≡ false
none_is true n h = cc
none_is false n h = refl

below : (a b : ℕ) → ltb a b ≡ true → a < b
below a b h = grind (arith, nat_tests)

pub parts_at : (text : List ℕ) (i : ℕ) → Some i ≡ found_slash text → parts text ≡ take i text ∷ parts (drop (i + 1) text)
parts_at text i h =
    let is = some_is (ltb (first_slash text) (length text)) i (first_slash text) h in
    slice_split_first is_slash text 0 (below (first_slash text) (length text) is.0)
    ∙ ap (λ n. take n text ∷ parts (drop (n + 1) text)) (sym is.1)

pub parts_none : (text : List ℕ) → None ≡ found_slash text → parts text ≡ text ∷ []
parts_none text h =
    let out : ltb (first_slash text) (length text) ≡ false = none_is (ltb (first_slash text) (length text)) (first_slash text) h in
    slice_split_none is_slash text (λ k d l. fails_before_first is_slash text k d (let m : k < length text = l in grind (arith, nat_tests)))
