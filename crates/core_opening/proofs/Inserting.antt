-- Those that come in order are listed as they come.
use Rattle.std.proofs.Common.{◌≡◌, ◌∙◌, ◌+◌, ℕ, Bool, true, false, cond, length, List, [], ◌∷◌, ◌++◌, append_assoc, refl, sym, ap, subst, arith}
use Rattle.std.specs.List.{All}
use Rattle.std.specs.Prelude.{AllPairs}
use Rattle.std.proofs.lemmas.Bool.{and_parts}
use Rattle.std.proofs.lemmas.List.Elements.{All-cons, All-head, All-nil, All-tail}
use Rattle.std.proofs.lemmas.List.Kept.{AllPairs-cons}
use Rattle.store_types.specs.Names.{key_lt}
use Rattle.snapshot_files.specs.Scanned.{FoundSnapshot, found_rise}
use Rattle.snapshot_files.proofs.Listing.{pairs_nil}
use Rattle.core_state.specs.declared.kept.Listed.{Listed}
use Rattle.core_state.specs.Catalogue.{insert_listed}
use Rattle.core_state.specs.Catalogued.{NotBehind}
use Rattle.core_state.proofs.OrderLemmas.{all_above, heads, keys, tails}
use Rattle.core_opening.specs.Opening.{AreInserted, AreListed, IsKeptOf, inserted}
use Rattle.core_state.specs.Numbers.{first_number}
use Rattle.core_opening.proofs.Keeping.{listed_more}

-- ---- one more

pub length_insert : (new : Listed) (xs : List Listed) → length (insert_listed new xs) ≡ length xs + 1
length_insert new [] = refl
length_insert new (x ∷ xs) = by_test (key_lt (new.kept).key (x.kept).key) (length_insert new xs)
  where
    by_test : (b : Bool) → length (insert_listed new xs) ≡ length xs + 1 → length (cond b (new ∷ x ∷ xs) (x ∷ insert_listed new xs)) ≡ length (x ∷ xs) + 1
    by_test true e = omega arith
    by_test false e = omega (arith, e)

pub length_inserted : (done xs : List Listed) → length (inserted done xs) ≡ length done + length xs
length_inserted done [] = omega arith
length_inserted done (x ∷ xs) = omega (arith, length_inserted (insert_listed x done) xs, length_insert x done)

inserted-push : (done xs : List Listed) (x : Listed) → inserted done (xs ++ x ∷ []) ≡ insert_listed x (inserted done xs)
inserted-push done [] x = refl
inserted-push done (y ∷ ys) x = inserted-push (insert_listed y done) ys x

pub none_inserted : AreInserted [] []
none_inserted = record { each = []; listed = tt; order = refl }

pub one_inserted : (xs : List FoundSnapshot) (ys : List Listed) (x : FoundSnapshot) (y : Listed) → AreInserted xs ys → y.number ≡ first_number + length ys → IsKeptOf x y.kept
    → AreInserted (xs ++ x ∷ []) (insert_listed y ys)
one_inserted xs ys x y are number kept = record {
  each = are.each ++ y ∷ [];
  listed =
      listed_more first_number xs are.each x y are.listed (number ∙ ap (λ n. first_number + n) (ap length are.order ∙ length_inserted [] are.each ∙ zero_plus (length are.each))) kept;
  order = ap (insert_listed y) are.order ∙ sym (inserted-push [] are.each y);
}
  where
    zero_plus : (n : ℕ) → let none : List Listed = [] in length none + n ≡ n
    zero_plus n = omega arith

-- ---- in order

-- behind all that are not greater
at_end : (new : Listed) (done : List Listed) → All (λ d. NotBehind d new) done → insert_listed new done ≡ done ++ new ∷ []
at_end new [] all = refl
at_end new (d ∷ ds) all =
    ap (λ b. cond b (new ∷ d ∷ ds) (d ∷ insert_listed new ds)) (All-head (λ d. NotBehind d new) d ds all)
    ∙ ap (λ (l : List Listed). d ∷ l) (at_end new ds (All-tail (λ d. NotBehind d new) d ds all))

-- the first part of what is in order is not greater than what follows
not_greater : (done : List Listed) (y : Listed) (ys : List Listed) → AllPairs NotBehind (done ++ y ∷ ys) → All (λ d. NotBehind d y) done
not_greater [] y ys up = All-nil (λ d. NotBehind d y)
not_greater (d ∷ ds) y ys up =
    All-cons (λ d. NotBehind d y) d ds (of_head (heads d (ds ++ y ∷ ys) up)) (not_greater ds y ys (tails d (ds ++ y ∷ ys) up))
  where
    of_end : (zs : List Listed) → All (NotBehind d) (zs ++ y ∷ ys) → NotBehind d y
    of_end [] all = All-head (NotBehind d) y ys all
    of_end (z ∷ zs) all = of_end zs (All-tail (NotBehind d) z (zs ++ y ∷ ys) all)

    of_head : All (NotBehind d) (ds ++ y ∷ ys) → NotBehind d y
    of_head all = of_end ds all

inserted_behind : (done ys : List Listed) → AllPairs NotBehind (done ++ ys) → inserted done ys ≡ done ++ ys
inserted_behind done [] up = sym (append_none done)
  where
    append_none : (l : List Listed) → l ++ [] ≡ l
    append_none [] = refl
    append_none (x ∷ xs) = ap (λ (l : List Listed). x ∷ l) (append_none xs)
inserted_behind done (y ∷ ys) up =
    let assoc : (done ++ y ∷ []) ++ ys ≡ done ++ y ∷ ys = append_assoc done (y ∷ []) ys in
    ap (λ l. inserted l ys) (at_end y done (not_greater done y ys up)) ∙ inserted_behind (done ++ y ∷ []) ys (subst (AllPairs NotBehind) (sym assoc) up) ∙ assoc

-- keys that rise never fall
found_up : (n : ℕ) (xs : List FoundSnapshot) (ys : List Listed) → AreListed n xs ys → found_rise xs ≡ true → AllPairs NotBehind ys
found_up n [] [] are rise = pairs_nil NotBehind
found_up n [] (y ∷ ys) are rise = absurd are
found_up n (x ∷ xs) [] are rise = absurd are
found_up n (x ∷ []) (y ∷ []) are rise = AllPairs-cons NotBehind y [] (All-nil (NotBehind y)) (pairs_nil NotBehind)
found_up n (x ∷ []) (y ∷ z ∷ ys) are rise = absurd are.2
found_up n (x ∷ w ∷ xs) (y ∷ []) are rise = absurd are.2
found_up n (x ∷ w ∷ xs) (y ∷ z ∷ ys) are rise =
    let both = and_parts (key_lt x.key w.key) (found_rise (w ∷ xs)) rise in
    let rest = found_up (n + 1) (w ∷ xs) (z ∷ ys) are.2 both.1 in
    let less : key_lt (y.kept).key (z.kept).key ≡ true = ap (λ k. key_lt k (z.kept).key) (are.1).key ∙ ap (key_lt x.key) ((are.2).1).key ∙ both.0 in
    AllPairs-cons NotBehind y (z ∷ ys) (All-cons (NotBehind y) z ys (keys.one_way (y.kept).key (z.kept).key less) (all_above y z ys less (heads z ys rest))) rest

-- those that were found in order are listed as they were found
pub listed_as_found : (xs : List FoundSnapshot) (ys : List Listed) → found_rise xs ≡ true → AreInserted xs ys → AreListed first_number xs ys
listed_as_found xs ys rise are =
    subst (AreListed first_number xs) (sym (are.order ∙ inserted_behind [] are.each (found_up first_number xs are.each are.listed rise))) are.listed
