-- Writes that follow one another.
use Rattle.std.proofs.Common.{◌≡◌, ℕ, ◌+◌, List, [], ◌++◌, length, take, drop, arith, refl, sym, ap, ap₂, subst, ◌∙◌, Option, None, Some, Bool, true, false, Result, Ok, Err, IsErr, is_ok, length-append}
use Rattle.std.specs.List.{flat_map}
use Rattle.std.proofs.lemmas.Grind.{flat_map-append}
use Rattle.std.proofs.lemmas.List.{take-append-le, take-append-drop, append-nil}
use Rattle.port_traits.specs.Bytes.{Writes}
use Rattle.store_types.specs.declared.order.Entry.{Entry}
use Rattle.store_files.specs.Order.{entry_text}
use Rattle.port_traits.proofs.BytesLemmas.{IsCountOf-append, AddsTo-then}

pub Writes-then : (a b c : Option (List ℕ)) (xs ys : List ℕ) (all : Bool) → Writes a b xs true → Writes b c ys all → Writes a c (xs ++ ys) all
Writes-then a b c xs ys all first second = record {
  count = length xs + second.count;
  how_many = IsCountOf-append all xs ys second.count second.how_many;
  added = AddsTo-then a b c xs ys first.count second.count first.how_many first.added second.added;
}

Writes-stopped : (a b : Option (List ℕ)) (xs ys : List ℕ) → Writes a b xs false → Writes a b (xs ++ ys) false
Writes-stopped a b xs ys first = record {
  count = first.count;
  how_many = omega (arith, first.how_many, length-append xs ys);
  added = rw (take-append-le first.count xs ys (omega (arith, first.how_many))) first.added;
}

-- the same at the exit of a `?`
pub Writes-failed : {T E : Type 0} (a b : Option (List ℕ)) (xs ys : List ℕ) (r : Result T E) → IsErr r → Writes a b xs false → Writes a b (xs ++ ys) (is_ok r)
Writes-failed a b xs ys (Ok t) failed first = absurd (cc failed)
Writes-failed a b xs ys (Err e) failed first = Writes-stopped a b xs ys first

pub Writes-none : (a : Option (List ℕ)) → Writes a a [] true
Writes-none None = record { count = 0; how_many = refl; added = refl }
Writes-none (Some xs) = record { count = 0; how_many = refl; added = ap Some (sym (append-nil xs)) }

-- ---- entries that are written part by part

texts-split : (n : ℕ) (rest part behind : List Entry) → part ≡ take n rest → behind ≡ drop n rest →
    flat_map entry_text part ++ flat_map entry_text behind ≡ flat_map entry_text rest
texts-split n rest part behind front back =
    ap₂ (λ a b. flat_map entry_text a ++ flat_map entry_text b) front back
    ∙ sym (flat_map-append entry_text (take n rest) (drop n rest)) ∙ ap (flat_map entry_text) (take-append-drop n rest)

pub part_then : (a b c : Option (List ℕ)) (n : ℕ) (rest part behind : List Entry) (all : Bool) → part ≡ take n rest → behind ≡ drop n rest →
    Writes a b (flat_map entry_text part) true → Writes b c (flat_map entry_text behind) all → Writes a c (flat_map entry_text rest) all
part_then a b c n rest part behind all front back first second =
    subst (λ text. Writes a c text all) (texts-split n rest part behind front back) (Writes-then a b c _ _ all first second)

pub part_failed : {T E : Type 0} (a b : Option (List ℕ)) (n : ℕ) (rest part behind : List Entry) (r : Result T E) → part ≡ take n rest → behind ≡ drop n rest →
    IsErr r → Writes a b (flat_map entry_text part) false → Writes a b (flat_map entry_text rest) (is_ok r)
part_failed a b n rest part behind r front back failed first =
    subst (λ text. Writes a b text (is_ok r)) (texts-split n rest part behind front back) (Writes-failed a b _ (flat_map entry_text behind) r failed first)
