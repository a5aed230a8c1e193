-- The newest item is the one that none is newer than.
use Rattle.std.proofs.Common.{◌≡◌, ℕ, ◌<◌, ◌≤◌, inl, inr, true, false, not, ◌&&◌, List, [], length, Option, Some, None, refl, sym, ap, subst, ◌∙◌, arith}
use Rattle.std.proofs.lemmas.Bool.{cases_eq, or_left, or_right, or_from, and_from, and_left, and_right, lt-ltb, le-ltb, eq-eqb, ne_eqb, true≢false}
use Rattle.prune_rules.specs.declared.Item.{Item}
use Rattle.prune_rules.specs.Slots.{NewestOf, item_at, time_at, is_newer, has_newer, stands_at, runs_at}
use Rattle.prune_rules.proofs.First.{Leads, leads}
use Rattle.prune_rules.proofs.Ranges.{any_at, any_none}

newest_has_none : (items : List Item) (i : ℕ) → Leads (λ k. true) (λ k. 0) (time_at items) (length items) i → has_newer items i ≡ false
newest_has_none items i first =
    any_none (λ k. is_newer (time_at items) k i) (length items)
    (λ j h. or_from _ _ (le-ltb _ _ (first.newest j h refl refl))
    (elim (cases_eq (time_at items j) (time_at items i)) [
      | inl level ↦ and_right _ _ (le-ltb j i (first.earliest j h refl refl level))
      | inr differs ↦ and_left _ _ (ne_eqb _ _ differs)
    ]))

others_have_one : (items : List Item) (i k : ℕ) → Leads (λ k. true) (λ k. 0) (time_at items) (length items) i → k < length items → (i ≡ k → ⊥) →
    has_newer items k ≡ true
others_have_one items i k first h other =
    let most : time_at items k ≤ time_at items i = first.newest k h refl refl in
    any_at (λ j. is_newer (time_at items) j k) (length items) i first.within
    (elim (cases_eq (time_at items i) (time_at items k)) [
      | inl level ↦
          let low : i ≤ k = first.earliest k h refl refl (sym level) in
          let less : i < k = omega arith in
          or_right _ _ (and_from _ _ (eq-eqb _ _ level) (lt-ltb i k less))
      | inr differs ↦ let less : time_at items k < time_at items i = omega arith in or_left _ _ (lt-ltb _ _ less)
    ])

is_newest : (items : List Item) (found : Option ℕ) (k : ℕ) → NewestOf items (length items) found → k < length items →
    stands_at found k ≡ not (has_newer items k)
is_newest items None k none h = absurd (true≢false (none k (omega arith) h))
is_newest items (Some i) k found h =
    let within : i < length items = omega (arith, found.found.2, found.found.3) in
    let first = leads (λ k. true) (λ k. 0) (time_at items) [] 0 (length items) (length items) i within (λ j g e. (j, omega arith, g, refl)) found in
    elim (cases_eq i k) [
      | inl same ↦ eq-eqb i k same ∙ sym (ap not (subst (λ j. has_newer items j ≡ false) same (newest_has_none items i first)))
      | inr other ↦ ne_eqb i k other ∙ sym (ap not (others_have_one items i k first h other))
    ]

pub runs_is : (items : List Item) (found : Option ℕ) (k : ℕ) → NewestOf items (length items) found → k < length items →
    (not (item_at items k).finished && stands_at found k) ≡ runs_at items k
runs_is items found k is h = ap (λ b. not (item_at items k).finished && b) (is_newest items found k is h)
