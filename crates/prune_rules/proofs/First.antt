-- The newest in the greatest period, sought step by step along an order.
use Rattle.std.proofs.Common.{◌≡◌, ℕ, ◌+◌, ◌<◌, ◌≤◌, inl, inr, Bool, true, false, List, Option, Some, None, sym, ap, refl, subst, ◌∙◌, arith}
use Rattle.std.proofs.lemmas.Bool.{cases_eq, or_cases, or_parts, and_parts, and_cases, ltb-true, ltb-false, eqb-true, eqb-false, true≢false, both_ways}
use Rattle.prune_rules.specs.Slots.{IsFirst, FirstOf, goes_before, is_newer, place_of}

-- Of all n places the newest in the greatest period, among those that pass.
pub record Leads (passes : ℕ → Bool) (number time : ℕ → ℕ) (n i : ℕ) : Type 0 where
  pub within : i < n
  pub passed : passes i ≡ true
  pub greatest : (k : ℕ) → k < n → passes k ≡ true → number k ≤ number i
  pub newest : (k : ℕ) → k < n → passes k ≡ true → number k ≡ number i → time k ≤ time i
  pub earliest : (k : ℕ) → k < n → passes k ≡ true → number k ≡ number i → time k ≡ time i → i ≤ k

-- where the order reaches each place that passes
pub leads : (passes : ℕ → Bool) (number time : ℕ → ℕ) (order : List ℕ) (from to n i : ℕ) → i < n →
    ((j : ℕ) → j < n → passes j ≡ true → (k : ℕ) × (from ≤ k) × (k < to) × (place_of order k ≡ j)) →
    IsFirst passes number time order from to i → Leads passes number time n i
leads passes number time order from to n i within reach is = record {
  within = within;
  passed = is.passed;
  greatest = λ j h e.
      let at = reach j h e in
      subst (λ p. number p ≤ number i) at.3 (is.greatest at.0 at.1 at.2 (subst (λ p. passes p ≡ true) (sym at.3) e));
  newest = λ j h e.
      let at = reach j h e in
      subst (λ p. number p ≡ number i → time p ≤ time i) at.3 (is.newest at.0 at.1 at.2 (subst (λ p. passes p ≡ true) (sym at.3) e));
  earliest = λ j h e.
      let at = reach j h e in
      subst (λ p. number p ≡ number i → time p ≡ time i → i ≤ p) at.3 (is.earliest at.0 at.1 at.2 (subst (λ p. passes p ≡ true) (sym at.3) e));
}

module _ (passes : ℕ → Bool) (number time : ℕ → ℕ) (order : List ℕ) (from : ℕ) where
  abbrev at : ℕ → ℕ
  at k = place_of order k

  fails_here : (p : ℕ) (best : Option ℕ) → passes (at p) ≡ false → FirstOf passes number time order from p best →
      FirstOf passes number time order from (p + 1) best
  fails_here p None fails is = λ k low h. elim (cases_eq k p) [
    | inl same ↦ subst (λ j. passes (at j) ≡ false) (sym same) fails
    | inr other ↦ is k low (omega arith)
  ]
  fails_here p (Some b) fails is =
      let earlier : (k : ℕ) → k < p + 1 → passes (at k) ≡ true → k < p = λ k h e. elim (cases_eq k p) [
        | inl same ↦ absurd (both_ways (passes (at p)) fails (subst (λ j. passes (at j) ≡ true) same e))
        | inr other ↦ omega arith
      ] in
      record {
        found = (is.found.0, is.found.1, omega (arith, is.found.2), is.found.3);
        passed = is.passed;
        greatest = λ k low h e. is.greatest k low (earlier k h e) e;
        newest = λ k low h e. is.newest k low (earlier k h e) e;
        earliest = λ k low h e. is.earliest k low (earlier k h e) e;
      }

  not_newer : (i b : ℕ) → is_newer time i b ≡ false → (time i ≤ time b) × (time i ≡ time b → b ≤ i)
  not_newer i b e =
      let parts = or_parts _ _ e in (
        ltb-false (time b) (time i) parts.0,
        λ same. elim (and_cases _ _ parts.1) [
          | inl differs ↦ absurd (eqb-false (time i) (time b) differs same)
          | inr late ↦ ltb-false i b late
        ],
      )

  not_before : (i b : ℕ) → goes_before number time i (Some b) ≡ false →
      (number i ≤ number b) × (number i ≡ number b → (time i ≤ time b) × (time i ≡ time b → b ≤ i))
  not_before i b e =
      let parts = or_parts _ _ e in (
        ltb-false (number b) (number i) parts.0,
        λ same. elim (and_cases _ _ parts.1) [
          | inl differs ↦ absurd (eqb-false (number i) (number b) differs same)
          | inr older ↦ not_newer i b older
        ],
      )

  stays : (p b : ℕ) → goes_before number time (at p) (Some b) ≡ false → IsFirst passes number time order from p b →
      IsFirst passes number time order from (p + 1) b
  stays p b e is =
      let here = not_before (at p) b e in
      record {
        found = (is.found.0, is.found.1, omega (arith, is.found.2), is.found.3);
        passed = is.passed;
        greatest = λ k low h q. elim (cases_eq k p) [
          | inl same ↦ subst (λ j. number (at j) ≤ number b) (sym same) here.0
          | inr other ↦ is.greatest k low (omega arith) q
        ];
        newest = λ k low h q. elim (cases_eq k p) as (λ _. number (at k) ≡ number b → time (at k) ≤ time b) [
          | inl same ↦ subst (λ j. number (at j) ≡ number b → time (at j) ≤ time b) (sym same) (λ n. (here.1 n).0)
          | inr other ↦ is.newest k low (omega arith) q
        ];
        earliest = λ k low h q. elim (cases_eq k p) as (λ _. number (at k) ≡ number b → time (at k) ≡ time b → b ≤ at k) [
          | inl same ↦ subst (λ j. number (at j) ≡ number b → time (at j) ≡ time b → b ≤ at j) (sym same) (λ n. (here.1 n).1)
          | inr other ↦ is.earliest k low (omega arith) q
        ];
      }

  newer : (i b : ℕ) → is_newer time i b ≡ true → (time b ≤ time i) × (time b ≡ time i → i < b)
  newer i b e = elim (or_cases _ _ e) [
    | inl later ↦ let h = ltb-true (time b) (time i) later in (omega arith, λ same. absurd (omega arith))
    | inr level ↦
        let parts = and_parts _ _ level in
        let same = eqb-true (time i) (time b) parts.0 in
        (omega arith, λ _. ltb-true i b parts.1)
  ]

  before : (i b : ℕ) → goes_before number time i (Some b) ≡ true →
      (number b ≤ number i) × (number b ≡ number i → (time b ≤ time i) × (time b ≡ time i → i < b))
  before i b e = elim (or_cases _ _ e) [
    | inl greater ↦ let h = ltb-true (number b) (number i) greater in (omega arith, λ same. absurd (omega arith))
    | inr level ↦
        let parts = and_parts _ _ level in
        let same = eqb-true (number i) (number b) parts.0 in
        (omega arith, λ _. newer i b parts.1)
  ]

  replaces : (p b : ℕ) → from ≤ p → passes (at p) ≡ true → goes_before number time (at p) (Some b) ≡ true →
      IsFirst passes number time order from p b → IsFirst passes number time order from (p + 1) (at p)
  replaces p b start passing e is =
      let over = before (at p) b e in
      record {
        found = (p, start, omega arith, refl);
        passed = passing;
        greatest = λ k low h q. elim (cases_eq k p) [
          | inl same ↦ omega (arith, ap (λ j. number (at j)) same)
          | inr other ↦ omega (arith, is.greatest k low (omega arith) q, over.0)
        ];
        newest = λ k low h q n. elim (cases_eq k p) [
          | inl same ↦ omega (arith, ap (λ j. time (at j)) same)
          | inr other ↦
              let most : number (at k) ≤ number b = is.greatest k low (omega arith) q in
              let level : number b ≡ number (at p) = omega (arith, over.0) in
              omega (arith, is.newest k low (omega arith) q (n ∙ sym level), (over.1 level).0)
        ];
        earliest = λ k low h q n t. elim (cases_eq k p) [
          | inl same ↦ omega (arith, ap at same)
          | inr other ↦
              let most : number (at k) ≤ number b = is.greatest k low (omega arith) q in
              let level : number b ≡ number (at p) = omega (arith, over.0) in
              let late : time (at k) ≤ time b = is.newest k low (omega arith) q (n ∙ sym level) in
              let last : time b ≡ time (at p) = omega (arith, (over.1 level).0) in
              omega (arith, is.earliest k low (omega arith) q (n ∙ sym level) (t ∙ sym last), (over.1 level).1 last)
        ];
      }

  first_one : (p : ℕ) → from ≤ p → passes (at p) ≡ true → ((k : ℕ) → from ≤ k → k < p → passes (at k) ≡ false) →
      IsFirst passes number time order from (p + 1) (at p)
  first_one p start passing none =
      let only : (k : ℕ) → from ≤ k → k < p + 1 → passes (at k) ≡ true → k ≡ p = λ k low h q. elim (cases_eq k p) [
        | inl same ↦ same
        | inr other ↦ absurd (both_ways (passes (at k)) (none k low (omega arith)) q)
      ] in
      record {
        found = (p, start, omega arith, refl);
        passed = passing;
        greatest = λ k low h q. omega (arith, ap (λ j. number (at j)) (only k low h q));
        newest = λ k low h q n. omega (arith, ap (λ j. time (at j)) (only k low h q));
        earliest = λ k low h q n t. omega (arith, ap at (only k low h q));
      }

  over : (p : ℕ) (best : Option ℕ) → from ≤ p → passes (at p) ≡ true → goes_before number time (at p) best ≡ true →
      FirstOf passes number time order from p best → FirstOf passes number time order from (p + 1) (Some (at p))
  over p None start passing e is = first_one p start passing is
  over p (Some b) start passing e is = replaces p b start passing e is

  behind : (p : ℕ) (best : Option ℕ) → goes_before number time (at p) best ≡ false → FirstOf passes number time order from p best →
      FirstOf passes number time order from (p + 1) best
  behind p None e is = absurd (true≢false e)
  behind p (Some b) e is = stays p b e is

  pub takes_over : (p i : ℕ) (best : Option ℕ) → i ≡ place_of order p → from ≤ p → passes i ≡ true → goes_before number time i best ≡ true →
      FirstOf passes number time order from p best → FirstOf passes number time order from (p + 1) (Some i)
  takes_over p i best same start passing e is =
      subst (λ j. FirstOf passes number time order from (p + 1) (Some j)) (sym same)
      (over p best start (subst (λ j. passes j ≡ true) same passing) (subst (λ j. goes_before number time j best ≡ true) same e) is)

  pub stays_behind : (p i : ℕ) (best : Option ℕ) → i ≡ place_of order p → goes_before number time i best ≡ false →
      FirstOf passes number time order from p best → FirstOf passes number time order from (p + 1) best
  stays_behind p i best same e is = behind p best (subst (λ j. goes_before number time j best ≡ false) same e) is

  pub passes_by : (p i : ℕ) (best : Option ℕ) → i ≡ place_of order p → passes i ≡ false → FirstOf passes number time order from p best →
      FirstOf passes number time order from (p + 1) best
  passes_by p i best same fails is = fails_here p best (subst (λ j. passes j ≡ false) same fails) is
