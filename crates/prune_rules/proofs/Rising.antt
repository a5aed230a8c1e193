-- An option's loop over an order along which the periods rise: each round takes the run of one period from the end.
use Rattle.std.proofs.Common.{◌≡◌, ℕ, zero, ◌<◌, ◌≤◌, inl, inr, Bool, true, false, ltb, List, map, Option, Some, None, refl, sym, ap, subst, ◌∙◌, arith}
use Rattle.std.specs.List.{range_with_len}
use Rattle.std.proofs.lemmas.Bool.{cases_lt, cases_Bool, and_parts, and_from, and_right, lt-ltb, le-ltb, ltb-true, not_from_false, both_ways}
use Rattle.prune_rules.specs.Prune.{Slot, Choice, after_choice}
use Rattle.prune_rules.specs.Slots.{is_below, IsFirst, StartsRun, Spans, place_of}
use Rattle.prune_rules.proofs.Greatest.{lower}
use Rattle.prune_rules.proofs.First.{Leads}
use Rattle.prune_rules.proofs.Ordering.{Places}
use Rattle.prune_rules.proofs.Taking.{slots, period, open_at, slot_at, Reached, parts_of, unseen, reached_begin, reached_none, reached_pass}

-- what is below the bound is what comes before the end
pub record Before (c : Choice) (n : ℕ) (F : ℕ → Slot) (order : List ℕ) (kept covered : ℕ → Bool) (left end : ℕ) : Type 0 where
  pub bound : Option ℕ
  pub reached : Reached c n F kept covered bound left
  pub below : (k : ℕ) → k < n → is_below bound (period c n F (place_of order k)) ≡ ltb k end
  pub within : end ≤ n

pub before_begin : (c : Choice) (n : ℕ) (F : ℕ → Slot) (order : List ℕ) → Before c n F order (λ k. (F k).kept) (λ k. (F k).covered) c.count n
before_begin c n F order = record {
  bound = None;
  reached = reached_begin c n F;
  below = λ k h. sym (lt-ltb k n h);
  within = omega arith;
}

pub before_none : (c : Choice) (n : ℕ) (F : ℕ → Slot) (order : List ℕ) (kept covered : ℕ → Bool) (left : ℕ) → Places n order → ((k : ℕ) → (F k).place ≡ k) →
    Before c n F order kept covered left zero → map (slot_at c n F kept covered) (range_with_len 0 n) ≡ after_choice (slots c n F) c
before_none c n F order kept covered left reach places is =
    reached_none c n F kept covered is.bound left is.reached places
    (λ j h.
    let at = reach.found j h in
    subst (λ p. open_at c n F covered is.bound p ≡ false) at.2 (and_right _ _ (is.below at.0 at.1 ∙ le-ltb at.0 zero (omega arith))))

module _ (c : Choice) (n : ℕ) (F : ℕ → Slot) (order : List ℕ) (kept covered : ℕ → Bool) (left end : ℕ) (reach : Places n order)
    (is : Before c n F order kept covered left end) (start : ℕ) (run : StartsRun (λ k. period c n F (place_of order k)) start end) where
  abbrev number : ℕ → ℕ
  number k = period c n F (place_of order k)

  top_in : is_below is.bound (number start) ≡ true
  top_in = is.below start (omega (arith, run.some, is.within)) ∙ lt-ltb start end run.some

  below_next : (k : ℕ) → k < n → is_below (Some (number start)) (number k) ≡ ltb k start
  below_next k h = elim (cases_lt k start) [
    | inl early ↦ lt-ltb _ _ (run.less k early) ∙ sym (lt-ltb k start early)
    | inr late ↦ elim (cases_lt k end) [
      | inl inside ↦
          let same = run.same k late inside in
          le-ltb (number k) (number start) (omega arith) ∙ sym (le-ltb k start late)
      | inr past ↦ elim (cases_Bool (ltb (number k) (number start))) [
        | inl less ↦ absurd (both_ways _ (is.below k h ∙ le-ltb k end past) (lower is.bound (number start) (number k) top_in less))
        | inr more ↦ more ∙ sym (le-ltb k start late)
      ]
    ]
  ]

  -- what has the run's number comes in the run
  spans_at : (k : ℕ) → k < n → number k ≡ number start → (start ≤ k) × (k < end)
  spans_at k h same = elim (cases_lt k start) [
    | inl early ↦ absurd (omega (arith, run.less k early))
    | inr late ↦ (late, ltb-true k end (sym (is.below k h) ∙ subst (λ p. is_below is.bound p ≡ true) (sym same) top_in))
  ]

  pub spans : (i : ℕ) → period c n F i ≡ number start → Spans (period c n F) n (period c n F i) order start end
  spans i own j h same =
      let at = reach.found j h in
      let inside = spans_at at.0 at.1 (ap (period c n F) at.2 ∙ same ∙ own) in
      (at.0, inside.0, inside.1, at.2)

  -- nothing of the run is open
  pub before_pass : ((k : ℕ) → start ≤ k → k < end → open_at c n F covered None (place_of order k) ≡ false) → Before c n F order kept covered left start
  before_pass none = record {
    bound = Some (number start);
    reached = reached_pass c n F kept covered is.bound left is.reached (Some (number start))
        (λ j h e.
        let at = reach.found j h in
        subst (λ p. is_below is.bound (period c n F p) ≡ is_below (Some (number start)) (period c n F p)) at.2
        (elim (cases_lt at.0 start) [
          | inl early ↦ is.below at.0 at.1 ∙ lt-ltb at.0 end (omega (arith, run.some)) ∙ sym (below_next at.0 at.1 ∙ lt-ltb at.0 start early)
          | inr late ↦ elim (cases_lt at.0 end) [
            | inl inside ↦
                let parts = parts_of c n F j e in
                let low = subst (λ p. is_below is.bound (period c n F p) ≡ true) at.2 (is.below at.0 at.1 ∙ lt-ltb at.0 end inside) in
                let free = (unseen c n F kept covered is.bound left is.reached j h low).1 ∙ parts.1 in
                absurd (both_ways _ (subst (λ p. open_at c n F covered None p ≡ false) at.2 (none at.0 late inside))
                (and_from _ _ (and_from _ _ parts.0 (not_from_false _ free)) refl))
            | inr past ↦ is.below at.0 at.1 ∙ le-ltb at.0 end past ∙ sym (below_next at.0 at.1 ∙ le-ltb at.0 start late)
          ]
        ]));
    below = below_next;
    within = omega (arith, run.some, is.within);
  }

  module _ (i : ℕ) (found : IsFirst (open_at c n F covered None) (period c n F) (λ k. (F k).time) order start end i) where
    pub own_period : period c n F i ≡ number start
    own_period = subst (λ p. period c n F p ≡ number start) found.found.3 (run.same found.found.0 found.found.1 found.found.2)

    inside : i < n
    inside = subst (λ p. p < n) found.found.3 (reach.within found.found.0 (omega (arith, found.found.2, is.within)))

    waiting : (j : ℕ) → open_at c n F covered is.bound j ≡ true → open_at c n F covered None j ≡ true
    waiting j e = let parts = and_parts _ _ e in and_from _ _ parts.0 refl

    -- an open one comes before the run, or in it
    no_later : (k : ℕ) → k < n → open_at c n F covered is.bound (place_of order k) ≡ true → k < end
    no_later k h e = ltb-true k end (sym (is.below k h) ∙ (and_parts _ _ e).1)

    abbrev open_here : ℕ → Type 0
    open_here k = open_at c n F covered is.bound (place_of order k) ≡ true

    greatest_at : (k : ℕ) → k < n → open_here k → number k ≤ period c n F i
    greatest_at k h e = elim (cases_lt k start) [
      | inl early ↦ omega (arith, run.less k early, own_period)
      | inr late ↦ found.greatest k late (no_later k h e) (waiting (place_of order k) e)
    ]

    newest_at : (k : ℕ) → k < n → open_here k → number k ≡ period c n F i → (F (place_of order k)).time ≤ (F i).time
    newest_at k h e same = elim (cases_lt k start) [
      | inl early ↦ absurd (omega (arith, run.less k early, own_period))
      | inr late ↦ found.newest k late (no_later k h e) (waiting (place_of order k) e) same
    ]

    earliest_at : (k : ℕ) → k < n → open_here k → number k ≡ period c n F i → (F (place_of order k)).time ≡ (F i).time → i ≤ place_of order k
    earliest_at k h e same level = elim (cases_lt k start) [
      | inl early ↦ absurd (omega (arith, run.less k early, own_period))
      | inr late ↦ found.earliest k late (no_later k h e) (waiting (place_of order k) e) same level
    ]

    -- it is the first of all
    pub first_of_all : Leads (open_at c n F covered is.bound) (period c n F) (λ k. (F k).time) n i
    first_of_all =
        let early : found.found.0 < n = omega (arith, found.found.2, is.within) in
        let low = is.below found.found.0 early ∙ lt-ltb found.found.0 end found.found.2 in
        let parts = and_parts _ _ found.passed in
        record {
          within = inside;
          passed = and_from _ _ parts.0 (subst (λ p. is_below is.bound (period c n F p) ≡ true) found.found.3 low);
          greatest = λ j h.
              let at = reach.found j h in
              subst (λ p. open_at c n F covered is.bound p ≡ true → period c n F p ≤ period c n F i) at.2 (greatest_at at.0 at.1);
          newest = λ j h.
              let at = reach.found j h in
              subst (λ p. open_at c n F covered is.bound p ≡ true → period c n F p ≡ period c n F i → (F p).time ≤ (F i).time) at.2 (newest_at at.0 at.1);
          earliest = λ j h.
              let at = reach.found j h in
              subst (λ p. open_at c n F covered is.bound p ≡ true → period c n F p ≡ period c n F i → (F p).time ≡ (F i).time → i ≤ p) at.2
              (earliest_at at.0 at.1);
        }

    -- the next run ends where this one begins
    pub before_next : (kept' covered' : ℕ → Bool) (rest : ℕ) → Reached c n F kept' covered' (Some (period c n F i)) rest →
        Before c n F order kept' covered' rest start
    before_next kept' covered' rest next = record {
      bound = Some (number start);
      reached = subst (λ p. Reached c n F kept' covered' (Some p) rest) own_period next;
      below = below_next;
      within = omega (arith, run.some, is.within);
    }
