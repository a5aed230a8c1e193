-- What an option's loop has done once it has come down to a bound.
use Rattle.std.proofs.Common.{◌≡◌, ℕ, zero, suc, ◌<◌, ◌≤◌, inl, inr, Bool, true, false, not, ◌&&◌, ◌||◌, cond, eqb, ltb, List, map, filter, Option, Some, None, refl, sym, ap, subst, ◌∙◌, arith}
use Rattle.std.proofs.Math.Bool.{or-false, and-true}
use Rattle.std.specs.List.{list_any, range_with_len}
use Rattle.std.proofs.lemmas.Bool.{cases_eq, cases_Bool, or_left, or_right, or_from, and_parts, and_from, and_left, and_right, not-true, not_from_true, not_from_false, lt-ltb, le-ltb, eqb-true, eq-eqb, ne_eqb, both_ways}
use Rattle.prune_rules.specs.Prune.{Slot, Choice, is_newer, same_period, is_candidate, is_newest, take_slot, after_choice, greatest}
use Rattle.prune_rules.specs.Slots.{is_below}
use Rattle.prune_rules.proofs.First.{Leads}
use Rattle.prune_rules.proofs.Ranges.{any, any_at, any_none, any_found, any_same, map_same, map_map, any_map, any_filter}
use Rattle.prune_rules.proofs.Greatest.{among, Takes, takes_begin, takes_skip, takes_more, takes_zero, takes_end, lower}

taken_as : (t : Bool) (s : Slot) (a : Bool) →
    ◌≡◌ {A = Slot} (record s { kept = cond t a s.kept; covered = cond t true s.covered }) (cond t (record s { kept = a; covered = true }) s)
taken_as true s a = refl
taken_as false s a = refl

module _ (c : Choice) (n : ℕ) (F : ℕ → Slot) where
  abbrev pub slots : List Slot
  slots = map F (range_with_len 0 n)

  abbrev pub candidates : List Slot
  candidates = filter (is_candidate c slots) slots

  abbrev pub periods : List ℕ
  periods = map (λ s. c.period s.time) candidates

  abbrev pub period : ℕ → ℕ
  period k = c.period (F k).time

  abbrev pub candidate : ℕ → Bool
  candidate k = is_candidate c slots (F k)

  abbrev pub serves : ℕ → Bool
  serves k = list_any (λ s. s.kept && same_period c s (F k)) slots

  any_slots : (test : Slot → Bool) → list_any test slots ≡ any (λ k. test (F k)) n
  any_slots test = any_map test F (range_with_len 0 n)

  any_candidates : (test : Slot → Bool) → list_any test candidates ≡ any (λ k. candidate k && test (F k)) n
  any_candidates test = any_filter test (is_candidate c slots) slots ∙ any_slots (λ s. is_candidate c slots s && test s)

  among_is : (q : ℕ) → among q periods ≡ any (λ k. candidate k && eqb (period k) q) n
  among_is q = any_map (λ p. eqb p q) (λ s. c.period s.time) candidates ∙ any_candidates (λ s. eqb (c.period s.time) q)

  among_at : (k : ℕ) → k < n → candidate k ≡ true → among (period k) periods ≡ true
  among_at k h e = among_is (period k) ∙ any_at _ n k h (and_from _ _ e (eq-eqb (period k) (period k) refl))

  among_found : (q : ℕ) → among q periods ≡ true → (k : ℕ) × (k < n) × (candidate k ≡ true) × (period k ≡ q)
  among_found q e =
      let found = any_found _ n (sym (among_is q) ∙ e) in
      let parts = and_parts _ _ found.2 in
      (found.0, found.1, parts.0, eqb-true (period found.0) q parts.1)

  -- ---- what is taken

  abbrev pub takes_at : Option ℕ → ℕ → Bool
  takes_at bound k = candidate k && not (is_below bound (period k))

  abbrev pub kept_at : Option ℕ → ℕ → Bool
  kept_at bound k = cond (takes_at bound k) (is_newest c candidates (F k)) (F k).kept

  abbrev pub covered_at : Option ℕ → ℕ → Bool
  covered_at bound k = cond (takes_at bound k) true (F k).covered

  is_place : ((k : ℕ) → (F k).place ≡ k) → (k : ℕ) → k < n → list_any (λ s. eqb s.place (F k).place) candidates ≡ candidate k
  is_place places k h =
      any_candidates (λ s. eqb s.place (F k).place)
      ∙ elim (cases_Bool (candidate k)) [
        | inl is ↦ any_at _ n k h (and_from _ _ is (eq-eqb (F k).place (F k).place refl)) ∙ sym is
        | inr other ↦ any_none _ n (λ j g. elim (cases_eq (F j).place (F k).place) [
          | inl same ↦
              let e : j ≡ k = sym (places j) ∙ same ∙ places k in
              and_left _ _ (ap candidate e ∙ other)
          | inr differs ↦ and_right _ _ (ne_eqb (F j).place (F k).place differs)
        ]) ∙ sym other
      ]

  both_tests : (a b x : Bool) → (a ≡ true → b ≡ true) → (a && (b && x)) ≡ (a && x)
  both_tests true b x h = ap (λ y. y && x) (h refl)
  both_tests false b x h = refl

  takes_is : (bound : Option ℕ) → ((k : ℕ) → (F k).place ≡ k) →
      ((q : ℕ) → among q (greatest c.count periods) ≡ (among q periods && not (is_below bound q))) →
      (k : ℕ) → k < n → (list_any (λ s. eqb s.place (F k).place) candidates && among (period k) (greatest c.count periods)) ≡ takes_at bound k
  takes_is bound places all k h =
      ap (λ b. b && among (period k) (greatest c.count periods)) (is_place places k h)
      ∙ ap (λ b. candidate k && b) (all (period k))
      ∙ both_tests (candidate k) (among (period k) periods) (not (is_below bound (period k))) (among_at k h)

  abbrev pub slot_at : (ℕ → Bool) → (ℕ → Bool) → ℕ → Slot
  slot_at kept covered k = record (F k) { kept = kept k; covered = covered k }

  -- all is taken
  pub all_taken : (bound : Option ℕ) (kept covered : ℕ → Bool) → ((k : ℕ) → (F k).place ≡ k) →
      ((k : ℕ) → k < n → kept k ≡ kept_at bound k) → ((k : ℕ) → k < n → covered k ≡ covered_at bound k) →
      ((q : ℕ) → among q (greatest c.count periods) ≡ (among q periods && not (is_below bound q))) →
      map (slot_at kept covered) (range_with_len 0 n) ≡ after_choice slots c
  all_taken bound kept covered places kept_is covered_is all =
      map_same (slot_at kept covered) (λ k. take_slot c candidates (greatest c.count periods) (F k)) n
      (λ k h.
      let own : ◌≡◌ {A = Slot} (slot_at kept covered k) (record (F k) { kept = kept_at bound k; covered = covered_at bound k })
      = λ i. record (F k) { kept = kept_is k h i; covered = covered_is k h i } in
      own ∙ taken_as (takes_at bound k) (F k) (is_newest c candidates (F k))
      ∙ ap (λ t. cond t (record (F k) { kept = is_newest c candidates (F k); covered = true }) (F k)) (sym (takes_is bound places all k h)))
      ∙ sym (map_map (take_slot c candidates (greatest c.count periods)) F (range_with_len 0 n))

  -- ---- the loop

  pub record Reached (kept covered : ℕ → Bool) (bound : Option ℕ) (left : ℕ) : Type 0 where
    pub kept_is : (k : ℕ) → k < n → kept k ≡ kept_at bound k
    pub covered_is : (k : ℕ) → k < n → covered k ≡ covered_at bound k
    pub takes : Takes c.count periods bound left

  none_taken : (k : ℕ) → takes_at None k ≡ false
  none_taken k = and_right (candidate k) false refl

  pub reached_begin : Reached (λ k. (F k).kept) (λ k. (F k).covered) None c.count
  reached_begin = record {
    kept_is = λ k h. sym (ap (λ t. cond t (is_newest c candidates (F k)) (F k).kept) (none_taken k));
    covered_is = λ k h. sym (ap (λ t. cond t true (F k).covered) (none_taken k));
    takes = takes_begin c.count periods;
  }

  abbrev pub open_at : (ℕ → Bool) → Option ℕ → ℕ → Bool
  open_at covered bound k = (F k).finished && not (covered k) && is_below bound (period k)

  pub parts_of : (k : ℕ) → candidate k ≡ true → ((F k).finished ≡ true) × ((F k).covered ≡ false) × (serves k ≡ false)
  parts_of k e =
      let parts = and_parts _ _ e in
      let front = and_parts _ _ parts.0 in
      (front.0, not-true _ front.1, not-true _ parts.1)

  from_parts : (k : ℕ) → (F k).finished ≡ true → (F k).covered ≡ false → serves k ≡ false → candidate k ≡ true
  from_parts k a b s = and_from _ _ (and_from _ _ a (not_from_false _ b)) (not_from_false _ s)

  serves_same : (j k : ℕ) → period j ≡ period k → serves j ≡ serves k
  serves_same j k e = ap (λ p. list_any (λ s. s.kept && eqb (c.period s.time) p) slots) e

module _ (c : Choice) (n : ℕ) (F : ℕ → Slot) (kept covered : ℕ → Bool) (bound : Option ℕ) (left : ℕ) (is : Reached c n F kept covered bound left) where
  abbrev number : ℕ → ℕ
  number = period c n F

  abbrev candid : ℕ → Bool
  candid = candidate c n F

  pub unseen : (k : ℕ) → k < n → is_below bound (number k) ≡ true → (kept k ≡ (F k).kept) × (covered k ≡ (F k).covered)
  unseen k h below =
      let e : takes_at c n F bound k ≡ false = and_right (candid k) (not (is_below bound (number k))) (not_from_true _ below) in (
        is.kept_is k h ∙ ap (λ t. cond t (is_newest c (candidates c n F) (F k)) (F k).kept) e,
        is.covered_is k h ∙ ap (λ t. cond t true (F k).covered) e,
      )

  candidate_open : (k : ℕ) → k < n → candid k ≡ true → is_below bound (number k) ≡ true → open_at c n F covered bound k ≡ true
  candidate_open k h e below =
      let parts = parts_of c n F k e in
      and_from _ _ (and_from _ _ parts.0 (not_from_false _ ((unseen k h below).1 ∙ parts.1))) below

  none_left : ((k : ℕ) → k < n → open_at c n F covered bound k ≡ false) →
      (q : ℕ) → among q (periods c n F) ≡ true → is_below bound q ≡ false
  none_left none q e = elim (cases_Bool (is_below bound q)) [
    | inl low ↦
        let found = among_found c n F q e in
        absurd (both_ways _ (none found.0 found.1)
        (candidate_open found.0 found.1 found.2 (subst (λ p. is_below bound p ≡ true) (sym found.3) low)))
    | inr high ↦ high
  ]

  -- nothing is open
  pub reached_none : ((k : ℕ) → (F k).place ≡ k) → ((k : ℕ) → k < n → open_at c n F covered bound k ≡ false) →
      map (slot_at c n F kept covered) (range_with_len 0 n) ≡ after_choice (slots c n F) c
  reached_none places none = all_taken c n F bound kept covered places is.kept_is is.covered_is
      (takes_end c.count (periods c n F) bound left is.takes (none_left none))

  -- as many as were asked for
  pub reached_zero : ((k : ℕ) → (F k).place ≡ k) → left ≡ zero →
      map (slot_at c n F kept covered) (range_with_len 0 n) ≡ after_choice (slots c n F) c
  reached_zero places e = all_taken c n F bound kept covered places is.kept_is is.covered_is
      (takes_zero c.count (periods c n F) bound (subst (Takes c.count (periods c n F) bound) e is.takes))

  -- the next bound leaves the same candidates
  pub reached_pass : (next : Option ℕ) → ((k : ℕ) → k < n → candid k ≡ true → is_below bound (number k) ≡ is_below next (number k)) →
      Reached c n F kept covered next left
  reached_pass next same =
      let test : (k : ℕ) → k < n → takes_at c n F bound k ≡ takes_at c n F next k
      = λ k h. elim (cases_Bool (candid k)) [
        | inl e ↦ ap (λ b. candid k && not b) (same k h e)
        | inr e ↦ and_left _ _ e ∙ sym (and_left _ _ e)
      ] in
      record {
        kept_is = λ k h. is.kept_is k h ∙ ap (λ t. cond t (is_newest c (candidates c n F) (F k)) (F k).kept) (test k h);
        covered_is = λ k h. is.covered_is k h ∙ ap (λ t. cond t true (F k).covered) (test k h);
        takes = takes_skip c.count (periods c n F) bound next left is.takes
            (λ q e.
            let found = among_found c n F q e in
            subst (λ p. is_below bound p ≡ is_below next p) found.3 (same found.0 found.1 found.2));
      }

module _ (c : Choice) (n : ℕ) (F : ℕ → Slot) (kept covered : ℕ → Bool) (bound : Option ℕ) (left : ℕ) (is : Reached c n F kept covered bound left)
    (i : ℕ) (first : Leads (open_at c n F covered bound) (period c n F) (λ k. (F k).time) n i) where
  top_below : is_below bound (period c n F i) ≡ true
  top_below = (and_parts _ _ first.passed).1

  below_at : (k : ℕ) → period c n F k ≡ period c n F i → is_below bound (period c n F k) ≡ true
  below_at k e = subst (λ p. is_below bound p ≡ true) (sym e) top_below

  open_one : (k : ℕ) → k < n → candidate c n F k ≡ true → is_below bound (period c n F k) ≡ true → open_at c n F covered bound k ≡ true
  open_one = candidate_open c n F kept covered bound left is

  top_most : (r : ℕ) → among r (periods c n F) ≡ true → is_below bound r ≡ true → r ≤ period c n F i
  top_most r e low =
      let found = among_found c n F r e in
      let opened = open_one found.0 found.1 found.2 (subst (λ p. is_below bound p ≡ true) (sym found.3) low) in
      omega (arith, first.greatest found.0 found.1 opened, found.3)

  same_bound : (k : ℕ) → k < n → candidate c n F k ≡ true → (period c n F k ≡ period c n F i → ⊥) →
      is_below bound (period c n F k) ≡ ltb (period c n F k) (period c n F i)
  same_bound k h e apart = elim (cases_Bool (is_below bound (period c n F k))) [
    | inl low ↦
        let most : period c n F k ≤ period c n F i = first.greatest k h (open_one k h e low) in
        let less : period c n F k < period c n F i = omega arith in
        low ∙ sym (lt-ltb _ _ less)
    | inr high ↦ elim (cases_Bool (ltb (period c n F k) (period c n F i))) [
      | inl less ↦ absurd (both_ways _ high (lower bound (period c n F i) (period c n F k) top_below less))
      | inr more ↦ high ∙ sym more
    ]
  ]

  same_takes : (k : ℕ) → k < n → (candidate c n F k ≡ true → period c n F k ≡ period c n F i → ⊥) →
      takes_at c n F bound k ≡ takes_at c n F (Some (period c n F i)) k
  same_takes k h apart = elim (cases_Bool (candidate c n F k)) [
    | inl e ↦ ap (λ b. candidate c n F k && not b) (same_bound k h e (apart e))
    | inr e ↦ and_left _ _ e ∙ sym (and_left _ _ e)
  ]

  same_kept : (k : ℕ) → k < n → (candidate c n F k ≡ true → period c n F k ≡ period c n F i → ⊥) →
      kept k ≡ kept_at c n F (Some (period c n F i)) k
  same_kept k h apart =
      is.kept_is k h ∙ ap (λ t. cond t (is_newest c (candidates c n F) (F k)) (F k).kept) (same_takes k h apart)

  same_covered : (k : ℕ) → k < n → (candidate c n F k ≡ true → period c n F k ≡ period c n F i → ⊥) →
      covered k ≡ covered_at c n F (Some (period c n F i)) k
  same_covered k h apart = is.covered_is k h ∙ ap (λ t. cond t true (F k).covered) (same_takes k h apart)

  -- whether something of the period is kept now, and at the start
  abbrev pub serves_now : Bool
  serves_now = any (λ j. kept j && eqb (period c n F j) (period c n F i)) n

  serves_is : serves_now ≡ serves c n F i
  serves_is =
      any_same _ _ n (λ j h. elim (cases_eq (period c n F j) (period c n F i)) [
        | inl same ↦ ap (λ b. b && eqb (period c n F j) (period c n F i)) (unseen c n F kept covered bound left is j h (below_at j same)).0
        | inr other ↦ and_right _ _ (ne_eqb _ _ other) ∙ sym (and_right (F j).kept _ (ne_eqb _ _ other))
      ])
      ∙ sym (any_slots c n F (λ s. s.kept && same_period c s (F i)))

  -- the period is served already
  pub reached_skip : serves_now ≡ true → Reached c n F kept covered (Some (period c n F i)) left
  reached_skip served =
      let apart : (k : ℕ) → candidate c n F k ≡ true → period c n F k ≡ period c n F i → ⊥
      = λ k e same. both_ways _ (parts_of c n F k e).2 (serves_same c n F k i same ∙ sym serves_is ∙ served) in
      reached_pass c n F kept covered bound left is (Some (period c n F i)) (λ k h e. same_bound k h e (apart k e))

  -- ---- the period is not served

  module _ (served : serves_now ≡ false) (places : (k : ℕ) → (F k).place ≡ k) where
    serves_none : (k : ℕ) → period c n F k ≡ period c n F i → serves c n F k ≡ false
    serves_none k same = serves_same c n F k i same ∙ sym serves_is ∙ served

    candidate_one : candidate c n F i ≡ true
    candidate_one =
        let parts = and_parts _ _ first.passed in
        let front = and_parts _ _ parts.0 in
        from_parts c n F i front.0
        (sym (unseen c n F kept covered bound left is i first.within top_below).1 ∙ not-true _ front.1) (serves_none i refl)

    newer_one : (k : ℕ) → k < n → candidate c n F k ≡ true → period c n F k ≡ period c n F i → (k ≡ i → ⊥) → is_newer (F i) (F k) ≡ true
    newer_one k h e same other =
        let opened = open_one k h e (below_at k same) in
        let most : (F k).time ≤ (F i).time = first.newest k h opened same in
        elim (cases_eq (F i).time (F k).time) [
          | inl level ↦
              let low : i ≤ k = first.earliest k h opened same (sym level) in
              let less : (F i).place < (F k).place = omega (arith, places i, places k) in
              or_right _ _ (and_from _ _ (eq-eqb _ _ level) (lt-ltb _ _ less))
          | inr differs ↦ let less : (F k).time < (F i).time = omega arith in or_left _ _ (lt-ltb _ _ less)
        ]

    newest_other : (k : ℕ) → k < n → candidate c n F k ≡ true → period c n F k ≡ period c n F i → (k ≡ i → ⊥) →
        is_newest c (candidates c n F) (F k) ≡ false
    newest_other k h e same other =
        not_from_true _ (any_candidates c n F (λ s. same_period c s (F k) && is_newer s (F k))
        ∙ any_at _ n i first.within (and_from _ _ candidate_one (and_from _ _ (eq-eqb _ _ (sym same)) (newer_one k h e same other))))

    not_newer : (j : ℕ) → j < n → candidate c n F j ≡ true → period c n F j ≡ period c n F i → is_newer (F j) (F i) ≡ false
    not_newer j h e same =
        let opened = open_one j h e (below_at j same) in
        or_from _ _ (le-ltb _ _ (first.newest j h opened same))
        (elim (cases_eq (F j).time (F i).time) [
          | inl level ↦
              let low : i ≤ j = first.earliest j h opened same level in
              let most : (F i).place ≤ (F j).place = omega (arith, places i, places j) in
              and_right _ _ (le-ltb _ _ most)
          | inr differs ↦ and_left _ _ (ne_eqb _ _ differs)
        ])

    newest_one : is_newest c (candidates c n F) (F i) ≡ true
    newest_one =
        not_from_false _ (any_candidates c n F (λ s. same_period c s (F i) && is_newer s (F i))
        ∙ any_none _ n (λ j h. elim (cases_Bool (candidate c n F j)) [
          | inl e ↦ elim (cases_eq (period c n F j) (period c n F i)) [
            | inl same ↦ and_right _ _ (and_right _ _ (not_newer j h e same))
            | inr differs ↦ and_right _ _ (and_left _ _ (ne_eqb _ _ differs))
          ]
          | inr e ↦ and_left _ _ e
        ]))

    not_kept : (k : ℕ) → k < n → period c n F k ≡ period c n F i → (F k).kept ≡ false
    not_kept k h same = elim (cases_Bool (F k).kept) [
      | inl e ↦ absurd (both_ways _ (serves_none k same)
          (any_slots c n F (λ s. s.kept && same_period c s (F k)) ∙ any_at _ n k h (and_from _ _ e (eq-eqb _ _ refl))))
      | inr e ↦ e
    ]

    past_top : (k : ℕ) → period c n F k ≡ period c n F i → is_below (Some (period c n F i)) (period c n F k) ≡ false
    past_top k same = le-ltb (period c n F k) (period c n F i) (omega arith)

    test_here : (k : ℕ) → period c n F k ≡ period c n F i → takes_at c n F (Some (period c n F i)) k ≡ candidate c n F k
    test_here k same = elim (cases_Bool (candidate c n F k)) [
      | inl e ↦ and_from _ _ e (not_from_false _ (past_top k same)) ∙ sym e
      | inr e ↦ and_left _ _ e ∙ sym e
    ]

    kept_here : (kept' : ℕ → Bool) → kept' i ≡ true → ((k : ℕ) → (k ≡ i → ⊥) → kept' k ≡ kept k) →
        (k : ℕ) → k < n → period c n F k ≡ period c n F i → kept' k ≡ kept_at c n F (Some (period c n F i)) k
    kept_here kept' turns stays k h same =
        let at = λ (t : Bool). cond t (is_newest c (candidates c n F) (F k)) (F k).kept in
        elim (cases_eq k i) [
          | inl here ↦ subst (λ j. kept' j ≡ kept_at c n F (Some (period c n F i)) j) (sym here)
              (turns ∙ sym newest_one ∙ sym (ap (λ t. cond t (is_newest c (candidates c n F) (F i)) (F i).kept) (test_here i refl ∙ candidate_one)))
          | inr other ↦
              let was = stays k other ∙ (unseen c n F kept covered bound left is k h (below_at k same)).0 in
              elim (cases_Bool (candidate c n F k)) [
                | inl e ↦ was ∙ not_kept k h same ∙ sym (newest_other k h e same other) ∙ sym (ap at (test_here k same ∙ e))
                | inr e ↦ was ∙ sym (ap at (test_here k same ∙ e))
              ]
        ]

    -- a finished one that is no candidate was covered
    covered_then : (k : ℕ) → period c n F k ≡ period c n F i → ((F k).covered || (F k).finished) ≡ cond (candidate c n F k) true (F k).covered
    covered_then k same = elim (cases_Bool (candidate c n F k)) [
      | inl e ↦ or_right _ _ (parts_of c n F k e).0 ∙ sym (ap (λ t. cond t true (F k).covered) e)
      | inr e ↦ elim (cases_Bool (F k).covered) [
        | inl was ↦ or_left _ _ was ∙ sym (ap (λ t. cond t true (F k).covered) e ∙ was)
        | inr was ↦ elim (cases_Bool (F k).finished) [
          | inl ended ↦ absurd (both_ways _ e (from_parts c n F k ended was (serves_none k same)))
          | inr ended ↦ or_from _ _ was ended ∙ sym (ap (λ t. cond t true (F k).covered) e ∙ was)
        ]
      ]
    ]

    covered_here : (k : ℕ) → k < n → period c n F k ≡ period c n F i →
        (covered k || ((F k).finished && eqb (period c n F k) (period c n F i))) ≡ covered_at c n F (Some (period c n F i)) k
    covered_here k h same =
        ap (λ b. covered k || ((F k).finished && b)) (eq-eqb _ _ same)
        ∙ ap (λ b. covered k || b) (and-true (F k).finished)
        ∙ ap (λ b. b || (F k).finished) (unseen c n F kept covered bound left is k h (below_at k same)).1
        ∙ covered_then k same
        ∙ sym (ap (λ t. cond t true (F k).covered) (test_here k same))

    covered_elsewhere : (k : ℕ) → (period c n F k ≡ period c n F i → ⊥) →
        (covered k || ((F k).finished && eqb (period c n F k) (period c n F i))) ≡ covered k
    covered_elsewhere k apart =
        ap (λ b. covered k || b) (and_right (F k).finished _ (ne_eqb _ _ apart)) ∙ or-false (covered k)

    -- its newest candidate is kept, and all of them are covered
    pub reached_more : (rest : ℕ) → left ≡ suc rest → (kept' covered' : ℕ → Bool) → kept' i ≡ true → ((k : ℕ) → (k ≡ i → ⊥) → kept' k ≡ kept k) →
        ((k : ℕ) → k < n → covered' k ≡ (covered k || ((F k).finished && eqb (period c n F k) (period c n F i)))) →
        Reached c n F kept' covered' (Some (period c n F i)) rest
    reached_more rest e kept' covered' turns stays covers = record {
      kept_is = λ k h. elim (cases_eq (period c n F k) (period c n F i)) [
        | inl same ↦ kept_here kept' turns stays k h same
        | inr apart ↦ stays k (λ here. apart (ap (period c n F) here)) ∙ same_kept k h (λ _. apart)
      ];
      covered_is = λ k h. covers k h ∙ elim (cases_eq (period c n F k) (period c n F i)) [
        | inl same ↦ covered_here k h same
        | inr apart ↦ covered_elsewhere k apart ∙ same_covered k h (λ _. apart)
      ];
      takes = takes_more c.count (periods c n F) bound (period c n F i) rest
          (subst (Takes c.count (periods c n F) bound) e is.takes) (among_at c n F i first.within candidate_one) top_below top_most;
    }
