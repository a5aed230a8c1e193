-- Two halves of the lanes, served, are the lanes served.
use Rattle.std.proofs.Common.{◌≡◌, ◌≤◌, ◌<◌, ◌+◌, ◌-◌, ◌/◌, ℕ, suc, Bool, List, [], ◌∷◌, ◌++◌, length, refl, sym, ap, subst, ◌∙◌, arith}
use Rattle.std.proofs.lemmas.List.{length-append}
use mathlib.Core.List.{IsPrefix}
use Rattle.turn_lock.specs.State.{SeatState, TableId, seat_after_join, seat_after_split, seat_split_off}
use Rattle.store_history.specs.declared.act.Event.{Event}
use Rattle.store_history.specs.History.{own}
use Rattle.seat_history.specs.Entered.{OwnRises, own_events}
use Rattle.seat_history.specs.Lanes.{AreWithin}
use Rattle.seat_history.proofs.Joining.{joined_keeps, one_lane}
use Rattle.store_history.specs.declared.port.LaneReport.{LaneReport}
use Rattle.lane.specs.Served.{Run, CanServe, OneRan, EachRan, AreServed}

-- all but what it has seen and entered is the same
same_state : (s j : SeatState Event) → j.turn ≡ s.turn → j.reach ≡ s.reach → j.holding ≡ s.holding → j ≡ record s { seen = j.seen; mine = j.mine }
same_state s j t r h =
    let at_turn : j ≡ record { turn = s.turn; seen = j.seen; mine = j.mine; reach = j.reach; holding = j.holding } =
    ap (λ x. with_turn x) t in
    let at_reach : record { turn = s.turn; seen = j.seen; mine = j.mine; reach = j.reach; holding = j.holding } ≡ record { turn = s.turn; seen = j.seen; mine = j.mine; reach = s.reach; holding = j.holding } =
    ap (λ x. with_reach x) r in
    at_turn ∙ at_reach ∙ ap (λ x. with_holding x) h
  where
    with_turn : TableId → SeatState Event
    with_turn x = record { turn = x; seen = j.seen; mine = j.mine; reach = j.reach; holding = j.holding }

    with_reach : ℕ → SeatState Event
    with_reach x = record { turn = s.turn; seen = j.seen; mine = j.mine; reach = x; holding = j.holding }

    with_holding : Bool → SeatState Event
    with_holding x = record { turn = s.turn; seen = j.seen; mine = j.mine; reach = s.reach; holding = x }

-- ---- what halves may

pub can_left : (turn : TableId) (s s' : SeatState Event) (first n m : ℕ) → CanServe turn s first n → s' ≡ seat_after_split s → (n ≡ 1 → ⊥) → m ≡ n - n / 2 → CanServe turn s' first m
can_left turn s s' first n m can is many half =
    let some = can.some in let reach = can.reach in let lanes = can.lanes in
    let left = ap (λ x. x.reach) is in record {
      own = ap (λ x. x.turn) is ∙ can.own;
      idle = ap (λ x. x.holding) is ∙ can.idle;
      none = ap (λ x. x.mine) is ∙ can.none;
      some = omega (arith, some, many, half);
      reach = omega (arith, some, reach, half, left);
      lanes = omega (arith, lanes, half);
    }

pub can_right : (turn : TableId) (s s' : SeatState Event) (first n m : ℕ) → CanServe turn s first n → s' ≡ seat_split_off s → (n ≡ 1 → ⊥) → m ≡ n / 2 → CanServe turn s' (first + (n - n / 2)) m
can_right turn s s' first n m can is many half =
    let some = can.some in let reach = can.reach in let lanes = can.lanes in
    let right = ap (λ x. x.reach) is in record {
      own = ap (λ x. x.turn) is ∙ can.own;
      idle = ap (λ x. x.holding) is ∙ can.idle;
      none = ap (λ x. x.mine) is;
      some = omega (arith, some, many, half);
      reach = omega (arith, some, reach, many, half, right);
      lanes = omega (arith, lanes, half);
    }

module _ {U : Type 0} (ran : U → U → LaneReport → Run → List Event → Type 0) where
  pub one_served : (k : ℕ) (old new : U) (report : LaneReport) (before after : SeatState Event) → before.mine ≡ [] → OneRan ran k old new report before after
      → AreServed ran k (old ∷ []) (new ∷ []) (report ∷ []) before after
  one_served k old new report before after none o =
      let owned = one_lane k before after o.events none o.grown o.lanes in
      record {
        runs = o.run ∷ [];
        same = o.grown.same;
        rises = o.grown.rises;
        lanes = owned.0;
        each = (subst (λ es. ran old new report o.run es) (sym owned.1) o.so, tt);
      }

  each_same : (k : ℕ) (os ns : List U) (rs : List LaneReport) (xs : List Run) (es es' : List Event) → ((j : ℕ) → k ≤ j → j < k + length os → own j es ≡ own j es')
      → EachRan ran k os ns rs xs es → EachRan ran k os ns rs xs es'
  each_same k [] [] [] [] es es' same each = tt
  each_same k (o ∷ os) (n ∷ ns) (r ∷ rs) (x ∷ xs) es es' same each = (
    subst (λ vs. ran o n r x vs) (same k (omega arith) (omega arith)) each.0,
    each_same (k + 1) os ns rs xs es es' (λ j lo hi. same j (omega arith) (omega arith)) each.1,
  )
  each_same k _ _ _ _ es es' same each = absurd each

  each_append : (k : ℕ) (os ns : List U) (rs : List LaneReport) (xs : List Run) (os' ns' : List U) (rs' : List LaneReport) (xs' : List Run) (es : List Event)
      → EachRan ran k os ns rs xs es → EachRan ran (k + length os) os' ns' rs' xs' es → EachRan ran k (os ++ os') (ns ++ ns') (rs ++ rs') (xs ++ xs') es
  each_append k [] [] [] [] os' ns' rs' xs' es one two = let none : k + 0 ≡ k = omega arith in subst (λ j. EachRan ran j os' ns' rs' xs' es) none two
  each_append k (o ∷ os) (n ∷ ns) (r ∷ rs) (x ∷ xs) os' ns' rs' xs' es one two =
      let on : k + suc (length os) ≡ k + 1 + length os = omega arith in
      (one.0, each_append (k + 1) os ns rs xs os' ns' rs' xs' es one.1 (subst (λ j. EachRan ran j os' ns' rs' xs' es) on two))
  each_append k _ _ _ _ os' ns' rs' xs' es one two = absurd one

  pub both_served : (first n : ℕ) (xs xs' : List U) (rs : List LaneReport) (ys ys' : List U) (ss : List LaneReport) (seat l l' r r' j : SeatState Event)
      → length xs ≡ n → l.turn ≡ seat.turn → l.holding ≡ seat.holding → l.reach + r.reach ≡ seat.reach
      → AreServed ran first xs xs' rs l l' → AreServed ran (first + n) ys ys' ss r r'
      → j ≡ seat_after_join l' r' → IsPrefix l'.seen j.seen → IsPrefix r'.seen j.seen → OwnRises j
      → AreServed ran first (xs ++ ys) (xs' ++ ys') (rs ++ ss) seat j
  both_served first n xs xs' rs ys ys' ss seat l l' r r' j count turn idle reach one two is left right rises =
      let these : AreWithin first (first + n) (own_events l') = subst (λ m. AreWithin first (first + m) (own_events l')) count one.lanes in
      let kept = joined_keeps first (first + n) (first + n + length ys) l' r' j (omega arith) (omega arith) is left right one.rises two.rises these two.lanes in
      let size = length-append xs ys in
      record {
        runs = one.runs ++ two.runs;
        same = same_state seat j
            (ap (λ s. s.turn) is ∙ ap (λ s. s.turn) one.same ∙ turn)
            (ap (λ s. s.reach) is ∙ (let p = ap (λ s. s.reach) one.same in let q = ap (λ s. s.reach) two.same in omega (arith, p, q, reach)))
            (ap (λ s. s.holding) is ∙ ap (λ s. s.holding) one.same ∙ idle);
        rises = rises;
        lanes = subst (λ m. AreWithin first m (own_events j)) (omega (arith, size, count)) kept.lanes;
        each = each_append first xs xs' rs one.runs ys ys' ss two.runs (own_events j)
            (each_same first xs xs' rs one.runs (own_events l') (own_events j) (λ k lo hi. sym (kept.left k lo (omega (arith, hi, count)))) one.each)
            (subst (λ m. EachRan ran (first + m) ys ys' ss two.runs (own_events j)) (sym count)
            (each_same (first + n) ys ys' ss two.runs (own_events r') (own_events j) (λ k lo hi. sym (kept.right k lo hi)) two.each));
      }

-- ---- how many there are

module _ {U : Type 0} (ran : U → U → LaneReport → Run → List Event → Type 0) where
  pub each_counts : (k : ℕ) (os ns : List U) (rs : List LaneReport) (xs : List Run) (es : List Event) → EachRan ran k os ns rs xs es → (length rs ≡ length os) × (length xs ≡ length os)
  each_counts k [] [] [] [] es each = (refl, refl)
  each_counts k (o ∷ os) (n ∷ ns) (r ∷ rs) (x ∷ xs) es each = let c = each_counts (k + 1) os ns rs xs es each.1 in (ap suc c.0, ap suc c.1)
  each_counts k _ _ _ _ es each = absurd each
