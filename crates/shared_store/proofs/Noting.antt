-- What seats are noted to know.
use Rattle.std.proofs.Common.{◌≡◌, ◌≤◌, ◌<◌, ◌⊎◌, inl, inr, ⊎_elim, ◌∙◌, ℕ, zero, suc, ◌+◌, Bool, true, false, cond, List, [], ◌∷◌, ◌++◌, length, refl, sym, ap, subst, arith}
use Rattle.std.specs.Prelude.{max, nat_le, slice_get}
use Rattle.std.specs.List.{AllByRecursion}
use Rattle.std.proofs.lemmas.List.{length-append}
use mathlib.Core.List.{IsPrefix}
use Rattle.turn_lock.specs.Places.{RisesWithin, insert_rising, merge}
use Rattle.turn_lock.specs.State.{SeatState, TableId, first_seat, seat_after_join, seat_after_split, seat_split_off}
use Rattle.store_history.specs.declared.act.Event.{Event}
use Rattle.shared_store.specs.Views.{IsNoteOf, IsNoted, IsQuietFrom, TellsOf, Learns}

-- ---- more of the history

got_before : (xs ys : List Event) (k : ℕ) → k < length xs → slice_get (xs ++ ys) k ≡ slice_get xs k
got_before [] ys k lt = absurd (omega arith)
got_before (x ∷ xs) ys zero lt = refl
got_before (x ∷ xs) ys (suc k) lt = got_before xs ys k (omega (arith, lt))

prefix_short : (xs ys : List Event) → IsPrefix xs ys → length xs ≤ length ys
prefix_short xs ys p = let both = length-append xs p.0 in let same = ap length p.1 in omega (arith, both, same)

quiet_longer : (from to : ℕ) (xs ys : List Event) → IsPrefix xs ys → to ≤ length xs → IsQuietFrom from to xs → IsQuietFrom from to ys
quiet_longer from to xs ys p within q k e lo hi at =
    q k e lo hi (sym (got_before xs p.0 k (omega (arith, hi, within))) ∙ ap (λ (es : List Event). slice_get es k) p.1 ∙ at)

-- ---- places below one

abbrev AllBelow : ℕ → List ℕ → Type 0
AllBelow a xs = AllByRecursion (λ place. place < a) xs

below_more : (a b : ℕ) (xs : List ℕ) → a ≤ b → AllBelow a xs → AllBelow b xs
below_more a b [] le all = tt
below_more a b (x ∷ xs) le all = (let lt = all.0 in omega (arith, lt, le), below_more a b xs le all.1)

below_insert : (a x : ℕ) (xs : List ℕ) → x < a → AllBelow a xs → AllBelow a (insert_rising x xs)
below_insert a x [] lt all = (lt, tt)
below_insert a x (y ∷ ys) lt all = by_test (nat_le x y) (below_insert a x ys lt all.1)
  where
    by_test : (b : Bool) → AllBelow a (insert_rising x ys) → AllBelow a (cond b (x ∷ y ∷ ys) (y ∷ insert_rising x ys))
    by_test true later = (lt, all)
    by_test false later = (all.0, later)

below_merge : (a : ℕ) (xs ys : List ℕ) → AllBelow a xs → AllBelow a ys → AllBelow a (merge xs ys)
below_merge a [] ys one other = other
below_merge a (x ∷ xs) ys one other = below_insert a x (merge xs ys) one.0 (below_merge a xs ys one.1 other)

below_rising : (a b : ℕ) (xs : List ℕ) → RisesWithin a b xs → AllBelow b xs
below_rising a b [] r = tt
below_rising a b (x ∷ xs) r = (r.1, below_rising (x + 1) b xs r.2)

-- ---- seats

-- a first seat
pub noted_first : (turn : TableId) → IsNoted 0 (first_seat turn [])
noted_first turn = record { tells = record { acted = 0; own = tt; seen = omega arith; quiet = λ k e lo hi at. absurd (omega (arith, hi)) }; most = omega arith }

-- one that has acted
pub noted_act : (note : ℕ) (seat : SeatState Event) → RisesWithin 0 (length seat.seen) seat.mine → IsNoteOf note seat.seen → IsNoted note seat
noted_act note seat rises is = record { tells = record { acted = length seat.seen; own = below_rising 0 (length seat.seen) seat.mine rises; seen = omega arith; quiet = is.quiet }; most = is.most }

-- one that has seen more
pub noted_more : (note : ℕ) (old new : SeatState Event) → new ≡ record old { seen = new.seen } → IsPrefix old.seen new.seen → IsNoted note old → IsNoted note new
noted_more note old new same p n =
    let short = prefix_short old.seen new.seen p in record {
      tells = record {
        acted = (n.tells).acted;
        own = subst (AllBelow (n.tells).acted) (sym (ap (λ (s : SeatState Event). s.mine) same)) (n.tells).own;
        seen = let a = (n.tells).seen in omega (arith, a, short);
        quiet = quiet_longer note (n.tells).acted old.seen new.seen p (n.tells).seen (n.tells).quiet;
      };
      most = let m = n.most in omega (arith, m, short);
    }

-- one that was split, and what was taken out of it
pub noted_left : (note : ℕ) (seat : SeatState Event) → IsNoted note seat → IsNoted note (seat_after_split seat)
noted_left note seat n = record { tells = record { acted = (n.tells).acted; own = (n.tells).own; seen = (n.tells).seen; quiet = (n.tells).quiet }; most = n.most }

pub noted_right : (note : ℕ) (seat : SeatState Event) → IsNoted note seat → IsNoted note (seat_split_off seat)
noted_right note seat n = record { tells = record { acted = 0; own = tt; seen = omega arith; quiet = λ k e lo hi at. absurd (omega (arith, hi)) }; most = n.most }

-- what is known of each of two
tells_both : (a b d : ℕ) (left right both : SeatState Event) → TellsOf a left → TellsOf b right → a ≤ d → b ≤ d → IsPrefix left.seen both.seen → IsPrefix right.seen both.seen
    → both.mine ≡ merge left.mine right.mine → TellsOf d both
tells_both a b d left right both l r ad bd p q mine = record {
  acted = max l.acted r.acted;
  own = subst (AllBelow (max l.acted r.acted)) (sym mine)
      (below_merge (max l.acted r.acted) left.mine right.mine (below_more l.acted (max l.acted r.acted) left.mine (omega arith) l.own) (below_more r.acted (max l.acted r.acted) right.mine (omega arith) r.own));
  seen = let one = l.seen in let other = r.seen in let s = prefix_short left.seen both.seen p in let t = prefix_short right.seen both.seen q in omega (arith, one, other, s, t);
  quiet = λ k e lo hi at.
      ⊎_elim (λ (lt : k < l.acted). quiet_longer a l.acted left.seen both.seen p l.seen l.quiet k e (omega (arith, lo, ad)) lt at)
      (λ (le : l.acted ≤ k). quiet_longer b r.acted right.seen both.seen q r.seen r.quiet k e (omega (arith, lo, bd)) (omega (arith, hi, le)) at) (below_or_not k l.acted);
}
  where
    below_or_not : (k n : ℕ) → (k < n) ⊎ (n ≤ k)
    below_or_not k zero = inr (omega arith)
    below_or_not zero (suc n) = inl (omega arith)
    below_or_not (suc k) (suc n) = ⊎_elim (λ (lt : k < n). inl (omega (arith, lt))) (λ (le : n ≤ k). inr (omega (arith, le))) (below_or_not k n)

-- two that became one
pub noted_both : (a b : ℕ) (left right both : SeatState Event) → IsNoted a left → IsNoted b right → both ≡ seat_after_join left right → IsPrefix left.seen both.seen → IsPrefix right.seen both.seen
    → IsNoted (max a b) both
noted_both a b left right both l r is p q =
    let s = prefix_short left.seen both.seen p in
    let t = prefix_short right.seen both.seen q in
    let one = l.most in
    let other = r.most in record {
      tells = tells_both a b (max a b) left right both l.tells r.tells (omega arith) (omega arith) p q (ap (λ (x : SeatState Event). x.mine) is);
      most = omega (arith, s, t, one, other);
    }

-- what a view learns
pub learns : (old note : ℕ) (seat : SeatState Event) → IsNoted note seat → Learns old (max old note) seat
learns old note seat n = record {
  grows = omega arith;
  tells = record { acted = (n.tells).acted; own = (n.tells).own; seen = (n.tells).seen; quiet = λ k e lo hi at. (n.tells).quiet k e (omega (arith, lo)) hi at };
  most = let m = n.most in omega (arith, m);
}
