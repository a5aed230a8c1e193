-- A seat that acted for one lane, and one that two became that acted for lanes apart.
use Rattle.std.proofs.Common.{◌≡◌, ◌≤◌, ◌<◌, ◌+◌, ℕ, List, [], ◌++◌, length, sym, ap, subst, ◌∙◌, arith}
use mathlib.Core.List.{IsPrefix}
use Rattle.turn_lock.specs.Places.{merge}
use Rattle.turn_lock.specs.State.{SeatState, seat_after_join}
use Rattle.store_history.specs.declared.act.Event.{Event}
use Rattle.store_history.specs.History.{own}
use Rattle.store_history.specs.Seats.{picked, AreOf}
use Rattle.store_history.proofs.Longer.{own_all}
use Rattle.seat_history.specs.Entered.{HasGrown, OwnRises, own_events}
use Rattle.seat_history.specs.Lanes.{AreWithin, KeepsLanes}
use Rattle.seat_history.proofs.Picking.{picked_longer}
use Rattle.seat_history.proofs.Merging.{within_elsewhere, merge_elsewhere_left, merge_elsewhere_right, within_merge, within_one, within_wider}

pub one_lane : (k : ℕ) (start now : SeatState Event) (es : List Event) → start.mine ≡ [] → HasGrown start now es → AreOf k es
    → AreWithin k (k + 1) (own_events now) × (own k (own_events now) ≡ es)
one_lane k start now es none grown are =
    let all : own_events now ≡ es = grown.own ∙ ap (λ ms. picked start.seen ms ++ es) none in
    (subst (λ xs. AreWithin k (k + 1) xs) (sym all) (within_one k es are), ap (own k) all ∙ own_all k es are)

pub joined_keeps : (first middle last : ℕ) (left right both : SeatState Event) → first ≤ middle → middle ≤ last
    → both ≡ seat_after_join left right → IsPrefix left.seen both.seen → IsPrefix right.seen both.seen → OwnRises left → OwnRises right
    → AreWithin first middle (own_events left) → AreWithin middle last (own_events right) → KeepsLanes first middle last left right both
joined_keeps first middle last l r both low high is seen seen' rises rises' these those =
    let h = both.seen in
    let at_left : picked h l.mine ≡ own_events l = picked_longer l.seen h l.mine seen rises in
    let at_right : picked h r.mine ≡ own_events r = picked_longer r.seen h r.mine seen' rises' in
    let these' : AreWithin first middle (picked h l.mine) = subst (λ es. AreWithin first middle es) (sym at_left) these in
    let those' : AreWithin middle last (picked h r.mine) = subst (λ es. AreWithin middle last es) (sym at_right) those in
    let all : own_events both ≡ picked h (merge l.mine r.mine) = ap (λ (s : SeatState Event). picked h s.mine) is in
    record {
      lanes = subst (λ es. AreWithin first last es) (sym all) (within_merge first last h l.mine r.mine
          (within_wider first middle first last (picked h l.mine) (omega arith) high these')
          (within_wider middle last first last (picked h r.mine) low (omega arith) those'));
      left = λ k lo hi. ap (own k) all
          ∙ (merge_elsewhere_right 0 (length l.seen) k h l.mine r.mine rises (within_elsewhere middle last k h r.mine (λ j from to same. omega (arith, from, same, hi)) those') ∙ ap (own k) at_left);
      right = λ k lo hi. ap (own k) all
          ∙ (merge_elsewhere_left k h l.mine r.mine (within_elsewhere first middle k h l.mine (λ j from to same. omega (arith, to, same, lo)) these') ∙ ap (own k) at_right);
    }
