-- The events at a seat's places, as the history grows.
use Rattle.std.proofs.Common.{◌≡◌, ◌+◌, ℕ, List, [], ◌∷◌, ◌++◌, length, Some, refl, sym, ap, subst, ◌∙◌, arith, append-nil, append_assoc, length-append, slice_get}
use Rattle.std.specs.List.{cons_option, range_with_len}
use mathlib.Core.List.{IsPrefix}
use Rattle.turn_lock.specs.Places.{RisesWithin}
use Rattle.turn_lock.specs.State.{SeatState}
use Rattle.turn_lock.proofs.PlaceLemmas.{RisesWithin-wider}
use Rattle.turn_lock.proofs.Prefixes.{IsPrefix-self, IsPrefix-trans, IsPrefix-length}
use Rattle.store_history.specs.declared.act.Act.{Act}
use Rattle.store_history.specs.declared.act.Answer.{Answer}
use Rattle.store_history.specs.declared.act.Event.{Event}
use Rattle.store_history.specs.Seats.{picked}
use Rattle.store_history.proofs.Longer.{Below, picked_grown, picked_more}
use Rattle.seat_history.specs.Entered.{HasEntered, HasGrown, OwnRises, event_at, own_events}

rises_below : (a b : ℕ) (ms : List ℕ) → RisesWithin a b ms → Below b ms
rises_below a b [] r = tt
rises_below a b (m ∷ ms) r = (r.1, rises_below (m + 1) b ms r.2)

-- in a longer history the same events stand at the same places
pub picked_longer : (h longer : List Event) (ms : List ℕ) → IsPrefix h longer → RisesWithin 0 (length h) ms → picked longer ms ≡ picked h ms
picked_longer h longer ms p r = ap (λ k. picked k ms) (sym p.1) ∙ picked_grown h p.0 ms (rises_below 0 (length h) ms r)

pub others_add_none : (seat : SeatState Event) (longer : List Event) → IsPrefix seat.seen longer → OwnRises seat → own_events (record seat { seen = longer }) ≡ own_events seat
others_add_none seat longer p rises = picked_longer seat.seen longer seat.mine p rises

-- ---- all places

get_at : (h : List Event) (e : Event) (es : List Event) → slice_get (h ++ e ∷ es) (length h) ≡ Some e
get_at [] e es = refl
get_at (v ∷ h) e es = get_at h e es

picked_from : (before h : List Event) → picked (before ++ h) (range_with_len (length before) (length h)) ≡ h
picked_from before [] = refl
picked_from before (e ∷ h) =
    let on : (before ++ e ∷ []) ++ h ≡ before ++ e ∷ h = append_assoc before (e ∷ []) h in
    let count : length (before ++ e ∷ []) ≡ length before + 1 = length-append before (e ∷ []) in
    let rest : picked (before ++ e ∷ h) (range_with_len (length before + 1) (length h)) ≡ h =
    subst (λ n. picked (before ++ e ∷ h) (range_with_len n (length h)) ≡ h) count
    (subst (λ xs. picked xs (range_with_len (length (before ++ e ∷ [])) (length h)) ≡ h) on (picked_from (before ++ e ∷ []) h)) in
    ap (λ o. cons_option o (picked (before ++ e ∷ h) (range_with_len (length before + 1) (length h)))) (get_at before e h) ∙ ap (λ xs. e ∷ xs) rest

pub picked_all : (h : List Event) → picked h (range_with_len 0 (length h)) ≡ h
picked_all h = picked_from [] h

pub whole_owns : (seat : SeatState Event) → seat.mine ≡ range_with_len 0 (length seat.seen) → own_events seat ≡ seat.seen
whole_owns seat all = ap (picked seat.seen) all ∙ picked_all seat.seen

-- ---- acts

pub grown_none : (seat : SeatState Event) → OwnRises seat → HasGrown seat seat []
grown_none seat rises = record { same = refl; seen = IsPrefix-self seat.seen; rises = rises; own = sym (append-nil (own_events seat)) }

pub grown_more : (start old new : SeatState Event) (es : List Event) (act : Act) (answer : Answer) (x : HasEntered act answer old new)
    → OwnRises new → HasGrown start old es → HasGrown start new (es ++ event_at act answer x.calls ∷ [])
grown_more start old new es act answer x rises g =
    let e = event_at act answer x.calls in
    let after : List Event = x.before ++ e ∷ [] in
    let places : List ℕ = old.mine ++ length x.before ∷ [] in
    let longer : IsPrefix old.seen after = IsPrefix-trans old.seen x.before after x.seen (e ∷ [], refl) in
    let low : Below (length x.before) old.mine =
    rises_below 0 (length x.before) old.mine (RisesWithin-wider 0 (length old.seen) 0 (length x.before) old.mine (omega arith) (IsPrefix-length old.seen x.before x.seen) g.rises) in
    let so_far : picked x.before old.mine ≡ own_events start ++ es = picked_longer old.seen x.before old.mine x.seen g.rises ∙ g.own in
    let moved : record old { seen = after; mine = places } ≡ record start { seen = after; mine = places } =
    ap (λ (s : SeatState Event). record s { seen = after; mine = places }) g.same in
    let put : record start { seen = after; mine = places } ≡ record start { seen = new.seen; mine = new.mine } =
    ap (λ (s : SeatState Event). record start { seen = s.seen; mine = s.mine }) (sym x.now) in
    record {
      same = x.now ∙ moved ∙ put;
      seen = subst (λ h. IsPrefix start.seen h) (sym (ap (λ (s : SeatState Event). s.seen) x.now)) (IsPrefix-trans start.seen old.seen after g.seen longer);
      rises = rises;
      own = ap own_events x.now ∙ picked_more x.before old.mine e low ∙ ap (λ xs. xs ++ e ∷ []) so_far ∙ append_assoc (own_events start) es (e ∷ []);
    }
