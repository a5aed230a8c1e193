-- Who holds a snapshot that is to be taken out.
use Rattle.std.proofs.Common.{◌≡◌, ⊎_elim, ◌<◌, ◌≤◌, ℕ, Bool, false, cond, min, fold, length, get_or, List, [], ◌∷◌, Some, None, Ok, Err, refl, sym, ap, subst, ◌∙◌, arith, lt-ltb}
use Rattle.std.proofs.lemmas.Bool.{cases_lt}
use Rattle.std.proofs.lemmas.List.{get_or_past}
use Rattle.std.proofs.lemmas.List.Elements.{All-contains, All-cons, All-head, All-nil, All-tail}
use Rattle.std.proofs.lemmas.List.Sums.{fails_before_first}
use Rattle.std.specs.List.{All, Contains, position, position_or_len, reduce}
use Rattle.store_types.specs.declared.names.SnapshotKey.{SnapshotKey}
use Rattle.lock_book.specs.Locks.{Locks, least_sharer, sharers}
use Rattle.store_model.specs.Store as model
use Rattle.store_model.specs.Store.{Store, session, holds_snapshot, snapshot_holder}
use Rattle.store_model.proofs.Insertions.{Contains-here, Contains-later, Contains-cases}
use Rattle.core_state.specs.Locked.{Locked}
use Rattle.core_state.proofs.LockLemmas.{removal_is}

-- ---- the least of a list

least_of : (x : ℕ) (xs : List ℕ) → Contains (x ∷ xs) (fold min x xs) × All (λ y. fold min x xs ≤ y) (x ∷ xs)
least_of x [] = (Contains-here x [], All-cons (λ y. x ≤ y) x [] (omega arith) (All-nil (λ y. x ≤ y)))
least_of x (y ∷ ys) =
    let rest = least_of (min x y) ys in
    let below = All-head (λ z. fold min (min x y) ys ≤ z) (min x y) ys rest.1 in
    (among rest.0, All-cons (λ z. fold min (min x y) ys ≤ z) x (y ∷ ys) (omega (arith, below)) (All-cons (λ z. fold min (min x y) ys ≤ z) y ys (omega (arith, below)) (All-tail (λ z. fold min (min x y) ys ≤ z) (min x y) ys rest.1)))
  where
    one_of : min x y ≡ fold min (min x y) ys → Contains (x ∷ y ∷ ys) (fold min (min x y) ys)
    one_of e = ⊎_elim
        (λ (lt : x < y). let here : x ≡ fold min (min x y) ys = omega (arith, e) in subst (Contains (x ∷ y ∷ ys)) here (Contains-here x (y ∷ ys)))
        (λ (ge : y ≤ x). let here : y ≡ fold min (min x y) ys = omega (arith, e) in subst (Contains (x ∷ y ∷ ys)) here (Contains-later x (y ∷ ys) y (Contains-here y ys)))
        (cases_lt x y)

    among : Contains (min x y ∷ ys) (fold min (min x y) ys) → Contains (x ∷ y ∷ ys) (fold min (min x y) ys)
    among has = ⊎_elim one_of (λ (later : Contains ys (fold min (min x y) ys)). Contains-later x (y ∷ ys) _ (Contains-later y ys _ later)) (Contains-cases (min x y) ys (fold min (min x y) ys) has)

-- ---- the first that passes a test

none_passes : {X : Type 0} (p : X → Bool) (xs : List X) (k : ℕ) (d : X) → position p xs ≡ None → k < length xs → p (get_or xs k d) ≡ false
none_passes p xs k d none lt = ⊎_elim
    (λ within. absurd (some_none _ (sym (ap (λ b. cond b (Some (position_or_len p xs)) None) (lt-ltb (position_or_len p xs) (length xs) within)) ∙ none)))
    (λ past. fails_before_first p xs k d (omega (arith, past, lt)))
    (cases_lt (position_or_len p xs) (length xs))
  where
    some_none : (i : ℕ) → Some i ≡ None → ⊥
    some_none i e = cc

-- no lane holds it
pub not_held : (s : Store) (key : SnapshotKey) (lane : ℕ) → snapshot_holder s key ≡ None → holds_snapshot key (session s lane) ≡ false
not_held s key lane none = ⊎_elim
    (λ within. none_passes (holds_snapshot key) s.sessions lane model.none none within)
    (λ past. ap (holds_snapshot key) (get_or_past s.sessions lane model.none past))
    (cases_lt lane (length s.sessions))

-- the least lane that holds it is the plain store's
pub holder_is : (locks : Locks) (s : Store) (key : SnapshotKey) → Locked locks s → least_sharer locks key ≡ snapshot_holder s key
holder_is locks s key h = by_sharers (sharers locks key) refl
  where
    by_sharers : (xs : List ℕ) → sharers locks key ≡ xs → reduce min xs ≡ snapshot_holder s key
    by_sharers [] e = removal_is locks s key h (Ok tt) e tt tt
    by_sharers (x ∷ xs) e =
        let least = least_of x xs in
        removal_is locks s key h (Err (record { lane = fold min x xs })) tt (subst (λ ys. Contains ys (fold min x xs)) (sym e) least.0)
        (subst (All (λ i. fold min x xs ≤ i)) (sym e) least.1)
