-- What an image of a moment gives, where the history grows, and that it is the store after a beginning of the history.
use Rattle.std.proofs.Common.{◌≡◌, ℕ, suc, ◌+◌, ◌<◌, ◌≤◌, ◌⊎◌, inl, inr, Bool, true, false, not, ◌&&◌, List, [], ◌∷◌, ◌++◌, take, Option, Some, None, refl, sym, ap, subst, ◌∙◌, arith, if◌then◌else◌, is_none, ◌==◌, nat_le}
use Rattle.std.proofs.lemmas.Bool.{eqb-true}
use Rattle.std.proofs.lemmas.Bool.Decides.{nat_tests}
use Rattle.store_types.specs.declared.order.TheConstants.{FAULT_KIND}
use Rattle.store_files.specs.Archive.{Snapshot}
use Rattle.store_model.specs.Weave.{first_fault}
use Rattle.store_history.specs.declared.act.Act.{Act}
use Rattle.store_history.specs.declared.act.Event.{Event}
use Rattle.store_history.specs.History.{World, EntryKind, step_kind, pass_kind, short_kind, start_kind, close_kind, fault_kind, end_kind, remote_kind, no_kind, kind_of, lane, moment, kind, moved, after, after_all}
use Rattle.store_history.specs.Legal.{IsLegal}
use Rattle.store_history.specs.CrashPoints.{answered_by, undisturbed, one_more, is_past, Either, Reopens}
use Rattle.store_history.proofs.Longer.{calls_risen}

-- ---- a fault stays

kept_by : (R : Option (List Snapshot)) (w : World) (k m : ℕ) (a : Act) (n : EntryKind) → is_none w.fault ≡ false → is_none (moved R w k m a n).fault ≡ false
unfolding moved
kept_by R w k m a step_kind h = h
kept_by R w k m a pass_kind h = h
kept_by R w k m a short_kind h = h
kept_by R w k m a start_kind h = h
kept_by R w k m a close_kind h = h
kept_by R w k m a fault_kind h = by_fault w.fault
  where
    by_fault : (f : Option ℕ) → is_none (first_fault w.events f) ≡ false
    by_fault None = refl
    by_fault (Some first) = refl
kept_by R w k m a end_kind h = h
kept_by R w k m a remote_kind h = h
kept_by R w k m a no_kind h = h

fault_kept : (R : Option (List Snapshot)) (w : World) (e : Event) → is_none w.fault ≡ false → is_none (after R w e).fault ≡ false
unfolding after
fault_kept R w e h = kept_by R w (lane e) (moment e) e.act (kind_of (kind e)) h

pub fault_stays : (R : Option (List Snapshot)) (w : World) (h : List Event) → is_none w.fault ≡ false → is_none (after_all R w h).fault ≡ false
unfolding after_all
fault_stays R w [] h = h
fault_stays R w (e ∷ es) h = fault_stays R (after R w e) es (fault_kept R w e h)

fault_made : (R : Option (List Snapshot)) (w : World) (e : Event) → kind e ≡ FAULT_KIND → is_none (after R w e).fault ≡ false
unfolding after moved
fault_made R w e five = subst (λ n. is_none (moved R w (lane e) (moment e) e.act (kind_of n)).fault ≡ false) (sym five) (by_fault w.fault)
  where
    by_fault : (f : Option ℕ) → is_none (first_fault w.events f) ≡ false
    by_fault None = refl
    by_fault (Some first) = refl

clash : true ≡ false → ⊥
clash h = cc

-- where there is no fault in the end, there was none before
calm_before : (R : Option (List Snapshot)) (w : World) (h : List Event) → is_none (after_all R w h).fault ≡ true → is_none w.fault ≡ true
calm_before R w h calm = by_test (is_none w.fault) refl
  where
    by_test : (b : Bool) → is_none w.fault ≡ b → is_none w.fault ≡ true
    by_test true is = is
    by_test false is = absurd (clash (sym calm ∙ fault_stays R w h is))

calm_here : (R : Option (List Snapshot)) (w : World) (e : Event) (h : List Event) → is_none (after_all R (after R w e) h).fault ≡ true → (kind e == FAULT_KIND) ≡ false
calm_here R w e h calm = by_test (kind e == FAULT_KIND) refl
  where
    by_test : (b : Bool) → (kind e == FAULT_KIND) ≡ b → (kind e == FAULT_KIND) ≡ false
    by_test true is = absurd (clash (sym calm ∙ fault_stays R (after R w e) h (fault_made R w e (eqb-true (kind e) 5 is))))
    by_test false is = is

past_is : (R : Option (List Snapshot)) (w : World) (e : Event) (h : List Event) (t : ℕ) (b : Bool) → is_none (after_all R w (e ∷ h)).fault ≡ true → nat_le e.calls t ≡ b → is_past t w e ≡ b
unfolding after_all
past_is R w e h t b calm is =
    ap (λ x. x && not (kind e == FAULT_KIND) && is_none w.fault) is
    ∙ ap (λ x. b && not x && is_none w.fault) (calm_here R w e h calm)
    ∙ ap (λ x. b && true && x) (calm_before R w (e ∷ h) calm)
    ∙ flat b
  where
    flat : (b : Bool) → (b && true && true) ≡ b
    flat true = refl
    flat false = refl

-- ---- where the history grows

either_maps : (b : Bool) (A C B : Type 0) → (A → C) → Either b A B → Either b C B
either_maps true A C B f h = f h
either_maps false A C B f h = h

-- an image of a moment at which an event was not yet answered
pub reopens_before : (R : Option (List Snapshot)) (w : World) (h : List Event) (e : Event) (t : ℕ) (found : List Snapshot) → t < e.calls → Reopens R w h t found → Reopens R w (h ++ e ∷ []) t found
reopens_before R w [] e t found lt h =
    let late : nat_le e.calls t ≡ false = grind (arith, nat_tests) in
    subst (λ b. Either (b && not (kind e == FAULT_KIND) && is_none w.fault) (Reopens R (after R w e) [] t found) ((found ≡ (w.store).snapshots) ⊎ (found ≡ (one_more R w e).snapshots))) (sym late) (inl h)
reopens_before R w (v ∷ vs) e t found lt h = either_maps (is_past t w v) (Reopens R (after R w v) vs t found) (Reopens R (after R w v) (vs ++ e ∷ []) t found)
    ((found ≡ (w.store).snapshots) ⊎ (found ≡ (one_more R w v).snapshots)) (reopens_before R (after R w v) vs e t found lt) h

-- an image of any moment, once the disk has failed
pub reopens_halted : (R : Option (List Snapshot)) (w : World) (h : List Event) (e : Event) (t : ℕ) (found : List Snapshot) → is_none (after_all R w h).fault ≡ false → Reopens R w h t found → Reopens R w (h ++ e ∷ []) t found
unfolding after_all
reopens_halted R w [] e t found hurt h =
    subst (λ b. Either b (Reopens R (after R w e) [] t found) ((found ≡ (w.store).snapshots) ⊎ (found ≡ (one_more R w e).snapshots))) (sym not_past) (inl h)
  where
    none : (a : Bool) → (a && false) ≡ false
    none true = refl
    none false = refl

    not_past : is_past t w e ≡ false
    not_past = ap (λ b. nat_le e.calls t && not (kind e == FAULT_KIND) && b) hurt ∙ none (nat_le e.calls t && not (kind e == FAULT_KIND))
reopens_halted R w (v ∷ vs) e t found hurt h = either_maps (is_past t w v) (Reopens R (after R w v) vs t found) (Reopens R (after R w v) (vs ++ e ∷ []) t found)
    ((found ≡ (w.store).snapshots) ⊎ (found ≡ (one_more R w v).snapshots)) (reopens_halted R (after R w v) vs e t found hurt) h

-- an image of a moment at which all events were answered, without a fault: what it gives from there on
module _ (R : Option (List Snapshot)) (t : ℕ) (found : List Snapshot) where
  answered : (w : World) (e : Event) (h : List Event) → IsLegal R w (e ∷ h) → (after_all R w (e ∷ h)).calls ≤ t → is_none (after_all R w (e ∷ h)).fault ≡ true → is_past t w e ≡ true
  unfolding after_all after
  answered w e h legal low calm =
      let up = calls_risen R (after R w e) h legal.1 in
      let le : e.calls ≤ t = omega (arith, up, low) in
      past_is R w e h t true calm (grind (arith, nat_tests))

  pub reopens_from : (w : World) (h g : List Event) → IsLegal R w h → (after_all R w h).calls ≤ t → is_none (after_all R w h).fault ≡ true
      → Reopens R (after_all R w h) g t found → Reopens R w (h ++ g) t found
  unfolding after_all
  reopens_from w [] g legal low calm h = h
  reopens_from w (v ∷ vs) g legal low calm h =
      subst (λ b. Either b (Reopens R (after R w v) (vs ++ g) t found) ((found ≡ (w.store).snapshots) ⊎ (found ≡ (one_more R w v).snapshots))) (sym (answered w v vs legal low calm))
      (reopens_from (after R w v) vs g legal.1 low calm h)

  pub reopens_to : (w : World) (h g : List Event) → IsLegal R w h → (after_all R w h).calls ≤ t → is_none (after_all R w h).fault ≡ true
      → Reopens R w (h ++ g) t found → Reopens R (after_all R w h) g t found
  unfolding after_all
  reopens_to w [] g legal low calm h = h
  reopens_to w (v ∷ vs) g legal low calm h =
      reopens_to (after R w v) vs g legal.1 low calm
      (subst (λ b. Either b (Reopens R (after R w v) (vs ++ g) t found) ((found ≡ (w.store).snapshots) ⊎ (found ≡ (one_more R w v).snapshots))) (answered w v vs legal low calm) h)

-- ---- a beginning of the history

-- Where no event met a fault, an image gives the snapshots after the events that were answered by its moment, or after one more.
pub reopens_prefix : (R : Option (List Snapshot)) (h : List Event) (w : World) (t : ℕ) (found : List Snapshot) → is_none (after_all R w h).fault ≡ true → Reopens R w h t found
    → (found ≡ ((after_all R w (take (answered_by t h) h)).store).snapshots) ⊎ (found ≡ ((after_all R w (take (answered_by t h + 1) h)).store).snapshots)
unfolding after_all
reopens_prefix R [] w t found calm h = inl h
reopens_prefix R (e ∷ es) w t found calm h = by_test (reopens_prefix R es (after R w e) t found calm) (nat_le e.calls t) refl
  where
    up : (n : ℕ) → take (n + 1) (e ∷ es) ≡ e ∷ take n es
    up n = ap (λ k. take k (e ∷ es)) (let one : n + 1 ≡ suc n = omega arith in one)

    grow : (a : ℕ) → (found ≡ ((after_all R (after R w e) (take a es)).store).snapshots) ⊎ (found ≡ ((after_all R (after R w e) (take (a + 1) es)).store).snapshots)
        → (found ≡ ((after_all R w (take (a + 1) (e ∷ es))).store).snapshots) ⊎ (found ≡ ((after_all R w (take (a + 1 + 1) (e ∷ es))).store).snapshots)
    grow a (inl f) = inl (f ∙ ap (λ xs. ((after_all R w xs).store).snapshots) (sym (up a)))
    grow a (inr f) = inr (f ∙ ap (λ xs. ((after_all R w xs).store).snapshots) (sym (up (a + 1))))

    rest : (b : Bool) → nat_le e.calls t ≡ b → Either b (Reopens R (after R w e) es t found) ((found ≡ (w.store).snapshots) ⊎ (found ≡ (one_more R w e).snapshots))
    rest b is = subst (λ x. Either x (Reopens R (after R w e) es t found) ((found ≡ (w.store).snapshots) ⊎ (found ≡ (one_more R w e).snapshots))) (past_is R w e es t b calm is) h

    stay : (found ≡ (w.store).snapshots) ⊎ (found ≡ (one_more R w e).snapshots)
        → (found ≡ ((after_all R w (take 0 (e ∷ es))).store).snapshots) ⊎ (found ≡ ((after_all R w (take (0 + 1) (e ∷ es))).store).snapshots)
    stay (inl f) = inl f
    stay (inr f) = inr (f ∙ ap (λ b. (if b then undisturbed R w e else (after R w e).store).snapshots) (calm_here R w e es calm))

    by_test : (Reopens R (after R w e) es t found → (found ≡ ((after_all R (after R w e) (take (answered_by t es) es)).store).snapshots) ⊎ (found ≡ ((after_all R (after R w e) (take (answered_by t es + 1) es)).store).snapshots))
        → (b : Bool) → nat_le e.calls t ≡ b
        → (found ≡ ((after_all R w (take (answered_by t (e ∷ es)) (e ∷ es))).store).snapshots) ⊎ (found ≡ ((after_all R w (take (answered_by t (e ∷ es) + 1) (e ∷ es))).store).snapshots)
    by_test ih true is =
        subst (λ n. (found ≡ ((after_all R w (take n (e ∷ es))).store).snapshots) ⊎ (found ≡ ((after_all R w (take (n + 1) (e ∷ es))).store).snapshots))
        (ap (λ b. if b then answered_by t es + 1 else 0) (sym is)) (grow (answered_by t es) (ih (rest true is)))
    by_test ih false is =
        subst (λ n. (found ≡ ((after_all R w (take n (e ∷ es))).store).snapshots) ⊎ (found ≡ ((after_all R w (take (n + 1) (e ∷ es))).store).snapshots))
        (ap (λ b. if b then answered_by t es + 1 else 0) (sym is)) (stay (rest false is))
