-- Who holds what, as the sessions change.
use Rattle.std.proofs.Common.{◌≡◌, ◌≢◌, ◌⊎◌, ⊎_elim, ◌↔◌, ℕ, zero, suc, ◌<◌, ◌≤◌, Bool, true, false, not, eqb, cond, length, get_or, set, List, [], ◌∷◌, ◌++◌, map, filter, Option, Some, None, Result, Ok, Err, OnOk, IfErr, refl, sym, ap, subst, ◌∙◌, arith, lt-ltb, eq-eqb, ne_eqb}
use Rattle.std.proofs.lemmas.Bool.{cases_lt, false_from_ne_true, cond-true, cond-false}
use Rattle.std.proofs.lemmas.List.{length-set, get_or_past, map-append}
use Rattle.std.proofs.lemmas.List.Elements.{All-contains, All-contains_itself, All-filter, filter-append, filter_passes, Contains-append_left, Contains-append_right, Contains-append_cases, Contains-push, Contains-push_cases}
use Rattle.std.proofs.lemmas.List.Folds.{position_or_len-set}
use Rattle.std.proofs.lemmas.List.Quantifiers.{position-Some}
use Rattle.std.proofs.lemmas.List.Sums.{position_or_len_is}
use Rattle.std.specs.List.{All, Contains, position, position_or_len}
use Rattle.std.specs.Map.{lookup}
use Rattle.std.specs.Prelude.{nat_lt, option_map}
use Rattle.std.specs.Result.{result_err}
use Rattle.store_types.specs.declared.names.GroupKey.{GroupKey}
use Rattle.store_types.specs.declared.names.SnapshotKey.{SnapshotKey}
use Rattle.store_types.specs.KeyOrder.{same_group_equiv, same_key_equiv}
use Rattle.store_types.specs.Names.{same_group, group_of_key, same_key}
use Rattle.lock_book.specs.declared.LaneHolds.{LaneHolds}
use Rattle.lock_book.specs.Locks as book
use Rattle.lock_book.specs.Locks.{Locks, no_locks, other_than, sharers, claims_of, TakesWriter, TakesShare, Releases}
use Rattle.store_model.specs.Store as model
use Rattle.store_model.specs.Store.{Store, session, with_session, writes_group, holds_snapshot, is_key, group_holder, snapshot_holder}
use Rattle.core_state.specs.Locked.{Locked}
use Rattle.core_state.specs.Holds.{IsSound}
use Rattle.core_state.proofs.Sessions.{by_lane, session_same, session_other}

true_false : true ≡ false → ⊥
true_false e = cc

not_both : (b : Bool) → b ≡ true → b ≡ false → ⊥
not_both b t f = true_false (sym t ∙ f)

some_same : (i j : ℕ) → Some i ≡ Some j → i ≡ j
some_same i j e = cc

some_none : (i : ℕ) → Some i ≡ None → ⊥
some_none i e = cc

-- ---- the first session that passes a test

module _ (p : model.Session → Bool) (xs : List model.Session) where
  at_first : (i : ℕ) → i < length xs → p (get_or xs i model.none) ≡ true → ((j : ℕ) → j < i → p (get_or xs j model.none) ≡ false) → position p xs ≡ Some i
  at_first i lt passes before =
      let at : position_or_len p xs ≡ i = position_or_len_is p xs i model.none (omega (arith, lt)) before (λ _. passes) in
      ap (λ n. cond (nat_lt n (length xs)) (Some n) None) at ∙ cond-true (nat_lt i (length xs)) (Some i) None (lt-ltb i (length xs) lt)

  no_first : ((i : ℕ) → p (get_or xs i model.none) ≡ false) → position p xs ≡ None
  no_first fails = by_place (position p xs) refl
    where
      by_place : (o : Option ℕ) → position p xs ≡ o → position p xs ≡ None
      by_place None e = e
      by_place (Some i) e = absurd (not_both _ (position-Some p xs i model.none e).1 (fails i))

  -- a session in whose place another passes as well
  position-set : (i : ℕ) (y : model.Session) → p y ≡ p (get_or xs i model.none) → position p (set xs i y) ≡ position p xs
  position-set i y e =
      ap (λ n. cond (nat_lt n (length (set xs i y))) (Some n) None) (position_or_len-set p xs i y model.none e)
      ∙ ap (λ n. cond (nat_lt (position_or_len p xs) n) (Some (position_or_len p xs)) None) (length-set xs i y)

  -- no session is past the end
  within : (i : ℕ) → p model.none ≡ false → p (get_or xs i model.none) ≡ true → i < length xs
  within i none passes = ⊎_elim
      (λ lt. lt)
      (λ past. absurd (not_both _ passes (ap p (get_or_past xs i model.none past) ∙ none)))
      (cases_lt i (length xs))

-- ---- the group's holder

writes_apart : (s : Store) (group : GroupKey) (i j : ℕ) (x y : model.Session) → IsSound s → session s i ≡ x → session s j ≡ y → writes_group group x ≡ true → writes_group group y ≡ true → i ≡ j
writes_apart s group i j (model.writer v) (model.writer w) h a b p q =
    h.apart i j v w a b (sym (same_group_equiv.congr group (group_of_key v.key) (group_of_key w.key) p) ∙ q)
writes_apart s group i j model.none y h a b p q = absurd (true_false (sym p))
writes_apart s group i j (model.reader r) y h a b p q = absurd (true_false (sym p))
writes_apart s group i j (model.writer v) model.none h a b p q = absurd (true_false (sym q))
writes_apart s group i j (model.writer v) (model.reader r) h a b p q = absurd (true_false (sym q))

module _ (s : Store) (group : GroupKey) where
  -- the lane whose writer has it
  pub holder_is : (i : ℕ) → IsSound s → writes_group group (session s i) ≡ true → group_holder s group ≡ Some i
  holder_is i h writes =
      at_first (writes_group group) s.sessions i (within (writes_group group) s.sessions i refl writes) writes
      (λ j lt. false_from_ne_true (writes_group group (session s j)) (λ e. let same : j ≡ i = writes_apart s group j i _ _ h refl refl e writes in absurd (omega (arith, lt, same))))

  holder_writes : (i : ℕ) → group_holder s group ≡ Some i → writes_group group (session s i) ≡ true
  holder_writes i e = (position-Some (writes_group group) s.sessions i model.none e).1

  -- no lane's writer has it
  pub no_holder : group_holder s group ≡ None → (i : ℕ) → IsSound s → writes_group group (session s i) ≡ false
  no_holder free i h = false_from_ne_true (writes_group group (session s i)) (λ e. some_none i (sym (holder_is i h e) ∙ free))

-- as a lane has another session
module _ (s : Store) (lane : ℕ) (x : model.Session) (lt : lane < length s.sessions) (old : IsSound s) (new : IsSound (with_session s lane x)) where
  at_lane : (group : GroupKey) → writes_group group x ≡ true → group_holder (with_session s lane x) group ≡ Some lane
  at_lane group writes = holder_is (with_session s lane x) group lane new (ap (writes_group group) (session_same s lane x lt) ∙ writes)

  fails_at : (group : GroupKey) (i : ℕ) → writes_group group x ≡ false → (i ≢ lane → writes_group group (session s i) ≡ false) → writes_group group (session (with_session s lane x) i) ≡ false
  fails_at group i free others = by_lane i lane (writes_group group (session (with_session s lane x) i) ≡ false)
      (λ same. ap (λ j. writes_group group (session (with_session s lane x) j)) same ∙ ap (writes_group group) (session_same s lane x lt) ∙ free)
      (λ ne. ap (writes_group group) (session_other s lane x i ne) ∙ others ne)

  elsewhere : (group : GroupKey) (o : Option ℕ) → group_holder s group ≡ o → writes_group group x ≡ false → group_holder (with_session s lane x) group ≡ other_than lane o
  elsewhere group None at free = no_first (writes_group group) (with_session s lane x).sessions (λ i. fails_at group i free (λ ne. no_holder s group at i old))
  elsewhere group (Some j) at free = by_lane j lane (group_holder (with_session s lane x) group ≡ other_than lane (Some j))
      (λ same. no_first (writes_group group) (with_session s lane x).sessions
      (λ i. fails_at group i free (λ ne. false_from_ne_true (writes_group group (session s i)) (λ e. ne (some_same i j (sym (holder_is s group i old e) ∙ at) ∙ same))))
      ∙ sym (cond-true (eqb j lane) None (Some j) (eq-eqb j lane same)))
      (λ ne. holder_is (with_session s lane x) group j new (ap (writes_group group) (session_other s lane x j ne) ∙ holder_writes s group j at)
      ∙ sym (cond-false (eqb j lane) None (Some j) (ne_eqb j lane ne)))

  holder_changed : (group : GroupKey) → group_holder (with_session s lane x) group ≡ cond (writes_group group x) (Some lane) (other_than lane (group_holder s group))
  holder_changed group = by_test (writes_group group x) refl
    where
      by_test : (b : Bool) → writes_group group x ≡ b → group_holder (with_session s lane x) group ≡ cond b (Some lane) (other_than lane (group_holder s group))
      by_test true e = at_lane group e
      by_test false e = elsewhere group (group_holder s group) refl e

-- ---- lists of lanes

in_cond : (b : Bool) (lane : ℕ) → Contains (cond b (lane ∷ []) []) lane → b ≡ true
in_cond true lane h = refl
in_cond false lane h = let lt = h.1 in absurd (omega (arith, lt))

not_in_cond : (b : Bool) (lane i : ℕ) → i ≢ lane → Contains (cond b (lane ∷ []) []) i → ⊥
not_in_cond true lane i ne h = ⊎_elim (λ (none : Contains [] i). let lt = none.1 in omega (arith, lt)) (λ e. ne (sym e)) (Contains-push_cases [] lane i h)
not_in_cond false lane i ne h = let lt = h.1 in omega (arith, lt)

there_in_cond : (b : Bool) (lane : ℕ) → b ≡ true → Contains (cond b (lane ∷ []) []) lane
there_in_cond true lane e = Contains-push [] lane
there_in_cond false lane e = absurd (true_false (sym e))

abbrev not_of : ℕ → ℕ → Bool
not_of lane i = not (eqb i lane)

in_filter : (p : ℕ → Bool) (xs : List ℕ) (i k : ℕ) → k < length xs → get_or xs k i ≡ i → p i ≡ true → Contains (filter p xs) i
in_filter p [] i k lt e is = absurd (omega (arith, lt))
in_filter p (x ∷ xs) i zero lt e is =
    let first : Contains (x ∷ []) i = (0, omega arith, e) in
    subst (λ b. Contains (cond b (x ∷ filter p xs) (filter p xs)) i) (sym (ap p e ∙ is)) (Contains-append_left (x ∷ []) (filter p xs) i first)
in_filter p (x ∷ xs) i (suc k) lt e is = by_test (p x) (in_filter p xs i k (omega (arith, lt)) e is)
  where
    by_test : (b : Bool) → Contains (filter p xs) i → Contains (cond b (x ∷ filter p xs) (filter p xs)) i
    by_test true h = Contains-append_right (x ∷ []) (filter p xs) i h
    by_test false h = h

-- the lanes but one
filtered : (lane : ℕ) (xs : List ℕ) (i : ℕ) → Contains (filter (not_of lane) xs) i → Contains xs i × (i ≢ lane)
filtered lane xs i h = (
  All-contains (Contains xs) (filter (not_of lane) xs) i (All-filter (not_of lane) (Contains xs) xs (All-contains_itself xs)) h,
  λ e. not_both (not_of lane i) (All-contains (λ j. not_of lane j ≡ true) (filter (not_of lane) xs) i (filter_passes (not_of lane) xs) h) (ap not (eq-eqb i lane e)),
)

-- a lane that has let all go holds nothing
module _ (old new : Locks) (lane : ℕ) (releases : Releases old new lane) where
  pub holds_no_group : (group : GroupKey) → book.group_holder new group ≡ Some lane → ⊥
  holds_no_group group held = by_holder (book.group_holder old group) (sym (releases.groups group) ∙ held)
    where
      by_holder : (o : Option ℕ) → other_than lane o ≡ Some lane → ⊥
      by_holder None e = cc
      by_holder (Some holder) e = by_test (eqb holder lane) refl e
        where
          by_test : (b : Bool) → eqb holder lane ≡ b → cond b None (Some holder) ≡ Some lane → ⊥
          by_test true is e = cc
          by_test false is e = not_both (eqb holder lane) (eq-eqb holder lane (one holder lane e)) is
            where
              one : (a b : ℕ) → Some a ≡ Some b → a ≡ b
              one a b e = cc

  pub shares_none : (key : SnapshotKey) → Contains (sharers new key) lane → ⊥
  shares_none key there = (filtered lane (sharers old key) lane (subst (λ xs. Contains xs lane) (releases.shared key) there)).1 refl

still_there : (lane : ℕ) (xs : List ℕ) (i : ℕ) → Contains xs i → i ≢ lane → Contains (filter (not_of lane) xs) i
still_there lane xs i h ne = in_filter (not_of lane) xs i h.0 h.1 h.2 (ap not (ne_eqb i lane ne))

-- ---- a lane without a session

-- it holds nothing
pub record HoldsNothing (locks : Locks) (lane : ℕ) : Type 0 where
  pub groups : (group : GroupKey) → other_than lane (book.group_holder locks group) ≡ book.group_holder locks group
  pub shared : (key : SnapshotKey) → Contains (sharers locks key) lane → ⊥

pub idle_holds : (locks : Locks) (s : Store) (lane : ℕ) → session s lane ≡ model.none → Locked locks s → HoldsNothing locks lane
idle_holds locks s lane idle h = record {
  groups = λ group. ap (other_than lane) (h.groups group) ∙ by_holder group (group_holder s group) refl ∙ sym (h.groups group);
  shared = λ key there. true_false (sym ((h.shared key lane).0 there) ∙ ap (holds_snapshot key) idle);
}
  where
    by_holder : (group : GroupKey) (o : Option ℕ) → group_holder s group ≡ o → other_than lane o ≡ o
    by_holder group None e = refl
    by_holder group (Some j) e = cond-false (eqb j lane) None (Some j) (ne_eqb j lane
        (λ same. not_both _ (holder_writes s group j e) (ap (λ i. writes_group group (session s i)) same ∙ ap (writes_group group) idle)))

-- ---- a session more

-- the lane, where it holds the snapshot by its claim
abbrev sharing : ℕ → Option SnapshotKey → SnapshotKey → List ℕ
sharing lane None key = []
sharing lane (Some base) key = cond (same_key base key) (lane ∷ []) []

sharing_here : (lane : ℕ) (base : Option SnapshotKey) (key : SnapshotKey) → is_key key base ≡ true → Contains (sharing lane base key) lane
sharing_here lane None key is = absurd (true_false (sym is))
sharing_here lane (Some b) key is = there_in_cond (same_key b key) lane (same_key_equiv.symm b key ∙ is)

sharing_by : (lane : ℕ) (base : Option SnapshotKey) (key : SnapshotKey) (i : ℕ) → Contains (sharing lane base key) i → (i ≡ lane) × (is_key key base ≡ true)
sharing_by lane None key i there = let lt = there.1 in absurd (omega (arith, lt))
sharing_by lane (Some b) key i there = by_lane i lane ((i ≡ lane) × (is_key key (Some b) ≡ true))
    (λ e. (e, same_key_equiv.symm key b ∙ in_cond (same_key b key) lane (subst (Contains (cond (same_key b key) (lane ∷ []) [])) e there)))
    (λ ne. absurd (not_in_cond (same_key b key) lane i ne there))

-- A lane without a session gets one: it takes the group that the session writes to, and the snapshot that it holds.
locked_taken : (old new : Locks) (s : Store) (lane : ℕ) (x : model.Session) (base : Option SnapshotKey) → lane < length s.sessions → IsSound s → IsSound (with_session s lane x) → session s lane ≡ model.none
    → ((group : GroupKey) → book.group_holder new group ≡ cond (writes_group group x) (Some lane) (book.group_holder old group))
    → ((key : SnapshotKey) → sharers new key ≡ sharers old key ++ sharing lane base key) → ((key : SnapshotKey) → holds_snapshot key x ≡ is_key key base)
    → Locked old s → Locked new (with_session s lane x)
locked_taken old new s lane x base lt sound sound_after idle groups shared holds h = record {
  groups = λ g.
      groups g ∙ ap (cond (writes_group g x) (Some lane)) (sym (nothing.groups g) ∙ ap (other_than lane) (h.groups g)) ∙ sym (holder_changed s lane x lt sound sound_after g);
  shared = λ key i. by_lane i lane (Contains (sharers new key) i ↔ (holds_snapshot key (session (with_session s lane x) i) ≡ true))
      (λ e. subst (λ j. Contains (sharers new key) j ↔ (holds_snapshot key (session (with_session s lane x) j) ≡ true)) (sym e) (here key))
      (λ ne. subst (λ y. Contains (sharers new key) i ↔ (holds_snapshot key y ≡ true)) (sym (session_other s lane x i ne)) (others key i ne));
}
  where
    nothing : HoldsNothing old lane
    nothing = idle_holds old s lane idle h

    by : (key : SnapshotKey) (i : ℕ) → Contains (sharers new key) i → Contains (sharers old key) i ⊎ Contains (sharing lane base key) i
    by key i there = Contains-append_cases (sharers old key) (sharing lane base key) i (subst (λ xs. Contains xs i) (shared key) there)

    holds_now : (key : SnapshotKey) → holds_snapshot key (session (with_session s lane x) lane) ≡ is_key key base
    holds_now key = ap (holds_snapshot key) (session_same s lane x lt) ∙ holds key

    here : (key : SnapshotKey) → Contains (sharers new key) lane ↔ (holds_snapshot key (session (with_session s lane x) lane) ≡ true)
    here key = (
      λ there. ⊎_elim (λ before. absurd (nothing.shared key before)) (λ now. holds_now key ∙ (sharing_by lane base key lane now).1) (by key lane there),
      λ is. subst (λ xs. Contains xs lane) (sym (shared key))
          (Contains-append_right (sharers old key) (sharing lane base key) lane (sharing_here lane base key (sym (holds_now key) ∙ is))),
    )

    others : (key : SnapshotKey) (i : ℕ) → i ≢ lane → Contains (sharers new key) i ↔ (holds_snapshot key (session s i) ≡ true)
    others key i ne = (
      λ there. ⊎_elim (λ before. (h.shared key i).0 before) (λ now. absurd (ne (sharing_by lane base key i now).0)) (by key i there),
      λ is. subst (λ xs. Contains xs i) (sym (shared key)) (Contains-append_left (sharers old key) (sharing lane base key) i ((h.shared key i).1 is)),
    )

-- a writer of a snapshot, with a base or without
pub locked_writer : (old new : Locks) (s : Store) (lane : ℕ) (w : model.Writer) → lane < length s.sessions → IsSound s → IsSound (with_session s lane (model.writer w)) → session s lane ≡ model.none
    → TakesWriter old new lane (group_of_key w.key) w.base → Locked old s → Locked new (with_session s lane (model.writer w))
locked_writer old new s lane w lt sound sound_after idle takes h =
    locked_taken old new s lane (model.writer w) w.base lt sound sound_after idle
    (λ group. takes.groups group ∙ ap (λ b. cond b (Some lane) (book.group_holder old group)) (same_group_equiv.symm (group_of_key w.key) group))
    (λ key. ap (λ claims. lanes_of key claims) takes.shared ∙ claimed key w.base) (λ key. refl) h
  where
    lanes_of : SnapshotKey → List (SnapshotKey × ℕ) → List ℕ
    lanes_of key claims = map (λ c. c.1) (filter (λ c. same_key c.0 key) claims)

    by_test : (b : Bool) (c : SnapshotKey × ℕ) → map (λ (d : SnapshotKey × ℕ). d.1) (cond b (c ∷ []) []) ≡ cond b (c.1 ∷ []) []
    by_test true c = refl
    by_test false c = refl

    claims_here : (key : SnapshotKey) (base : Option SnapshotKey) → lanes_of key (claims_of lane base) ≡ sharing lane base key
    claims_here key None = refl
    claims_here key (Some b) = by_test (same_key b key) (b, lane)

    claimed : (key : SnapshotKey) (base : Option SnapshotKey) → lanes_of key (old.shared ++ claims_of lane base) ≡ sharers old key ++ sharing lane base key
    claimed key base =
        ap (map (λ c. c.1)) (filter-append (λ c. same_key c.0 key) old.shared (claims_of lane base))
        ∙ map-append (λ c. c.1) (filter (λ c. same_key c.0 key) old.shared) (filter (λ c. same_key c.0 key) (claims_of lane base))
        ∙ ap (λ l. sharers old key ++ l) (claims_here key base)

-- a reader of one
pub locked_reader : (old new : Locks) (s : Store) (lane : ℕ) (r : model.Reader) → lane < length s.sessions → IsSound s → IsSound (with_session s lane (model.reader r)) → session s lane ≡ model.none
    → TakesShare old new lane r.key → Locked old s → Locked new (with_session s lane (model.reader r))
locked_reader old new s lane r lt sound sound_after idle takes h =
    locked_taken old new s lane (model.reader r) (Some r.key) lt sound sound_after idle (λ group. ap (lookup (same_group group)) takes.groups) takes.shared (λ key. refl) h

-- ---- a session less

pub locked_ended : (old new : Locks) (s : Store) (lane : ℕ) → lane < length s.sessions → IsSound s → IsSound (with_session s lane model.none) → Releases old new lane
    → Locked old s → Locked new (with_session s lane model.none)
locked_ended old new s lane lt sound sound_after releases h = record {
  groups = λ group. releases.groups group ∙ ap (other_than lane) (h.groups group) ∙ sym (holder_changed s lane model.none lt sound sound_after group);
  shared = λ key i. by_lane i lane (Contains (sharers new key) i ↔ (holds_snapshot key (session (with_session s lane model.none) i) ≡ true))
      (λ e. (
        λ there. absurd ((filtered lane (sharers old key) i (subst (λ xs. Contains xs i) (releases.shared key) there)).1 e),
        λ is. absurd (true_false (sym is ∙ ap (λ j. holds_snapshot key (session (with_session s lane model.none) j)) e ∙ ap (holds_snapshot key) (session_same s lane model.none lt))),
      ))
      (λ ne. (
        λ there. ap (holds_snapshot key) (session_other s lane model.none i ne) ∙ (h.shared key i).0 (filtered lane (sharers old key) i (subst (λ xs. Contains xs i) (releases.shared key) there)).0,
        λ is. subst (λ xs. Contains xs i) (sym (releases.shared key))
            (still_there lane (sharers old key) i ((h.shared key i).1 (sym (ap (holds_snapshot key) (session_other s lane model.none i ne)) ∙ is)) ne),
      ));
}

-- ---- a session that holds what the one before held

record SameClaims (x y : model.Session) : Type 0 where
  groups : (group : GroupKey) → writes_group group x ≡ writes_group group y
  shared : (key : SnapshotKey) → holds_snapshot key x ≡ holds_snapshot key y

locked_kept : (old new : Locks) (s : Store) (lane : ℕ) (x : model.Session) → lane < length s.sessions → new ≡ old → SameClaims x (session s lane) → Locked old s → Locked new (with_session s lane x)
locked_kept old new s lane x lt is same h = subst (λ locks. Locked locks (with_session s lane x)) (sym is) (record {
  groups = λ group. h.groups group ∙ sym (position-set (writes_group group) s.sessions lane x (same.groups group));
  shared = λ key i. (λ there. holds_after key i ∙ (h.shared key i).0 there, λ holds. (h.shared key i).1 (sym (holds_after key i) ∙ holds));
})
  where
    holds_after : (key : SnapshotKey) (i : ℕ) → holds_snapshot key (session (with_session s lane x) i) ≡ holds_snapshot key (session s i)
    holds_after key i = by_lane i lane (holds_snapshot key (session (with_session s lane x) i) ≡ holds_snapshot key (session s i))
        (λ e. ap (λ j. holds_snapshot key (session (with_session s lane x) j)) e ∙ ap (holds_snapshot key) (session_same s lane x lt) ∙ same.shared key ∙ ap (λ j. holds_snapshot key (session s j)) (sym e))
        (λ ne. ap (holds_snapshot key) (session_other s lane x i ne))

-- the lane's writer goes on as another of its snapshot, with the same base
pub locked_writes_on : (old new : Locks) (s : Store) (lane : ℕ) (v w : model.Writer) → lane < length s.sessions → new ≡ old → session s lane ≡ model.writer v → w.key ≡ v.key → w.base ≡ v.base
    → Locked old s → Locked new (with_session s lane (model.writer w))
locked_writes_on old new s lane v w lt is at key base h = locked_kept old new s lane (model.writer w) lt is (subst (SameClaims (model.writer w)) (sym at) (record {
  groups = λ group. ap (λ k. same_group group (group_of_key k)) key;
  shared = λ k. ap (is_key k) base;
})) h

-- its reader as another of its snapshot
pub locked_reads_on : (old new : Locks) (s : Store) (lane : ℕ) (q r : model.Reader) → lane < length s.sessions → new ≡ old → session s lane ≡ model.reader q → r.key ≡ q.key → Locked old s → Locked new (with_session s lane (model.reader r))
locked_reads_on old new s lane q r lt is at key h = locked_kept old new s lane (model.reader r) lt is (subst (SameClaims (model.reader r)) (sym at) (record { groups = λ group. refl; shared = λ k. ap (same_key k) key })) h

-- ---- no session

pub locked_none : (s : Store) → ((lane : ℕ) → session s lane ≡ model.none) → Locked no_locks s
locked_none s idle = record {
  groups = λ group. sym (no_first (writes_group group) s.sessions (λ i. ap (writes_group group) (idle i)));
  shared = λ key i. (λ there. let lt = there.1 in absurd (omega (arith, lt)), λ holds. absurd (true_false (sym holds ∙ ap (holds_snapshot key) (idle i))));
}

-- ---- a snapshot that is to be removed

module _ (locks : Locks) (s : Store) (key : SnapshotKey) (h : Locked locks s) where
  free_is : sharers locks key ≡ [] → snapshot_holder s key ≡ None
  free_is free = no_first (holds_snapshot key) s.sessions (λ i. false_from_ne_true (holds_snapshot key (session s i))
      (λ holds. let there : Contains [] i = subst (λ xs. Contains xs i) free ((h.shared key i).1 holds) in let lt = there.1 in absurd (omega (arith, lt))))

  least_is : (lane : ℕ) → Contains (sharers locks key) lane → All (λ i. lane ≤ i) (sharers locks key) → snapshot_holder s key ≡ Some lane
  least_is lane there least =
      let holds = (h.shared key lane).0 there in
      at_first (holds_snapshot key) s.sessions lane (within (holds_snapshot key) s.sessions lane refl holds) holds
      (λ i lt. false_from_ne_true (holds_snapshot key (session s i))
      (λ also. let le = All-contains (λ j. lane ≤ j) (sharers locks key) i least ((h.shared key i).1 also) in absurd (omega (arith, lt, le))))

  -- The answer on whether it may be removed is the plain store's: the least lane that holds it.
  pub removal_is : (answer : Result (Unit {0}) LaneHolds) → OnOk answer (sharers locks key ≡ []) → IfErr answer (λ e. Contains (sharers locks key) e.lane) → IfErr answer (λ e. All (λ i. e.lane ≤ i) (sharers locks key))
      → option_map (λ e. e.lane) (result_err answer) ≡ snapshot_holder s key
  removal_is (Ok u) free there least = sym (free_is free)
  removal_is (Err e) free there least = sym (least_is e.lane there least)
