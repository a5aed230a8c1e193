-- Snapshots stand in their order, each by its own key, and no running writer has a key that is there.
use Rattle.std.proofs.Common.{◌≡◌, ◌<◌, ◌≤◌, ◌⊎◌, ⊎_elim, inl, inr, ℕ, Bool, true, false, cond, if◌then◌else◌, not, List, [], ◌∷◌, filter, length, replicate, get_or, Some, None, refl, sym, ap, subst, ◌∙◌, true≢false, lt-ltb, arith}
use Rattle.std.specs.List.{All, position, position_or_len}
use Rattle.std.proofs.lemmas.Bool.{cases_lt}
use Rattle.std.proofs.lemmas.List.{get_or_past, get_or-replicate, length-replicate}
use Rattle.std.proofs.lemmas.List.Elements.{All-cons, All-filter, All-head, All-tail, All-weaker}
use Rattle.std.proofs.lemmas.List.Sums.{fails_before_first}
use Rattle.store_types.specs.declared.names.SnapshotKey.{SnapshotKey}
use Rattle.store_types.specs.Names.{same_key, key_lt, group_of_key}
use Rattle.store_types.proofs.OrderLaws.{same_keys, same_groups}
use Rattle.store_files.specs.Archive.{Snapshot}
use Rattle.store_model.specs.Stands.{keys_rise}
use Rattle.store_model.specs.Store.{Session, none, Writer, writer, Store, session, store_of, lane_count, writes_group, group_holder, snapshot_named, insert_snapshot}
use Rattle.store_model.specs.WriterSteps.{snapshot_of}
use Rattle.store_model.proofs.GroupTimes.{IsBefore, newer_than_all}
use Rattle.store_model.proofs.Insertions.{rise-insert}
use Rattle.snapshot_files.proofs.Removals.{rise-without}
use Rattle.store_history.proofs.Found.{each_named}
use Rattle.pbs_server.proofs.Changes.{HasWriter, IsNew, Snapshots, same, more, less, Changes}

-- no two snapshots have one key, no two lanes' writers have one, and no writer's is a snapshot's
pub record Orderly (s : Store) : Type 0 where
  pub order : keys_rise s.snapshots ≡ true
  pub newer : (i : ℕ) (w : Writer) → session s i ≡ writer w → All (λ y. same_key y.key w.key ≡ false) s.snapshots
  pub apart : (i j : ℕ) (v w : Writer) → session s i ≡ writer v → session s j ≡ writer w → v.key ≡ w.key → i ≡ j

-- ---- members

abbrev pub Among : Snapshot → List Snapshot → Type 0
Among x [] = ⊥
Among x (y ∷ ys) = (x ≡ y) ⊎ Among x ys

among_insert : (x new : Snapshot) (xs : List Snapshot) → Among x xs → Among x (insert_snapshot new xs)
among_insert x new [] at = absurd at
among_insert x new (y ∷ ys) at = by_test (key_lt new.key y.key) at (among_insert x new ys)
  where
    by_test : (b : Bool) → Among x (y ∷ ys) → (Among x ys → Among x (insert_snapshot new ys)) → Among x (if b then new ∷ y ∷ ys else y ∷ insert_snapshot new ys)
    by_test true at go = inr at
    by_test false (inl e) go = inl e
    by_test false (inr later) go = inr (go later)

pub among_new : (new : Snapshot) (xs : List Snapshot) → Among new (insert_snapshot new xs)
among_new new [] = inl refl
among_new new (y ∷ ys) = by_test (key_lt new.key y.key) (among_new new ys)
  where
    by_test : (b : Bool) → Among new (insert_snapshot new ys) → Among new (if b then new ∷ y ∷ ys else y ∷ insert_snapshot new ys)
    by_test true later = inl refl
    by_test false later = inr later

among_filter : (p : Snapshot → Bool) (x : Snapshot) (xs : List Snapshot) → Among x xs → p x ≡ true → Among x (filter p xs)
among_filter p x [] at passes = absurd at
among_filter p x (y ∷ ys) at passes = by_test (p y) refl at (λ later. among_filter p x ys later passes)
  where
    by_test : (b : Bool) → p y ≡ b → Among x (y ∷ ys) → (Among x ys → Among x (filter p ys)) → Among x (if b then y ∷ filter p ys else filter p ys)
    by_test true e (inl is) go = inl is
    by_test true e (inr later) go = inr (go later)
    by_test false e (inl is) go = absurd (true≢false (sym passes ∙ ap p is ∙ e))
    by_test false e (inr later) go = go later

All-insert : (P : Snapshot → Type 0) (new : Snapshot) (xs : List Snapshot) → P new → All P xs → All P (insert_snapshot new xs)
All-insert P new [] here each = All-cons P new [] here each
All-insert P new (y ∷ ys) here each = by_test (key_lt new.key y.key) (All-insert P new ys here (All-tail P y ys each))
  where
    by_test : (b : Bool) → All P (insert_snapshot new ys) → All P (if b then new ∷ y ∷ ys else y ∷ insert_snapshot new ys)
    by_test true later = All-cons P new (y ∷ ys) here each
    by_test false later = All-cons P y (insert_snapshot new ys) (All-head P y ys each) later

all_among : (P : Snapshot → Type 0) (xs : List Snapshot) (x : Snapshot) → All P xs → Among x xs → P x
all_among P [] x each at = absurd at
all_among P (y ∷ ys) x each (inl e) = subst P (sym e) (All-head P y ys each)
all_among P (y ∷ ys) x each (inr later) = all_among P ys x (All-tail P y ys each) later

-- where keys rise, it is the one of its key
pub named_among : (xs : List Snapshot) (x : Snapshot) → keys_rise xs ≡ true → Among x xs → snapshot_named x.key xs ≡ Some x
named_among xs x rise at = all_among (λ y. snapshot_named y.key xs ≡ Some y) xs x (each_named xs rise) at

pub among_named : (key : SnapshotKey) (xs : List Snapshot) (x : Snapshot) → snapshot_named key xs ≡ Some x → Among x xs
among_named key [] x e = cc
among_named key (y ∷ ys) x e = by_test (same_key y.key key) e (among_named key ys x)
  where
    same_some : Some y ≡ Some x → y ≡ x
    same_some e = cc

    by_test : (b : Bool) → cond b (Some y) (snapshot_named key ys) ≡ Some x → (snapshot_named key ys ≡ Some x → Among x ys) → Among x (y ∷ ys)
    by_test true e go = inl (sym (same_some e))
    by_test false e go = inr (go e)

-- ---- a new writer

none_passes : (p : Session → Bool) (xs : List Session) (i : ℕ) → position p xs ≡ None → i < length xs → p (get_or xs i none) ≡ false
none_passes p xs i free lt = ⊎_elim
    (λ within. absurd (some_none _ (sym (ap (λ b. cond b (Some (position_or_len p xs)) None) (lt-ltb (position_or_len p xs) (length xs) within)) ∙ free)))
    (λ past. fails_before_first p xs i none (omega (arith, past, lt)))
    (cases_lt (position_or_len p xs) (length xs))
  where
    some_none : (j : ℕ) → Some j ≡ None → ⊥
    some_none j e = cc

no_holder : (s : Store) (key : SnapshotKey) (i : ℕ) → group_holder s (group_of_key key) ≡ None → HasWriter s i key → ⊥
no_holder s key i free h =
    let group = group_of_key key in
    let writes : writes_group group (session s i) ≡ true =
    ap (writes_group group) h.1 ∙ (same_groups group (group_of_key (h.0).key)).1 (ap group_of_key (sym h.2)) in
    let off : writes_group group (session s i) ≡ false = ⊎_elim
    (λ within. none_passes (writes_group group) s.sessions i free within)
    (λ past. ap (writes_group group) (get_or_past s.sessions i none past))
    (cases_lt i (length s.sessions)) in
    true≢false (sym writes ∙ off)

-- its key is no snapshot's
new_differs : (s : Store) (key : SnapshotKey) → keys_rise s.snapshots ≡ true → IsNew s key → All (λ y. same_key y.key key ≡ false) s.snapshots
new_differs s key order new =
    All-weaker (IsBefore (group_of_key key) key.time) (λ y. same_key y.key key ≡ false) earlier s.snapshots (newer_than_all (group_of_key key) key.time s.snapshots order new.1)
  where
    earlier : (y : Snapshot) → IsBefore (group_of_key key) key.time y → same_key y.key key ≡ false
    earlier y before = by_test (same_key y.key key) refl
      where
        by_test : (b : Bool) → same_key y.key key ≡ b → b ≡ false
        by_test false e = refl
        by_test true e =
            let is : y.key ≡ key = (same_keys y.key key).0 e in
            let lt : (y.key).time < key.time = before ((same_groups (group_of_key y.key) (group_of_key key)).1 (ap group_of_key is)) in
            let time : (y.key).time ≡ key.time = ap (λ (k : SnapshotKey). k.time) is in
            absurd (omega (arith, lt, time))

-- ---- an act

module _ (Gone : SnapshotKey → Type 0) (s t : Store) (k : ℕ) (c : Changes Gone s t k) (h : Orderly s) where
  abbrev Came : ℕ → SnapshotKey → Type 0
  Came i key = HasWriter s i key ⊎ ((i ≡ k) × IsNew s key)

  -- a writer's key was no snapshot's
  differed : (i : ℕ) (key : SnapshotKey) → Came i key → All (λ y. same_key y.key key ≡ false) s.snapshots
  differed i key (inl v) = subst (λ x. All (λ y. same_key y.key x ≡ false) s.snapshots) v.2 (h.newer i v.0 v.1)
  differed i key (inr new) = new_differs s key h.order new.1

  -- nor is it that of another lane's writer
  alone : (i j : ℕ) (u v : SnapshotKey) → Came i u → Came j v → u ≡ v → i ≡ j
  alone i j u v (inl a) (inl b) e = h.apart i j a.0 b.0 a.1 b.1 (a.2 ∙ e ∙ sym b.2)
  alone i j u v (inl a) (inr b) e = absurd (no_holder s v i (b.1).0 (a.0, a.1, a.2 ∙ e))
  alone i j u v (inr a) (inl b) e = absurd (no_holder s u j (a.1).0 (b.0, b.1, b.2 ∙ sym e))
  alone i j u v (inr a) (inr b) e = a.0 ∙ sym b.0

  still_differs : (i : ℕ) (u : Writer) → session t i ≡ writer u → Snapshots Gone s t → All (λ y. same_key y.key u.key ≡ false) t.snapshots
  still_differs i u is (same as_was) = subst (All (λ y. same_key y.key u.key ≡ false)) (sym as_was) (differed i u.key (c.writers i u is))
  still_differs i u is (less key gone without) =
      subst (All (λ y. same_key y.key u.key ≡ false)) (sym without)
      (All-filter (λ y. not (same_key y.key key)) (λ y. same_key y.key u.key ≡ false) s.snapshots (differed i u.key (c.writers i u is)))
  still_differs i u is (more j v runs ended with) =
      subst (All (λ y. same_key y.key u.key ≡ false)) (sym with)
      (All-insert (λ y. same_key y.key u.key ≡ false) (snapshot_of v) s.snapshots (by_test (same_key v.key u.key) refl) (differed i u.key (c.writers i u is)))
    where
      by_test : (b : Bool) → same_key v.key u.key ≡ b → b ≡ false
      by_test false e = refl
      by_test true e =
          let here : i ≡ j = alone i j u.key v.key (c.writers i u is) (inl (v, runs, refl)) (sym ((same_keys v.key u.key).0 e)) in
          absurd (ended u (subst (λ n. session t n ≡ writer u) here is))

  rises : Snapshots Gone s t → keys_rise t.snapshots ≡ true
  rises (same as_was) = ap keys_rise as_was ∙ h.order
  rises (less key gone without) = ap keys_rise without ∙ rise-without key s.snapshots h.order
  rises (more j v runs ended with) = ap keys_rise with ∙ rise-insert (snapshot_of v) s.snapshots (h.newer j v runs) h.order

  pub orderly_after : Orderly t
  orderly_after = record {
    order = rises c.snapshots;
    newer = λ i u is. still_differs i u is c.snapshots;
    apart = λ i j u v a b e. alone i j u.key v.key (c.writers i u a) (c.writers j v b) e;
  }

  -- a snapshot that does not go is there still
  pub among_after : (x : Snapshot) → (Gone x.key → ⊥) → Among x s.snapshots → Among x t.snapshots
  among_after x stays at = by_snapshots c.snapshots
    where
      by_snapshots : Snapshots Gone s t → Among x t.snapshots
      by_snapshots (same as_was) = subst (Among x) (sym as_was) at
      by_snapshots (more j v runs ended with) = subst (Among x) (sym with) (among_insert x (snapshot_of v) s.snapshots at)
      by_snapshots (less key gone without) =
          subst (Among x) (sym without) (among_filter (λ y. not (same_key y.key key)) x s.snapshots at (by_test (same_key x.key key) refl))
        where
          by_test : (b : Bool) → same_key x.key key ≡ b → not b ≡ true
          by_test false e = refl
          by_test true e = absurd (stays (subst Gone (sym ((same_keys x.key key).0 e)) gone))

-- ---- as a store is opened

pub orderly_opened : (L : List Snapshot) → keys_rise L ≡ true → Orderly (store_of L)
orderly_opened L order = record {
  order = order;
  newer = λ i w is. absurd (no_writer i w is);
  apart = λ i j v w is also e. absurd (no_writer i v is);
}
  where
    none_writer : (w : Writer) → none ≡ writer w → ⊥
    none_writer w e = cc

    none_at : (i : ℕ) → session (store_of L) i ≡ none
    none_at i = elim (cases_lt i lane_count) [
      | inl lt ↦ get_or-replicate lane_count i none none lt
      | inr le ↦ get_or_past (replicate lane_count none) i none (subst (λ n. n ≤ i) (sym (length-replicate lane_count none)) le)
    ]

    no_writer : (i : ℕ) (w : Writer) → session (store_of L) i ≡ writer w → ⊥
    no_writer i w is = none_writer w (sym (none_at i) ∙ is)
