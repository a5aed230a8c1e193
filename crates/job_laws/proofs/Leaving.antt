-- While a lane has a reader of a snapshot, others leave it its session, and the snapshot under its key.
use Rattle.std.proofs.Common.{◌≡◌, inl, inr, ⊎_elim, ℕ, ◌<◌, Bool, false, cond, not, List, [], ◌∷◌, length, get_or, Some, None, refl, sym, ap, subst, ◌∙◌, arith, lt-ltb}
use Rattle.std.specs.List.{All, fold, position, position_or_len}
use Rattle.std.proofs.lemmas.Bool.{cases_lt}
use Rattle.std.proofs.lemmas.List.{get_or_past}
use Rattle.std.proofs.lemmas.List.Elements.{All-head, All-tail}
use Rattle.std.proofs.lemmas.List.Sums.{fails_before_first}
use Rattle.store_types.specs.declared.names.SnapshotKey.{SnapshotKey}
use Rattle.store_types.specs.Names.{same_key}
use Rattle.store_types.specs.KeyOrder.{same_key_equiv}
use Rattle.store_files.specs.Archive.{Snapshot}
use Rattle.store_model.specs.declared.step.Step.{Step}
use Rattle.store_model.specs.declared.step.Step.TheVariants as steps
use Rattle.store_model.specs.JobSteps.{step_outcome}
use Rattle.store_model.specs.Steps.{answered}
use Rattle.store_model.specs.Store.{none, Reader, reader, Store, session, holds_snapshot, snapshot_holder, snapshot_named}
use Rattle.store_history.specs.declared.act.Act.TheVariants as acts
use Rattle.store_history.specs.History.{World, step_kind, act_outcome, moved}
use Rattle.store_history.proofs.Apart.{moved_apart}
use Rattle.job_laws.specs.Others.{Request, stepped, OthersLeaveReaders}
use Rattle.job_laws.specs.Verifies.{Meanwhile}
use Rattle.job_laws.proofs.Ordered.{Ordered, Found, rise_ordered, ordered_insert, ordered_filter, found_insert, found_without}
use Rattle.job_laws.proofs.Changes.{Lists, Changes, step_changes}

-- ---- what a session holds

none_passes : {X : Type 0} (p : X → Bool) (xs : List X) (i : ℕ) (d : X) → position p xs ≡ None → i < length xs → p (get_or xs i d) ≡ false
none_passes p xs i d free lt = ⊎_elim
    (λ within. absurd (some_none _ (sym (ap (λ b. cond b (Some (position_or_len p xs)) None) (lt-ltb (position_or_len p xs) (length xs) within)) ∙ free)))
    (λ past. fails_before_first p xs i d (omega (arith, past, lt)))
    (cases_lt (position_or_len p xs) (length xs))
  where
    some_none : (i : ℕ) → Some i ≡ None → ⊥
    some_none i e = cc

-- no lane holds it
not_held : (s : Store) (key : SnapshotKey) (k : ℕ) → snapshot_holder s key ≡ None → holds_snapshot key (session s k) ≡ false
not_held s key k free = ⊎_elim
    (λ within. none_passes (holds_snapshot key) s.sessions k none free within)
    (λ past. ap (holds_snapshot key) (get_or_past s.sessions k none past))
    (cases_lt k (length s.sessions))

-- ---- a list with the snapshot of a reader

pub ordered_on : (s : Store) (xs : List Snapshot) → Ordered s.snapshots → Lists s xs → Ordered xs
ordered_on s xs h (inl is) = subst Ordered (sym is) h
ordered_on s xs h (inr (inl (new, is))) = subst Ordered (sym is) (ordered_insert new s.snapshots h)
ordered_on s xs h (inr (inr (key, free, is))) = subst Ordered (sym is) (ordered_filter (λ y. not (same_key y.key key)) s.snapshots h)

module _ (x : Snapshot) (k : ℕ) where
  -- the lane reads it
  pub record Reads (s : Store) : Type 0 where
    pub order : Ordered s.snapshots
    pub there : snapshot_named x.key s.snapshots ≡ Some x
    pub own : Reader
    pub reads : session s k ≡ reader own
    pub its : own.key ≡ x.key

  other_key : (s : Store) → Reads s → (key : SnapshotKey) → snapshot_holder s key ≡ None → same_key x.key key ≡ false
  other_key s h key free =
      same_key_equiv.symm x.key key ∙ ap (same_key key) (sym h.its) ∙ ap (holds_snapshot key) (sym h.reads) ∙ not_held s key k free

  found_on : (s : Store) (xs : List Snapshot) → Reads s → Lists s xs → Found x xs
  found_on s xs h (inl is) = subst (Found x) (sym is) h.there
  found_on s xs h (inr (inl (new, is))) = subst (Found x) (sym is) (found_insert x new s.snapshots h.order h.there)
  found_on s xs h (inr (inr (key, free, is))) = subst (Found x) (sym is) (found_without x key s.snapshots (other_key s h key free) h.there)

  -- where its session is as before, it reads on
  pub reads_on : (s t : Store) → Changes s t → session t k ≡ session s k → Reads s → Reads t
  reads_on s t change same h = record {
    order = ordered_on s t.snapshots h.order change.lists;
    there = found_on s t.snapshots h change.lists;
    own = h.own;
    reads = same ∙ h.reads;
    its = h.its;
  }

  -- ---- steps of other lanes

  abbrev world_of : Store → World
  world_of s = record { store = s; collecting = None; fault = None; events = 0; moment = 0; calls = 0 }

  step_apart : (s : Store) (j m : ℕ) (a : Step) → (k ≡ j → ⊥) → session (answered s (step_outcome s j m a)).0 k ≡ session s k
  unfolding moved act_outcome
  step_apart s j m (steps.Command c) ne = moved_apart None (world_of s) j m k (acts.Plain c) step_kind ne
  step_apart s j m (steps.ReadFile name offset) ne = moved_apart None (world_of s) j m k (acts.ReadFile name offset) step_kind ne
  step_apart s j m (steps.ReadChunk name entry) ne = moved_apart None (world_of s) j m k (acts.ReadChunk name entry) step_kind ne

  pub meanwhile_on : (s t u : Store) → Changes t u → session u k ≡ session t k → Reads t → Meanwhile x k s t → Meanwhile x k s u
  meanwhile_on s t u change same h between = record {
    own = same ∙ between.own;
    lanes = change.lanes ∙ between.lanes;
    there = (reads_on t u change same h).there;
  }

  all_leave : (s t : Store) (requests : List Request) → Reads t → Meanwhile x k s t → All (λ a. a.lane ≡ k → ⊥) requests → Meanwhile x k s (fold stepped t requests)
  all_leave s t [] h between others = between
  all_leave s t (a ∷ later) h between others =
      let change = step_changes t a.lane a.moment a.step in
      let same = step_apart t a.lane a.moment a.step (λ e. All-head (λ b. b.lane ≡ k → ⊥) a later others (sym e)) in
      let u = stepped t a in
      all_leave s u later (reads_on t u change same h) (meanwhile_on s t u change same h between) (All-tail (λ b. b.lane ≡ k → ⊥) a later others)

pub others_leave_readers : OthersLeaveReaders
others_leave_readers x k r s requests rise reads its there others =
    all_leave x k s s requests (record { order = rise_ordered s.snapshots rise; there = there; own = r; reads = reads; its = its })
    (record { own = refl; lanes = refl; there = there }) others
