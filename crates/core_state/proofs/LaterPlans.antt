-- The plan of the open collector stays the sweep of the history with any act but the collector's own.
use Rattle.disk_trait.specs.declared.disk.Disk.{Ghosts}
use Rattle.std.proofs.Common.{◌≡◌, ◌≢◌, ◌<◌, ◌≤◌, ◌+◌, ⊎_elim, ℕ, zero, suc, Bool, true, false, not, ◌||◌, ◌==◌, cond, List, [], ◌∷◌, map, filter, length, length-append, Option, Some, None, refl, sym, ap, subst, ◌∙◌, arith}
use Rattle.std.specs.Prelude.{option_map, AllPairs, IsSomeAnd, slice_get}
use Rattle.std.specs.List.{All, find}
use Rattle.std.proofs.lemmas.List.Elements.{All-head, All-map, All-same, All-tail, All-weaker}
use Rattle.port_traits.specs.declared.clock.Clock as clocks
use Rattle.store_types.specs.declared.names.SnapshotKey.{SnapshotKey}
use Rattle.store_types.specs.declared.refusal.Refusal.{Refusal}
use Rattle.store_types.specs.Names.{key_of, same_key}
use Rattle.store_types.specs.KeyOrder.{same_key_equiv}
use Rattle.store_types.specs.declared.order.TheConstants.{START_KIND}
use Rattle.store_files.specs.Archive.{Snapshot}
use Rattle.wire_commands.specs.declared.command.Command.TheVariants.{Finish, Forget}
use Rattle.wire_commands.specs.declared.reply.Reply.{Reply}
use Rattle.wire_commands.specs.declared.reply.Reply.TheVariants as replies
use Rattle.store_model.specs.AdminSteps.{forget}
use Rattle.store_model.specs.Lanes.{Collecting}
use Rattle.store_model.specs.Steps.{answered, outcome}
use Rattle.store_model.specs.Store as model
use Rattle.store_model.specs.Store.{Outcome, insert_snapshot, session, without_snapshot}
use Rattle.store_model.specs.WriterSteps.{finish, snapshot_of}
use Rattle.store_model.specs.Done.{finished}
use Rattle.store_model.proofs.StandsLemmas.{different}
use Rattle.snapshot_files.proofs.Removals.{named-without}
use Rattle.gc_plan.specs.Plan.{Stage, marking, sweeping as visiting, index_in, next_index}
use Rattle.gc_plan.specs.declared.IndexAt.{IndexAt}
use Rattle.store_history.specs.declared.act.Act.{Act}
use Rattle.store_history.specs.declared.act.Act.TheVariants.{Plain}
use Rattle.store_history.specs.declared.act.Answer.{Answer}
use Rattle.store_history.specs.declared.act.Event.{Event}
use Rattle.store_history.specs.Acts.{Class, IsWellFormed, stepping, reaching, starting, sweeping, wanting, ending, class_of}
use Rattle.store_history.specs.History.{World, act_outcome, after, kind, kind_of, moved, opened, reply as reply_of}
use Rattle.store_history.specs.Legal.{Right}
use Rattle.store_history.specs.Sweeping.{Sweep, Swept, Unmarked, forgets, names_key, spared, swept_after, swept_by, while_open}
use Rattle.store_history.proofs.SweptLonger.{swept_longer}
use Rattle.core_state.specs.declared.collector.Collector.{Collector}
use Rattle.core_state.specs.declared.kept.Kept.{Kept}
use Rattle.core_state.specs.declared.kept.Listed.{Listed}
use Rattle.core_state.specs.declared.marked.MarkedPages.{MarkedPages}
use Rattle.core_state.specs.declared.state.Core.{Core}
use Rattle.core_state.specs.Answers.{IsAnswered}
use Rattle.core_state.specs.Applies.{ActKeeps}
use Rattle.core_state.specs.Catalogue.{closed, closed_by, forgotten_by, insert_listed, listed_by, listed_of, without_listed, without_named}
use Rattle.core_state.specs.Collectors.{OpenOn, closed_on, collector_by, cut_on, ended_if, open_in, shown_collecting, with_cut}
use Rattle.core_state.specs.Commands.{is_step}
use Rattle.core_state.specs.History.{History, StandsFor, event_of, then_event, world}
use Rattle.core_state.specs.Holds.{Shows}
use Rattle.core_state.specs.KeepsTouches.{KeepsTouches, swept_of}
use Rattle.core_state.specs.Kept.{kept_at}
use Rattle.core_state.specs.Numbers.{AreNumbered, DifferInNumber, first_number}
use Rattle.core_state.specs.Shown.{shown_session, shown_snapshot, shown_writer}
use Rattle.core_state.specs.Sweeps.{ArePages, HasNumber, HasPages, ShowsOpen, ShowsSweep, by_number, unmarked_by}
use Rattle.core_state.specs.Wanted.{session_at}
use Rattle.core_state.proofs.Commanding.{session_shown}
use Rattle.core_state.proofs.Completing.{FinishIs, fails as finish_fails, finish_is, gives as finish_gives}
use Rattle.core_state.proofs.Entered.{world_more}
use Rattle.core_state.proofs.OnDisk.{fresh}
use Rattle.core_state.proofs.Planned.{IsNewKey, keep_unless, kept_forgotten, kept_inserted, pages_as}
use Rattle.core_state.proofs.Plans.{IsSifted, finished_unmarked, forgotten_unmarked, shows_sifted}
use Rattle.core_state.proofs.Readers.{named_still}
use Rattle.core_state.proofs.Recovering.{last_right}
use Rattle.core_state.proofs.Removing.{ForgetIs, fails as forget_fails, forget_is, forgot, gives as forget_gives}
use Rattle.core_state.proofs.SameSnapshots.{moved_keeps, moves_manifest}
use Rattle.core_state.proofs.Unswept.{no_sweep}

some_same : {A : Type 0} (x y : A) → Some x ≡ Some y → x ≡ y
some_same x y e = cc

none_some : {A : Type 0} (x : A) → None ≡ Some x → ⊥
none_some x e = cc

-- ---- the collector

-- it was open before, with the same plan and the same pages at hand
pub record WasOpen (o : Option Collector) (y : Collector) : Type 0 where
  pub was : Collector
  pub there : o ≡ Some was
  pub plan : y.plan ≡ was.plan
  pub same_pages : y.pages ≡ was.pages

same_open : (x y : Collector) → Some x ≡ Some y → WasOpen (Some x) y
same_open x y e =
    let same = some_same x y e in
    record { was = x; there = refl; plan = sym (ap (λ (c : Collector). c.plan) same); same_pages = sym (ap (λ (c : Collector). c.pages) same) }

cut_open : (lane : ℕ) (o : Option Collector) (y : Collector) → cut_on lane o ≡ Some y → WasOpen o y
cut_open lane None y e = absurd (none_some y e)
cut_open lane (Some x) y e = by_test (x.lane == lane) e
  where
    by_test : (b : Bool) → cond b (Some (with_cut x)) (Some x) ≡ Some y → WasOpen (Some x) y
    by_test true e =
        let same = some_same (with_cut x) y e in
        record { was = x; there = refl; plan = sym (ap (λ (c : Collector). c.plan) same); same_pages = sym (ap (λ (c : Collector). c.pages) same) }
    by_test false e = same_open x y e

pub closed_open : (lane : ℕ) (o : Option Collector) (y : Collector) → closed_on lane o ≡ Some y → WasOpen o y
closed_open lane None y e = absurd (none_some y e)
closed_open lane (Some x) y e = by_test (x.lane == lane) e
  where
    by_test : (b : Bool) → cond b None (Some x) ≡ Some y → WasOpen (Some x) y
    by_test true e = absurd (none_some y e)
    by_test false e = same_open x y e

pub was_open : (k lane : ℕ) (o : Option Collector) (y : Collector) → collector_by k lane o ≡ Some y → WasOpen o y
was_open k lane o y is = by_kind (k == 2) ((k == 4) || (k == 6)) is
  where
    by_kind : (a b : Bool) → cond a (cut_on lane o) (cond b (closed_on lane o) o) ≡ Some y → WasOpen o y
    by_kind true b e = cut_open lane o y e
    by_kind false true e = closed_open lane o y e
    by_kind false false e = record { was = y; there = e; plan = refl; same_pages = refl }

-- ---- the sweep

-- no collector starts, and none of its acts is done
unstarted : (w : World) (s : Swept) (e : Event) (c : Class) (n : ℕ) → (c ≡ sweeping → ⊥) → (n ≡ 3 → ⊥) → swept_by w s e c (kind_of n) ≡ option_map (spared e.act (reply_of e)) s.sweep
unstarted w s e stepping n other none = refl
unstarted w s e reaching n other none = refl
unstarted w s e sweeping n other none = absurd (other refl)
unstarted w s e wanting n other none = refl
unstarted w s e ending n other none = refl
unstarted w s e starting zero other none = refl
unstarted w s e starting (suc zero) other none = refl
unstarted w s e starting (suc (suc zero)) other none = refl
unstarted w s e starting (suc (suc (suc zero))) other none = absurd (none refl)
unstarted w s e starting (suc (suc (suc (suc zero)))) other none = refl
unstarted w s e starting (suc (suc (suc (suc (suc zero))))) other none = refl
unstarted w s e starting (suc (suc (suc (suc (suc (suc zero)))))) other none = refl
unstarted w s e starting (suc (suc (suc (suc (suc (suc (suc zero))))))) other none = refl
unstarted w s e starting (suc (suc (suc (suc (suc (suc (suc (suc n)))))))) other none = refl

sweep_after : (R : Option (List Snapshot)) (w : World) (s : Swept) (e : Event) → (class_of e.act ≡ sweeping → ⊥) → (kind e ≡ START_KIND → ⊥)
    → (swept_after R w s e).sweep ≡ while_open (after R w e).collecting (option_map (spared e.act (reply_of e)) s.sweep)
unfolding swept_after
sweep_after R w s e other none = ap (while_open (after R w e).collecting) (unstarted w s e (class_of e.act) (kind e) other none)

pub none_open : (v : Option Collecting) → None ≡ shown_collecting v → v ≡ None
none_open None is = refl
none_open (Some v) is = let shown : OpenOn = record { lane = v.lane; ended = ended_if v.is_out_of_memory } in absurd (none_some shown is)

pub stays_open : (x : OpenOn) (v : Option Collecting) (sweep : Option Sweep) → Some x ≡ shown_collecting v → while_open v sweep ≡ sweep
stays_open x None sweep is = absurd (none_some x (sym is))
stays_open x (Some v) sweep is = refl

-- ---- catalogue and snapshots

-- What is left of each index is sifted by the test, and pages at hand stay its.
record Sifts (acts : ℕ) (c c2 : List Listed) (s s2 : List Snapshot) (p : Unmarked → Bool) : Type 0 where
  pub unmarked : (is : List IndexAt) → All (HasNumber acts) is → (stage : Stage) → unmarked_by c2 s2 is stage ≡ filter p (unmarked_by c s is stage)
  pub pages : (q : MarkedPages) (i : IndexAt) → HasNumber acts i → ArePages s i.name q (by_number i.snapshot c) → ArePages s2 i.name q (by_number i.snapshot c2)

filter_all : {A : Type 0} (p : A → Bool) → ((x : A) → p x ≡ true) → (xs : List A) → filter p xs ≡ xs
filter_all p all [] = refl
filter_all p all (x ∷ xs) = ap (λ b. cond b (x ∷ filter p xs) (filter p xs)) (all x) ∙ ap (λ ys. x ∷ ys) (filter_all p all xs)

filter_same : {A : Type 0} (p q : A → Bool) → ((x : A) → p x ≡ q x) → (xs : List A) → filter p xs ≡ filter q xs
filter_same p q same [] = refl
filter_same p q same (x ∷ xs) = ap (λ b. cond b (x ∷ filter p xs) (filter p xs)) (same x) ∙ ap (λ ys. cond (q x) (x ∷ ys) ys) (filter_same p q same xs)

found_numbered : (P : IndexAt → Type 0) (is : List IndexAt) (place : ℕ) (i : IndexAt) → All P is → slice_get is place ≡ Some i → P i
found_numbered P [] place i all at = absurd (none_some i at)
found_numbered P (x ∷ xs) zero i all at = subst P (some_same x i at) (All-head P x xs all)
found_numbered P (x ∷ xs) (suc n) i all at = found_numbered P xs n i (All-tail P x xs all) at

next_numbered : (P : IndexAt → Type 0) (is : List IndexAt) (stage : Stage) (i : IndexAt) → All P is → index_in is stage ≡ Some i → P i
next_numbered P is (marking place first) i all at = found_numbered P is place i all at
next_numbered P is (visiting names) i all at = absurd (none_some i at)

module _ (acts : ℕ) (c c2 : List Listed) (s s2 : List Snapshot) (p : Unmarked → Bool) where
  sifted_by : (x y : Collector) → y.plan ≡ x.plan → y.pages ≡ x.pages → All (HasNumber acts) (x.plan).indexes → Sifts acts c c2 s s2 p → IsSifted c c2 s s2 p x y
  sifted_by x y plan pages numbers f = record {
    plan = plan;
    same_pages = pages;
    unmarked = f.unmarked (x.plan).indexes numbers (x.plan).stage;
    pages = λ q. by_next q (next_index x.plan) refl;
  }
    where
      by_next : (q : MarkedPages) (o : Option IndexAt) → next_index x.plan ≡ o → HasPages c s q o → HasPages c2 s2 q o
      by_next q None at has = tt
      by_next q (Some i) at has = f.pages q i (next_numbered (HasNumber acts) (x.plan).indexes (x.plan).stage i numbers at) has

  -- both are as before
  sifts_all : c2 ≡ c → s2 ≡ s → ((u : Unmarked) → p u ≡ true) → Sifts acts c c2 s s2 p
  sifts_all listed snapshots all = record {
    unmarked = λ is numbers stage.
        ap (λ l. unmarked_by l s2 is stage) listed ∙ ap (λ l. unmarked_by c l is stage) snapshots ∙ sym (filter_all p all (unmarked_by c s is stage));
    pages = λ q i number has. subst (λ l. ArePages l i.name q (by_number i.snapshot c2)) (sym snapshots) (subst (λ l. ArePages s i.name q (by_number i.snapshot l)) (sym listed) has);
  }

-- one is forgotten
forgotten_as : (s : List Snapshot) (key : SnapshotKey) (name : List ℕ) (q : MarkedPages) (o : Option Kept) → ArePages s name q o → ArePages (without_snapshot key s) name q (keep_unless key o)
forgotten_as s key name q None has = tt
forgotten_as s key name q (Some k) has = by_test (same_key k.key key) refl
  where
    by_test : (g : Bool) → same_key k.key key ≡ g → ArePages (without_snapshot key s) name q (cond g None (Some k))
    by_test true gone = tt
    by_test false gone = pages_as name q k s (without_snapshot key s) (named-without key k.key s (same_key_equiv.symm key k.key ∙ gone)) has

sifts_forgotten : (acts : ℕ) (c : List Listed) (s : List Snapshot) (key : SnapshotKey) → AllPairs DifferInNumber c → Sifts acts c (without_listed key c) s (without_snapshot key s) (λ u. not (same_key u.key key))
sifts_forgotten acts c s key once = record {
  unmarked = λ is numbers stage. forgotten_unmarked c s key once is stage;
  pages = λ q i number has.
      subst (ArePages (without_snapshot key s) i.name q) (sym (kept_forgotten i.snapshot key c once)) (forgotten_as s key i.name q (by_number i.snapshot c) has);
}

-- one is finished
finished_as : (s : List Snapshot) (x : Snapshot) (name : List ℕ) (q : MarkedPages) (o : Option Kept) → ((k : Kept) → o ≡ Some k → same_key x.key k.key ≡ false)
    → ArePages s name q o → ArePages (insert_snapshot x s) name q o
finished_as s x name q None fresh has = tt
finished_as s x name q (Some k) fresh has = pages_as name q k s (insert_snapshot x s) (named_still k.key x s (fresh k refl)) has

sifts_finished : (acts : ℕ) (c : List Listed) (s : List Snapshot) (new : Listed) (x : Snapshot) (p : Unmarked → Bool) → acts < first_number → new.number ≡ acts → IsNewKey c s new x
    → ((u : Unmarked) → p u ≡ true) → Sifts acts c (insert_listed new c) s (insert_snapshot x s) p
sifts_finished acts c s new x p few at key all = record {
  unmarked = λ is numbers stage.
      finished_unmarked acts c s new x key is (All-weaker (HasNumber acts) (λ (i : IndexAt). new.number ≢ i.snapshot) unused is numbers) stage ∙ sym (filter_all p all (unmarked_by c s is stage));
  pages = λ q i number has.
      subst (ArePages (insert_snapshot x s) i.name q) (sym (kept_inserted i.snapshot new c (unused i number)))
      (finished_as s x i.name q (by_number i.snapshot c) (λ k is. key i.snapshot k is) has);
}
  where
    unused : (i : IndexAt) → HasNumber acts i → new.number ≢ i.snapshot
    unused i has e =
        ⊎_elim {C = ⊥} (λ (lt : i.snapshot < acts). omega (arith, lt, e, at)) (λ (found : first_number ≤ i.snapshot). omega (arith, found, e, at, few)) has

-- its key is that of none in the catalogue
kept_passes : (P : Kept → Type 0) (c : List Listed) (number : ℕ) (k : Kept) → All P (map (λ x. x.kept) c) → by_number number c ≡ Some k → P k
kept_passes P [] number k all at = absurd (none_some k at)
kept_passes P (x ∷ xs) number k all at = by_test (x.number == number) (kept_passes P xs number k (All-tail P x.kept (map (λ y. y.kept) xs) all)) at
  where
    by_test : (b : Bool) → (by_number number xs ≡ Some k → P k) → option_map (λ y. y.kept) (cond b (Some x) (find (λ y. y.number == number) xs)) ≡ Some k → P k
    by_test true later e = subst P (some_same x.kept k e) (All-head P x.kept (map (λ y. y.kept) xs) all)
    by_test false later e = later e

-- ---- an act

-- what came of a FINISH or of a FORGET
data Came (R : Option (List Snapshot)) (w : World) (k m : ℕ) (a : Act) (r : Option Reply) (n : ℕ) : Type 0 where
  says : r ≡ Some (answered w.store (act_outcome R w k m a)).1 → (moved R w k m a (kind_of n)).store ≡ (answered w.store (act_outcome R w k m a)).0 → Came R w k m a r n
  refuses : (refusal : Refusal) → r ≡ Some (replies.Refused refusal) → (moved R w k m a (kind_of n)).store ≡ w.store → Came R w k m a r n

came : (R : Option (List Snapshot)) (w : World) (k m : ℕ) (a : Act) (r : Option Reply) (n : ℕ) → Right R w k m a r stepping (kind_of n) → Came R w k m a r n
unfolding moved
came R w k m a r zero right = says right.1 refl
came R w k m a r (suc zero) right = absurd right
came R w k m a r (suc (suc zero)) right = refuses _ right.0 refl
came R w k m a r (suc (suc (suc zero))) right = absurd right
came R w k m a r (suc (suc (suc (suc zero)))) right = absurd right
came R w k m a r (suc (suc (suc (suc (suc zero))))) right = refuses _ right refl
came R w k m a r (suc (suc (suc (suc (suc (suc zero)))))) right = absurd right
came R w k m a r (suc (suc (suc (suc (suc (suc (suc zero))))))) right = absurd right
came R w k m a r (suc (suc (suc (suc (suc (suc (suc (suc n)))))))) right = absurd right

-- the indexes that an act with this reply leaves to be marked
abbrev spares : Act → Option Reply → Unmarked → Bool
spares act r u = not (forgets act r u.key)

module _ {D E C : Type 0} (d : Ghosts D) (clock : clocks.Ghosts C) (old new : Core D E C) (answer : Answer) (h : History) where
  abbrev k : ℕ
  k = (answer.entry).lane

  abbrev w : World
  w = world h

  abbrev m : ℕ
  m = (answer.entry).moment

  abbrev n : ℕ
  n = (answer.entry).kind

  abbrev acts : ℕ
  acts = length (old.journal).entries.items

  abbrev c : List Listed
  c = (old.parts).catalogue.listed

  abbrev snapshots : List Snapshot
  snapshots = (w.store).snapshots

  abbrev e : Act → Event
  e act = event_of act answer (d.calls (new.parts).disk)

  abbrev next : Act → List Snapshot
  next act = ((world (then_event h (e act))).store).snapshots

  -- what is known of the act
  record IsKnown (act : Act) : Type 0 where
    pub inside : (answer.entry).lane < 64
    pub formed : IsWellFormed act
    pub listed : (new.parts).catalogue.listed ≡ listed_by act answer.reply acts (kept_at old.parts k)
    pub shows : Shows old.parts w.store
    pub right : Right h.remote w k m act answer.reply (class_of act) (kind_of n)
    pub numbers : AreNumbered acts c

  abbrev Sifted : Act → Type 0
  Sifted act = Sifts acts c (new.parts).catalogue.listed snapshots (next act) (spares act answer.reply)

  next_is : (act : Act) → next act ≡ ((moved h.remote w k m act (kind_of n)).store).snapshots
  unfolding after
  next_is act = ap (λ (v : World). (v.store).snapshots) (world_more h (e act))

  few : acts < first_number
  few = omega (arith, (old.journal).entries.ok.0, (old.journal).entries.ok.1, (old.journal).entries.small)

  -- ---- neither a FINISH nor a FORGET

  others : (act : Act) → IsKnown act → moves_manifest act ≡ false → listed_by act answer.reply acts (kept_at old.parts k) ≡ c
      → ((u : Unmarked) → spares act answer.reply u ≡ true) → Sifted act
  others act f off none all =
      sifts_all acts c (new.parts).catalogue.listed snapshots (next act) (spares act answer.reply) (f.listed ∙ none) (next_is act ∙ moved_keeps h.remote w k m act (kind_of n) f.formed off) all

  -- ---- a FINISH

  abbrev fin : Act
  fin = Plain Finish

  unfinished : IsKnown fin → (r : Refusal) → answer.reply ≡ Some (replies.Refused r) → (moved h.remote w k m fin (kind_of n)).store ≡ w.store → Sifted fin
  unfinished f r told store =
      sifts_all acts c (new.parts).catalogue.listed snapshots (next fin) (spares fin answer.reply)
      (f.listed ∙ ap (λ o. closed_by o acts (session_at old.parts k) c) told) (next_is fin ∙ ap (λ (v : model.Store). v.snapshots) store) (λ u. refl)

  finish_out : act_outcome h.remote w k m fin ≡ finish w.store k
  unfolding act_outcome outcome
  finish_out = refl

  finished_now : IsKnown fin → (v : model.Writer) → session w.store k ≡ model.writer v → answer.reply ≡ Some replies.Done
      → (moved h.remote w k m fin (kind_of n)).store ≡ finished w.store k v → Sifted fin
  finished_now f v at told store =
      let sound = (f.shows).sound in
      let was = session_shown old.parts w.store k f.shows f.inside ∙ ap (shown_session snapshots) at in
      let added : Listed = listed_of acts (shown_writer v) in
      let listed : (new.parts).catalogue.listed ≡ insert_listed added c = f.listed ∙ ap (λ o. closed_by o acts (session_at old.parts k) c) told ∙ ap (λ x. closed acts x c) was in
      let then_is : next fin ≡ insert_snapshot (snapshot_of v) snapshots = next_is fin ∙ ap (λ (x : model.Store). x.snapshots) store in
      let apart : All (λ (q : Kept). q.key ≢ v.key) (map (λ x. x.kept) c) =
      All-same (λ (q : Kept). q.key ≢ v.key) (map (λ x. x.kept) c) (map shown_snapshot snapshots) (f.shows).catalogue
      (All-map (λ (q : Kept). q.key ≢ v.key) shown_snapshot snapshots (fresh snapshots v (sound.writers k v at))) in
      let key : IsNewKey c snapshots added (snapshot_of v) =
      λ number q is. different v.key q.key (λ same. kept_passes (λ (z : Kept). z.key ≢ v.key) c number q apart is (sym same)) in
      subst (λ l. Sifts acts c l snapshots (next fin) (spares fin answer.reply)) (sym listed)
      (subst (λ l. Sifts acts c (insert_listed added c) snapshots l (spares fin answer.reply)) (sym then_is)
      (sifts_finished acts c snapshots added (snapshot_of v) (spares fin answer.reply) few refl key (λ u. refl)))

  by_finish : IsKnown fin → FinishIs w.store k → Came h.remote w k m fin answer.reply n → Sifted fin
  by_finish f step (refuses r told store) = unfinished f r told store
  by_finish f (finish_fails r is) (says told store) =
      unfinished f r (told ∙ ap (λ (o : Outcome). Some (answered w.store o).1) (finish_out ∙ is)) (store ∙ ap (λ (o : Outcome). (answered w.store o).0) (finish_out ∙ is))
  by_finish f (finish_gives v x at check is) (says told store) =
      finished_now f v at (told ∙ ap (λ (o : Outcome). Some (answered w.store o).1) (finish_out ∙ is)) (store ∙ ap (λ (o : Outcome). (answered w.store o).0) (finish_out ∙ is))

  -- ---- a FORGET

  module _ (text : List ℕ) (f : IsKnown (Plain (Forget text))) where
    abbrev gone : Act
    gone = Plain (Forget text)

    forget_out : act_outcome h.remote w k m gone ≡ forget w.store k text
    unfolding act_outcome outcome
    forget_out = refl

    unforgotten : (r : Refusal) → answer.reply ≡ Some (replies.Refused r) → (moved h.remote w k m gone (kind_of n)).store ≡ w.store → Sifted gone
    unforgotten r told store =
        sifts_all acts c (new.parts).catalogue.listed snapshots (next gone) (spares gone answer.reply)
        (f.listed ∙ ap (λ o. forgotten_by text o c) told) (next_is gone ∙ ap (λ (v : model.Store). v.snapshots) store) (λ u. ap (λ o. spares gone o u) told)

    forgotten_now : (key : SnapshotKey) → key_of text ≡ Some key → answer.reply ≡ Some replies.Done → (moved h.remote w k m gone (kind_of n)).store ≡ forgot w.store key → Sifted gone
    forgotten_now key named told store =
        let listed : (new.parts).catalogue.listed ≡ without_listed key c = f.listed ∙ ap (λ o. forgotten_by text o c) told ∙ ap (λ o. without_named o c) named in
        let then_is : next gone ≡ without_snapshot key snapshots = next_is gone ∙ ap (λ (v : model.Store). v.snapshots) store in
        let test : (u : Unmarked) → not (same_key u.key key) ≡ spares gone answer.reply u =
        λ u. sym (ap (λ o. spares gone o u) told ∙ ap (λ o. not (names_key o u.key)) named) in
        let its = sifts_forgotten acts c snapshots key (f.numbers).once in
        subst (λ l. Sifts acts c l snapshots (next gone) (spares gone answer.reply)) (sym listed)
        (subst (λ l. Sifts acts c (without_listed key c) snapshots l (spares gone answer.reply)) (sym then_is)
        (record {
          unmarked = λ is numbers stage. its.unmarked is numbers stage ∙ filter_same (λ (u : Unmarked). not (same_key u.key key)) (spares gone answer.reply) test (unmarked_by c snapshots is stage);
          pages = its.pages;
        }))

    by_forget : ForgetIs w.store k text → Came h.remote w k m gone answer.reply n → Sifted gone
    by_forget step (refuses r told store) = unforgotten r told store
    by_forget (forget_fails r is) (says told store) =
        unforgotten r (told ∙ ap (λ (o : Outcome). Some (answered w.store o).1) (forget_out ∙ is)) (store ∙ ap (λ (o : Outcome). (answered w.store o).0) (forget_out ∙ is))
    by_forget (forget_gives key x named there is) (says told store) =
        forgotten_now key named (told ∙ ap (λ (o : Outcome). Some (answered w.store o).1) (forget_out ∙ is)) (store ∙ ap (λ (o : Outcome). (answered w.store o).0) (forget_out ∙ is))

  sifts : (act : Act) → IsKnown act → Sifted act
  sifts (Plain Finish) f = by_finish f (finish_is w.store k) (came h.remote w k m fin answer.reply n f.right)
  sifts (Plain (Forget text)) f = by_forget text f (forget_is w.store k text) (came h.remote w k m (Plain (Forget text)) answer.reply n f.right)
  sifts act f = others act f refl refl (λ u. refl)

pub plans_more : {D E C : Type 0} (d : Ghosts D) (clock : clocks.Ghosts C) (old new : Core D E C) (lane : ℕ) (act : Act) (answer : Answer) (h : History) → lane < 64 → IsWellFormed act
    → IsAnswered d old new lane answer → ActKeeps d old new lane act answer → is_step act ≡ false → new.collector ≡ collector_by (answer.entry).kind lane old.collector
    → ((answer.entry).kind ≡ START_KIND → ⊥) → StandsFor d clock.readings old h → StandsFor d clock.readings new (then_event h (event_of act answer (d.calls (new.parts).disk))) → KeepsTouches d old h
    → ShowsOpen (length (new.journal).entries.items) (new.parts).catalogue.listed (world (then_event h (event_of act answer (d.calls (new.parts).disk)))).store.snapshots new.collector
    (swept_of (then_event h (event_of act answer (d.calls (new.parts).disk)))).sweep
plans_more d clock old new lane act answer h lt formed answers keeps unstepped collector opens_none s so touches = by_open new.collector refl
  where
    e : Event
    e = event_of act answer (d.calls (new.parts).disk)

    was : ℕ
    was = length (old.journal).entries.items

    c : List Listed
    c = (old.parts).catalogue.listed

    c2 : List Listed
    c2 = (new.parts).catalogue.listed

    first : List Snapshot
    first = ((world h).store).snapshots

    then_has : List Snapshot
    then_has = ((world (then_event h e)).store).snapshots

    count : length (new.journal).entries.items ≡ was + 1
    count = let n = ap length answers.entries in omega (arith, n, length-append (old.journal).entries.items (answer.entry ∷ []))

    later : (swept_of (then_event h e)).sweep ≡ while_open (world (then_event h e)).collecting (option_map (spared act answer.reply) (swept_of h).sweep)
    later = ap (λ (v : Swept). v.sweep) (swept_longer h.remote h.opening h.events e) ∙ sweep_after h.remote (world h) (swept_of h) e (no_sweep act unstepped) opens_none
        ∙ sym (ap (λ (v : World). while_open v.collecting (option_map (spared act answer.reply) (swept_of h).sweep)) (world_more h e))

    listed : c2 ≡ listed_by act answer.reply was (kept_at old.parts (answer.entry).lane)
    listed = keeps.listed ∙ ap (λ n. listed_by act answer.reply n (kept_at old.parts lane)) answers.place
        ∙ sym (ap (λ l. listed_by act answer.reply was (kept_at old.parts l)) answers.lane_is)

    its : Sifts was c c2 first then_has (spares act answer.reply)
    its = sifts d clock old new answer h act (record {
      inside = subst (λ l. l < 64) (sym answers.lane_is) lt;
      formed = formed;
      listed = listed;
      shows = s.shows;
      right = (last_right h.remote (opened h.opening) h.events e so.legal).says;
      numbers = touches.numbers;
    })

    Shown : Option Collector → Type 0
    Shown o = ShowsOpen (length (new.journal).entries.items) c2 then_has o (swept_of (then_event h e)).sweep

    by_sweep : (x y : Collector) → new.collector ≡ Some y → y.plan ≡ x.plan → y.pages ≡ x.pages → (o : Option Sweep) → (swept_of h).sweep ≡ o → IsSomeAnd o (ShowsSweep was c first x) → Shown (Some y)
    by_sweep x y is plan pages None at shows = absurd shows
    by_sweep x y is plan pages (Some sweep) at shows =
        let sweeps = later ∙ stays_open (record { lane = y.lane; ended = y.ended }) (world (then_event h e)).collecting (option_map (spared act answer.reply) (swept_of h).sweep) (sym (ap open_in is) ∙ so.collecting)
        ∙ ap (option_map (spared act answer.reply)) at in
        subst (λ o. ShowsOpen (length (new.journal).entries.items) c2 then_has (Some y) o) (sym sweeps)
        (subst (λ n. ShowsSweep n c2 then_has y (spared act answer.reply sweep)) (sym count)
        (shows_sifted was c c2 first then_has (spares act answer.reply) x y sweep (sifted_by was c c2 first then_has (spares act answer.reply) x y plan pages shows.numbers its) shows))

    by_open : (o : Option Collector) → new.collector ≡ o → Shown o
    by_open None is =
        later ∙ ap (λ v. while_open v (option_map (spared act answer.reply) (swept_of h).sweep)) (none_open (world (then_event h e)).collecting (sym (ap open_in is) ∙ so.collecting))
    by_open (Some y) is =
        let x = was_open (answer.entry).kind lane old.collector y (sym collector ∙ is) in
        by_sweep x.was y is x.plan x.same_pages (swept_of h).sweep refl
        (subst (λ o. ShowsOpen was c first o (swept_of h).sweep) x.there touches.sweep)
