-- The open collector shows the sweep of a history that is longer by one event, which is none of a collector's acts.
use Rattle.std.proofs.Common.{◌≡◌, ◌≢◌, ◌<◌, ◌+◌, ⊎_elim, inl, inr, ℕ, Bool, not, List, drop, filter, Option, Some, None, IfSome, refl, sym, ap, subst, ◌∙◌, arith}
use Rattle.std.specs.List.{All}
use Rattle.std.specs.Prelude.{AllPairs}
use Rattle.std.proofs.lemmas.List.Elements.{All-drop, All-weaker}
use Rattle.store_types.specs.declared.names.SnapshotKey.{SnapshotKey}
use Rattle.store_types.specs.Names.{same_key}
use Rattle.store_files.specs.Archive.{Snapshot}
use Rattle.store_model.specs.Store.{insert_snapshot, without_snapshot}
use Rattle.gc_plan.specs.Plan.{Stage, marking, sweeping, next_index}
use Rattle.gc_plan.specs.declared.IndexAt.{IndexAt}
use Rattle.store_history.specs.Sweeping.{Sweep, Unmarked}
use Rattle.core_state.specs.declared.collector.Collector.{Collector}
use Rattle.core_state.specs.declared.kept.Listed.{Listed}
use Rattle.core_state.specs.declared.marked.MarkedPages.{MarkedPages}
use Rattle.core_state.specs.Catalogue.{insert_listed, without_listed}
use Rattle.core_state.specs.Numbers.{DifferInNumber}
use Rattle.core_state.specs.Sweeps.{FitsRemoved, HasNumber, HasPages, ShowsSweep, left_at, unmarked_by, visits_by}
use Rattle.core_state.proofs.Planned.{IsNewKey, finished_left, filtered_left, forgotten_left, same_left}

-- with the indexes that pass the test alone
abbrev pub sifted : (Unmarked → Bool) → Sweep → Sweep
sifted p sweep = record sweep { unmarked = filter p sweep.unmarked }

pub numbers_later : (acts : ℕ) (is : List IndexAt) → All (HasNumber acts) is → All (HasNumber (acts + 1)) is
numbers_later acts is all = All-weaker (HasNumber acts) (HasNumber (acts + 1))
    (λ i has. ⊎_elim {C = HasNumber (acts + 1) i} (λ (lt : i.snapshot < acts). inl (omega (arith, lt))) (λ found. inr found) has) is all

-- the plan and the pages at hand are as before, and what is unmarked is sifted
pub record IsSifted (c c2 : List Listed) (s s2 : List Snapshot) (p : Unmarked → Bool) (x y : Collector) : Type 0 where
  pub plan : y.plan ≡ x.plan
  pub same_pages : y.pages ≡ x.pages
  pub unmarked : unmarked_by c2 s2 (x.plan).indexes (x.plan).stage ≡ filter p (unmarked_by c s (x.plan).indexes (x.plan).stage)
  pub pages : (q : MarkedPages) → HasPages c s q (next_index x.plan) → HasPages c2 s2 q (next_index x.plan)

pub shows_sifted : (acts : ℕ) (c c2 : List Listed) (s s2 : List Snapshot) (p : Unmarked → Bool) (x y : Collector) (sweep : Sweep)
    → IsSifted c c2 s s2 p x y → ShowsSweep acts c s x sweep → ShowsSweep (acts + 1) c2 s2 y (sifted p sweep)
shows_sifted acts c c2 s s2 p x y sweep is h = record {
  start = ap (λ g. g.start) is.plan ∙ h.start;
  cutoff = ap (λ g. g.cutoff) is.plan ∙ h.cutoff;
  unmarked = ap (λ g. unmarked_by c2 s2 g.indexes g.stage) is.plan ∙ is.unmarked ∙ ap (filter p) h.unmarked;
  to_visit = ap (λ g. visits_by g.stage) is.plan ∙ h.to_visit;
  removed = ap (λ g. g.removed) is.plan ∙ h.removed;
  few = subst (λ g. FitsRemoved g.stage g.removed) (sym is.plan) h.few;
  pages = subst (λ o. IfSome o (λ q. HasPages c2 s2 q (next_index y.plan))) (sym is.same_pages)
      (subst (λ g. IfSome x.pages (λ q. HasPages c2 s2 q (next_index g))) (sym is.plan) (each x.pages h.pages));
  numbers = subst (λ g. All (HasNumber (acts + 1)) g.indexes) (sym is.plan) (numbers_later acts (x.plan).indexes h.numbers);
}
  where
    each : (o : Option MarkedPages) → IfSome o (λ q. HasPages c s q (next_index x.plan)) → IfSome o (λ q. HasPages c2 s2 q (next_index x.plan))
    each None has = tt
    each (Some q) has = is.pages q has

-- ---- a snapshot is forgotten

pub forgotten_unmarked : (c : List Listed) (s : List Snapshot) (key : SnapshotKey) → AllPairs DifferInNumber c
    → (indexes : List IndexAt) (stage : Stage)
    → unmarked_by (without_listed key c) (without_snapshot key s) indexes stage ≡ filter (λ u. not (same_key u.key key)) (unmarked_by c s indexes stage)
forgotten_unmarked c s key once indexes (marking place first) =
    filtered_left c (without_listed key c) s (without_snapshot key s) (λ u. not (same_key u.key key)) first (drop place indexes) (λ i n. forgotten_left c s key once i n)
forgotten_unmarked c s key once indexes (sweeping names) = refl

-- ---- a snapshot is finished

pub finished_unmarked : (acts : ℕ) (c : List Listed) (s : List Snapshot) (new : Listed) (x : Snapshot) → IsNewKey c s new x
    → (indexes : List IndexAt) → All (λ (i : IndexAt). new.number ≢ i.snapshot) indexes → (stage : Stage)
    → unmarked_by (insert_listed new c) (insert_snapshot x s) indexes stage ≡ unmarked_by c s indexes stage
finished_unmarked acts c s new x fresh indexes others (marking place first) =
    same_left c (insert_listed new c) s (insert_snapshot x s) first (drop place indexes)
    (All-weaker (λ (i : IndexAt). new.number ≢ i.snapshot) (λ (i : IndexAt). (n : ℕ) → left_at (insert_listed new c) (insert_snapshot x s) n i ≡ left_at c s n i)
    (λ i other n. finished_left c s new x fresh i other n) (drop place indexes) (All-drop (λ (i : IndexAt). new.number ≢ i.snapshot) place indexes others))
finished_unmarked acts c s new x fresh indexes others (sweeping names) = refl
