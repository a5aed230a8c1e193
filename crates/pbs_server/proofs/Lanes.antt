-- What lanes did that were served at once, lane by lane.
use Rattle.std.proofs.Common.{◌≡◌, ◌<◌, ◌+◌, ◌==◌, ◌||◌, ◌⊎◌, inl, inr, ℕ, zero, suc, Bool, true, false, List, [], ◌∷◌, length, cond, Option, refl, sym, subst, ◌∙◌, arith, slice_index_or}
use Rattle.std.specs.List.{All}
use Rattle.std.proofs.lemmas.List.{length-map}
use Rattle.port_traits.specs.declared.sink.Sink as sinks
use Rattle.port_traits.specs.declared.source.Source as sources
use Rattle.store_types.specs.Names.{IsKey}
use Rattle.store_files.specs.Archive.{Snapshot}
use Rattle.store_model.specs.declared.ending.Ending.{Ending}
use Rattle.store_model.specs.declared.ending.Ending.TheVariants as endings
use Rattle.store_history.specs.declared.act.Event.{Event}
use Rattle.store_history.specs.History.{Opening, opened, entries, kind, lane, own}
use Rattle.store_history.specs.LaneRun.{LaneRan}
use Rattle.store_history.specs.Legal.{IsLegal}
use Rattle.store_history.specs.Remote.{IsRemote}
use Rattle.store_history.specs.Woven.{AreLanes, IsServed, ending_at}
use Rattle.seat_history.specs.Lanes.{LastsAreWants}
use Rattle.seat_history.proofs.Wants.{memory_is_entered}
use Rattle.store_history.specs.declared.port.LaneReport.{LaneReport}
use Rattle.store_history.specs.declared.port.Port.{Port}
use Rattle.lane.specs.Entries.{has_kind}
use Rattle.lane.specs.Served.{EachRan, RanAs, Run}
use Rattle.lane.proofs.Halves.{each_counts}
use Rattle.pbs_server.specs.declared.status.Status.TheVariants as statuses
use Rattle.pbs_server.specs.Headline.{inputs_of, told_by}
use Rattle.pbs_server.specs.Statuses.{endings_of, some_tells, tells}
use Rattle.pbs_server.proofs.Tests.{either, or_first, or_later}

-- ---- a lane's own entries are entries of the whole

pub own_kind : (k n : ℕ) (es : List Event) → has_kind n (entries (own k es)) ≡ true → has_kind n (entries es) ≡ true
own_kind k n [] is = is
own_kind k n (v ∷ vs) is = by_test (lane v == k) (own_kind k n vs) is
  where
    by_test : (b : Bool) → (has_kind n (entries (own k vs)) ≡ true → has_kind n (entries vs) ≡ true) → has_kind n (entries (cond b (v ∷ own k vs) (own k vs))) ≡ true
        → ((kind v == n) || has_kind n (entries vs)) ≡ true
    by_test true behind is = by_first (either (kind v == n) (has_kind n (entries (own k vs))) is)
      where
        by_first : (kind v == n ≡ true) ⊎ (has_kind n (entries (own k vs)) ≡ true) → ((kind v == n) || has_kind n (entries vs)) ≡ true
        by_first (inl first) = or_first (kind v == n) (has_kind n (entries vs)) first
        by_first (inr later) = or_later (kind v == n) (has_kind n (entries vs)) (behind later)
    by_test false behind is = or_later (kind v == n) (has_kind n (entries vs)) (behind is)

own_lasts : (k : ℕ) (es : List Event) → LastsAreWants es → LastsAreWants (own k es)
own_lasts k [] are = tt
own_lasts k (v ∷ vs) are = by_test (lane v == k) (own_lasts k vs are.1)
  where
    by_test : (b : Bool) → LastsAreWants (own k vs) → LastsAreWants (cond b (v ∷ own k vs) (own k vs))
    by_test true behind = (are.0, behind)
    by_test false behind = behind

memory_is : (e : Ending) → tells statuses.NoMemory e ≡ true → e ≡ endings.NoMemory
memory_is endings.Clean is = cc
memory_is (endings.Broken place) is = cc
memory_is endings.SourceFault is = cc
memory_is endings.SinkFault is = cc
memory_is endings.SourceTooLong is = cc
memory_is endings.NoMemory is = refl

-- ---- the lanes from one on

module _ {S K : Type 0} (source : sources.Ghosts S) (sink : sinks.Ghosts K) where
  each_at : (j k : ℕ) (os ns : List (Port S K)) (rs : List LaneReport) (xs : List Run) (es : List Event) → EachRan (RanAs source sink) j os ns rs xs es → k < length xs
      → LaneRan (slice_index_or (inputs_of xs) k []) (ending_at (endings_of rs) k) (own (j + k) es) (slice_index_or (told_by xs) k [])
  each_at j k [] [] [] [] es each below = absurd (omega arith)
  each_at j zero (o ∷ os) (n ∷ ns) (r ∷ rs) (x ∷ xs) es each below =
      let none : j ≡ j + 0 = omega arith in subst (λ i. LaneRan x.input r.ending (own i es) x.told) none each.0.ran
  each_at j (suc k) (o ∷ os) (n ∷ ns) (r ∷ rs) (x ∷ xs) es each below =
      let on : j + 1 + k ≡ j + suc k = omega arith in
      subst (λ i. LaneRan (slice_index_or (inputs_of xs) k []) (ending_at (endings_of rs) k) (own i es) (slice_index_or (told_by xs) k [])) on
      (each_at (j + 1) k os ns rs xs es each.1 (omega arith))
  each_at j k _ _ _ _ es each below = absurd each

  -- where a lane ended by want of memory, an entry tells so
  pub wants_entered : (j : ℕ) (os ns : List (Port S K)) (rs : List LaneReport) (xs : List Run) (es : List Event) → EachRan (RanAs source sink) j os ns rs xs es → LastsAreWants es
      → some_tells statuses.NoMemory (endings_of rs) ≡ true → has_kind 2 (entries es) ≡ true
  wants_entered j [] [] [] [] es each lasting is = cc
  wants_entered j (o ∷ os) (n ∷ ns) (r ∷ rs) (x ∷ xs) es each lasting is =
      by_first (either (tells statuses.NoMemory r.ending) (some_tells statuses.NoMemory (endings_of rs)) is) (wants_entered (j + 1) os ns rs xs es each.1 lasting)
    where
      by_first : (tells statuses.NoMemory r.ending ≡ true) ⊎ (some_tells statuses.NoMemory (endings_of rs) ≡ true)
          → (some_tells statuses.NoMemory (endings_of rs) ≡ true → has_kind 2 (entries es) ≡ true) → has_kind 2 (entries es) ≡ true
      by_first (inl first) behind =
          own_kind j 2 es (memory_is_entered x.input (own j es) x.told
          (subst (λ e. LaneRan x.input e (own j es) x.told) (memory_is r.ending first) each.0.ran) (own_lasts j es lasting))
      by_first (inr later) behind = behind later
  wants_entered j _ _ _ _ es each lasting is = absurd each

  -- ---- all lanes

  module _ (os ns : List (Port S K)) (rs : List LaneReport) (xs : List Run) (es : List Event) (each : EachRan (RanAs source sink) 0 os ns rs xs es) where
    pub inputs_count : length (inputs_of xs) ≡ length os
    inputs_count = length-map xs (λ (x : Run). x.input) ∙ (each_counts (RanAs source sink) 0 os ns rs xs es each).1

    told_count : length (told_by xs) ≡ length os
    told_count = length-map xs (λ (x : Run). x.told) ∙ (each_counts (RanAs source sink) 0 os ns rs xs es each).1

    pub run_at : (k : ℕ) → k < length (inputs_of xs) → LaneRan (slice_index_or (inputs_of xs) k []) (ending_at (endings_of rs) k) (own k es) (slice_index_or (told_by xs) k [])
    run_at k below =
        let here : 0 + k ≡ k = omega arith in
        subst (λ i. LaneRan (slice_index_or (inputs_of xs) k []) (ending_at (endings_of rs) k) (own i es) (slice_index_or (told_by xs) k [])) here
        (each_at 0 k os ns rs xs es each (subst (λ n. k < n) (length-map xs (λ (x : Run). x.input)) below))

    -- the plain store is asked by them
    pub are_served : (o : Opening) (R : Option (List Snapshot)) → IsRemote R → All (λ x. IsKey x.key) o.snapshots → IsLegal R (opened o) es → AreLanes (length os) es
        → IsServed o R es (inputs_of xs) (endings_of rs) (told_by xs)
    are_served o R remote fine legal lanes = record {
      legal = legal;
      remote_is = remote;
      keys = fine;
      lanes = subst (λ n. AreLanes n es) (sym inputs_count) lanes;
      each = told_count ∙ sym inputs_count;
      runs = run_at;
    }
