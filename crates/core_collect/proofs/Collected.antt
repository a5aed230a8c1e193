-- The next mark or visit of a collector, or its end, by the calls that it makes.
use Rattle.disk_trait.specs.declared.disk.Disk.{Ghosts}
use Rattle.std.proofs.Common.{◌≡◌, ◌⊎◌, ⊎_elim, ◌<◌, ◌≤◌, ◌+◌, ℕ, max, Bool, true, false, cond, is_some, length, List, [], ◌∷◌, Option, Some, None, IfSome, Result, Ok, Err, Vec, Global, inl, inr, refl, sym, ap, subst, ◌∙◌, arith}
use Rattle.std.specs.Prelude.{IfErr, IsErrAnd, IsErrOf, IsSomeAnd, option_map}
use Rattle.disk_trait.specs.Disk.{Same, Serves, Steps}
use Rattle.disk_trait.specs.Effects.{DiskWantKeeps, LeavesBy, LeavesSame, OnlyReads}
use Rattle.disk_trait.specs.Files.{Files}
use Rattle.disk_trait.specs.Runs.{both_serve, step_after}
use Rattle.disk_trait.specs.declared.disk.DiskError.{DiskError}
use Rattle.disk_trait.specs.declared.disk.DiskError.TheVariants as disks
use Rattle.store_types.specs.declared.names.Digest32.{Digest32}
use Rattle.store_types.specs.declared.refusal.Refusal.{Refusal}
use Rattle.store_files.specs.Book.{Book, book_text}
use Rattle.store_files.specs.Folder.{chunk_name}
use Rattle.store_model.specs.Store.{Store}
use Rattle.atime_book.specs.Present.{is_among}
use Rattle.atime_book.specs.Touches.{NoneAfter, as_of, last_of}
use Rattle.chunk_store.specs.Listed.{Lists}
use Rattle.gc_plan.specs.Plan.{Plan, is_over, left_of, mark_limit, next_visit}
use Rattle.gc_plan.specs.declared.GcReport.{GcReport}
use Rattle.store_history.specs.LastTouches.{SameTouches, touched}
use Rattle.store_history.specs.Saved.{book_name}
use Rattle.store_history.specs.Sweeping.{Sweep, Swept}
use Rattle.core_state.specs.declared.collector.Collector.{Collector}
use Rattle.core_state.specs.declared.collector.Early.TheVariants as earlies
use Rattle.core_state.specs.declared.entering.Place.{Place}
use Rattle.core_state.specs.declared.parts.Parts.{Parts}
use Rattle.store_stops.specs.declared.stop.Stop.TheVariants as stops
use Rattle.core_state.specs.declared.upkeep.Upkeep.{Upkeep}
use Rattle.core_state.specs.Changes.{Change, LeavesChange, MayLeave, after, drops, finishes, forgets, installs, stays, stores, undone}
use Rattle.core_state.specs.Collectors.{steps_if, steps_left}
use Rattle.core_state.specs.Passes.{KeepsPlan}
use Rattle.snapshot_files.specs.Reads.{StopHasText}
use Rattle.store_stops.specs.Stops.{stop_of}
use Rattle.core_state.specs.Sweeps.{ShowsOpen, ShowsSweep}
use Rattle.core_state.specs.Unchanged.{SameKept}
use Rattle.core_state.specs.Upkeeps.{TouchesEach, touches_kept}
use Rattle.core_state.proofs.Commanding.{leaves_by, same_leaves}
use Rattle.core_state.proofs.Touching.{same_touches}
use Rattle.core_collect.specs.Calls.{SearchCalls}
use Rattle.core_collect.proofs.Calls.{open_search, open_unpassed}
use Rattle.core_collect.specs.declared.marking.Unread.{Unread}
use Rattle.core_collect.specs.declared.marking.Unread.TheVariants as unread
use Rattle.core_collect.specs.Beside.{IsPresent, IsSweepable, StandsBeside}
use Rattle.core_collect.specs.Ending.{EndsPlan}
use Rattle.core_collect.specs.Marking.{AtHand, FindsNext, GoesFurther, MarksSome}
use Rattle.core_collect.specs.Passing.{FailsByPlan, LosesFirst, PassesOn, PassesOrEnds}
use Rattle.core_collect.specs.Stepping.{CollectDoes, IsIndex, IsTheSweeps, Outcome, Spares, path_of_early}
use Rattle.core_collect.specs.Stepping as stepping
use Rattle.core_collect.specs.Visiting.{DropsFirst, IsListed, VisitsNext, goes}
use Rattle.core_collect.proofs.EndLemmas.{ended_tells}
use Rattle.core_collect.proofs.Losing.{holds_same, spares_install, spares_same}
use Rattle.core_collect.proofs.Marked.{marked_tells}
use Rattle.core_collect.proofs.Outcomes.{end_outcome, visit_outcome}
use Rattle.core_collect.proofs.Stepped.{none_later}
use Rattle.core_collect.proofs.VisitLemmas.{drops_goes, first_is, goes_so, visited_early, visited_keeps, visited_pass, visited_tells}

-- an outcome that is no refusal has no text to be spelled
pub unrefused_text : (result : Outcome) → ((refusal : Refusal) → result ≡ Err (stops.Refused refusal) → ⊥) → IfErr result StopHasText
unrefused_text (Ok outcome) none = tt
unrefused_text (Err stops.NoMemory) none = tt
unrefused_text (Err stops.DiskFailed) none = tt
unrefused_text (Err (stops.Refused refusal)) none = absurd (none refusal refl)

-- an error of the disk stops the act
pub stopped_as : (result : Outcome) (e : DiskError) → IsErrAnd result (λ x. x ≡ stop_of e) → result ≡ Err (stop_of e)
stopped_as (Ok outcome) e is = absurd is
stopped_as (Err stop) e is = ap (λ x. Err x) is

-- ---- the disk

module _ {D : Type 0} (d : Ghosts D) (old mid new : D) where
  -- it may stay
  may_stay : (change : Change) (read m : Files) → MayLeave change read m m
  may_stay stays read m = refl
  may_stay undone read m = refl
  may_stay (installs path bytes) read m = inl (λ q ne. refl)
  may_stay (stores name bytes) read m = inl refl
  may_stay (drops paths) read m = λ q. inl refl
  may_stay (finishes path bytes) read m = inl (λ q ne. refl)
  may_stay (forgets manifest paths) read m = inl refl

  -- one name is lost, or nothing: whatever was read before
  abbrev pub IsLoss : Change → Type 0
  IsLoss change = (change ≡ stays) ⊎ ((name : List ℕ) × (change ≡ drops (name ∷ [])))

  may_read : (change : Change) → IsLoss change → (read other a b : Files) → MayLeave change read a b → MayLeave change other a b
  may_read change (inl is) read other a b left = subst (λ c. MayLeave c other a b) (sym is) (subst (λ c. MayLeave c read a b) is left)
  may_read change (inr (name, is)) read other a b left = subst (λ c. MayLeave c other a b) (sym is) (subst (λ c. MayLeave c read a b) is left)

  pub crash_then : (change : Change) → IsLoss change → LeavesSame d old mid → LeavesChange d mid new change → LeavesChange d old new change
  crash_then change loss first next = by_first first (leaves_by d mid new (MayLeave change (d.content mid)) (MayLeave change (d.content old)) (may_read change loss (d.content mid) (d.content old)) next)
    where
      by_next : LeavesSame d old mid → LeavesBy d mid new (MayLeave change (d.content old)) → Steps d.calls d.images old mid Same → LeavesBy d old new (MayLeave change (d.content old))
      by_next first (inl same) steps = subst (λ x. LeavesBy d old x (MayLeave change (d.content old))) (sym same) (same_leaves d old mid change (inr steps))
      by_next first (inr more) steps =
          inr (step_after (MayLeave change (d.content old)) steps more (λ (f c : Files) same. subst (λ x. MayLeave change (d.content old) f x) (sym same) (may_stay change (d.content old) f))
          (λ (f g c : Files) same left. subst (λ x. MayLeave change (d.content old) x c) same left))

      by_first : LeavesSame d old mid → LeavesBy d mid new (MayLeave change (d.content old)) → LeavesBy d old new (MayLeave change (d.content old))
      by_first (inl same) next = subst (λ x. LeavesBy d x new (MayLeave change (d.content old))) same next
      by_first (inr steps) next = by_next (inr steps) next steps

-- ---- the book

-- those that are marked are touched at the moment
marked_touches : (u v : Upkeep) (digests : List Digest32) (moment : ℕ) → TouchesEach u.book v.book digests moment → v.undated ≡ u.undated
    → SameTouches (touches_kept v) (touched (λ x. is_among x digests) moment (touches_kept u))
marked_touches u v digests moment touches undated = record { last = touches; undated = λ x. ap (λ us. is_among x us.items) undated }

few_marked : (c : Collector) (digests : List Digest32) → AtHand c digests → length digests ≤ mark_limit
few_marked c digests hand = let n = hand.all in omega (arith, n)

marked_early : (before after_ : Book) (digests : List Digest32) (moment : ℕ) → TouchesEach before after_ digests moment → NoneAfter before moment → NoneAfter after_ moment
marked_early before after_ digests moment touches early x = subst (λ o. IfSome o (λ when. when ≤ moment)) (sym (touches x)) (by_last (is_among x digests) (last_of before x) (early x))
  where
    by_last : (here : Bool) (o : Option ℕ) → IfSome o (λ when. when ≤ moment) → IfSome (cond here (option_map (λ last. max last moment) o) o) (λ when. when ≤ moment)
    by_last true None within = tt
    by_last true (Some when) within = omega (arith, within)
    by_last false o within = within

-- the same book, and the same chunks undated
same_upkeep : (u v : Upkeep) → v.book ≡ u.book → v.undated ≡ u.undated → v ≡ u
same_upkeep u v book undated = ap (λ b. record v { book = b }) book ∙ ap (λ us. record u { undated = us }) undated

-- ---- the collector

none_ends : (c : Collector) → c.ended ≡ None → IfSome c.ended IsIndex
none_ends c goes = subst (λ o. IfSome o IsIndex) (sym goes) tt

-- where both go on
goes_down : (c f : Collector) → c.ended ≡ None → f.ended ≡ None → left_of f.plan < left_of c.plan → steps_left (Some f) < steps_left (Some c)
goes_down c f goes still less =
    subst (λ n. n < steps_left (Some c)) (sym (ap (λ o. steps_if (is_some o) (left_of f.plan)) still))
    (subst (λ n. left_of f.plan + 1 < n) (sym (ap (λ o. steps_if (is_some o) (left_of c.plan)) goes)) (omega (arith, less)))

-- its end is all that is left
ends_down : (c f : Collector) (path : List ℕ) → c.ended ≡ None → f.ended ≡ Some (earlies.Unreadable path) → steps_left (Some f) < steps_left (Some c)
ends_down c f path goes ended =
    subst (λ n. n < steps_left (Some c)) (sym (ap (λ o. steps_if (is_some o) (left_of f.plan)) ended))
    (subst (λ n. 0 < n) (sym (ap (λ o. steps_if (is_some o) (left_of c.plan)) goes)) (omega arith))

-- what its start fixed, over a search and then
fixed_then : (c e : Collector) (p : Plan) → GoesFurther c e → p.start ≡ (e.plan).start → p.cutoff ≡ (e.plan).cutoff → p.indexes ≡ (e.plan).indexes → KeepsPlan c.plan p
fixed_then c e p further start cutoff indexes = record { start = start ∙ further.start; cutoff = cutoff ∙ further.cutoff; indexes = indexes ∙ further.indexes }

-- ---- a mark

module _ {D : Type 0} (d : Ghosts D) (old new : Parts D) (u v : Upkeep) (c e f : Collector) (at : Place) where
  -- it is not ended early
  unended : (f : Collector) → f.ended ≡ None → PassesOn d old.disk old.catalogue.listed u.book v.book c f at.moment stays
      → PassesOrEnds d old.disk old.catalogue.listed u.book v.book c f at.moment stays f.ended
  unended f still passes = subst (PassesOrEnds d old.disk old.catalogue.listed u.book v.book c f at.moment stays) (sym still) passes

  pub marked_does : (digests : Vec Digest32 Global) → OnlyReads d old.disk new.disk (IsErrOf {T = Option (Vec Digest32 Global)} (Ok (Some digests)) unread.DiskFailed) → SameKept old new
      → FindsNext d old c e (Ok (Some digests)) → SearchCalls d old new c → MarksSome u.book v.book e f digests.items at.moment → v.undated ≡ u.undated
      → is_over c.plan ≡ false → c.ended ≡ None → CollectDoes d old new u v c f at (Ok None)
  marked_does digests reads kept finds most marks undated going goes =
      let still : f.ended ≡ None = marks.ended ∙ (finds.further).ended ∙ goes in record {
        serves = record { kept = (reads.serves).kept; count = (reads.serves).count; cause = λ failed. cc };
        kept = kept;
        unrefused = λ refusal is. cc;
        change = stays;
        may_change = inl refl;
        content = λ _ honest. reads.same honest;
        crash = same_leaves d old.disk new.disk stays reads.crash;
        touches = inl (digests.items, refl, few_marked e digests.items (finds.at_hand digests refl), marked_touches u v digests.items at.moment marks.touches undated);
        by_plan = (going, ap (λ us. record v { undated = us }) undated, unended f still (record { passed = (finds.found).0; mid = e; digests = digests.items; finds = (finds.found).1; does = inl (finds.at_hand digests refl, marks, refl) }));
        early = λ before le early. marked_early u.book v.book digests.items at.moment marks.touches (none_later u.book before at.moment le early);
        fits = λ before le in_time early. tt;
        lane = marks.lane ∙ (finds.further).lane;
        ends = none_ends f still;
        further = goes_down c f goes still (let less = marks.less in let most = (finds.further).not_more in omega (arith, less, most));
        same = fixed_then c e f.plan finds.further (ap (λ (p : Plan). p.start) marks.plan) (ap (λ (p : Plan). p.cutoff) marks.plan) (ap (λ (p : Plan). p.indexes) marks.plan);
        unread = λ _ honest. ap path_of_early still ∙ sym (finds.unread honest);
        calls = λ _. open_search d old new c most;
        tells = λ acts s w beside able.
            (marked_tells d old new u v c e f (IsErrOf {T = Option (Vec Digest32 Global)} (Ok (Some digests)) unread.DiskFailed) at.moment reads kept digests finds marks (ap (λ us. record v { undated = us }) undated) going goes acts s w beside, spares_same s);
      }

-- ---- an index that does not decode or is not as it was opened, want of memory and a fault as one is looked for

module _ {D : Type 0} (d : Ghosts D) (old new : Parts D) (u : Upkeep) (c e : Collector) (at : Place) where
  -- the search shows what the collector showed
  still_shows : (result : Result (Option (Vec Digest32 Global)) Unread) → FindsNext d old c e result → (acts : ℕ) (s : Store) (w : Swept) → StandsBeside d old u acts (Some c) s w.touches w.sweep
      → ShowsOpen acts old.catalogue.listed s.snapshots (Some e) w.sweep
  still_shows result finds acts s w beside = by_sweep w.sweep beside.shows
    where
      by_sweep : (o : Option Sweep) → IsSomeAnd o (ShowsSweep acts old.catalogue.listed s.snapshots c) → IsSomeAnd o (ShowsSweep acts old.catalogue.listed s.snapshots e)
      by_sweep None shows = absurd shows
      by_sweep (Some sweep) shows = (finds.shows acts s sweep beside.holds shows).0

  never_unread : (path : List ℕ) → FindsNext d old c e (Err (unread.Unreadable path)) → (acts : ℕ) (s : Store) (w : Swept) → StandsBeside d old u acts (Some c) s w.touches w.sweep → ⊥
  never_unread path finds acts s w beside = by_sweep w.sweep beside.shows
    where
      by_sweep : (o : Option Sweep) → IsSomeAnd o (ShowsSweep acts old.catalogue.listed s.snapshots c) → ⊥
      by_sweep None shows = shows
      by_sweep (Some sweep) shows = (finds.shows acts s sweep beside.holds shows).1

  pub unread_does : (f : Collector) (path : List ℕ) → OnlyReads d old.disk new.disk (IsErrOf {T = Option (Vec Digest32 Global)} (Err (unread.Unreadable path)) unread.DiskFailed) → SameKept old new
      → FindsNext d old c e (Err (unread.Unreadable path)) → SearchCalls d old new c → f.lane ≡ e.lane → f.plan ≡ e.plan → f.ended ≡ Some (earlies.Unreadable path) → is_over c.plan ≡ false → c.ended ≡ None
      → CollectDoes d old new u u c f at (Ok None)
  unread_does f path reads kept finds most lane plan ended going goes = record {
    serves = record { kept = (reads.serves).kept; count = (reads.serves).count; cause = λ failed. cc };
    kept = kept;
    unrefused = λ refusal is. cc;
    change = stays;
    may_change = inl refl;
    content = λ _ honest. reads.same honest;
    crash = same_leaves d old.disk new.disk stays reads.crash;
    touches = inr (None, refl, same_touches (touches_kept u));
    by_plan = (going, refl, subst (PassesOrEnds d old.disk old.catalogue.listed u.book u.book c f at.moment stays) (sym ended) (refl, refl));
    early = λ before le early. none_later u.book before at.moment le early;
    fits = λ before le in_time early. tt;
    lane = lane ∙ (finds.further).lane;
    ends = subst (λ o. IfSome o IsIndex) (sym ended) tt;
    further = ends_down c f path goes ended;
    same = fixed_then c e f.plan finds.further (ap (λ (p : Plan). p.start) plan) (ap (λ (p : Plan). p.cutoff) plan) (ap (λ (p : Plan). p.indexes) plan);
    unread = λ _ honest. ap path_of_early ended ∙ sym (finds.unread honest);
    calls = λ _. open_search d old new c most;
    tells = λ acts s w beside able. absurd (never_unread path finds acts s w beside);
  }

  pub wanting_does : OnlyReads d old.disk new.disk (IsErrOf {T = Option (Vec Digest32 Global)} (Err unread.NoMemory) unread.DiskFailed) → SameKept old new → FindsNext d old c e (Err unread.NoMemory) → c.ended ≡ None
      → CollectDoes d old new u u c e at (Err stops.NoMemory)
  wanting_does reads kept finds goes = record {
    serves = record { kept = (reads.serves).kept; count = (reads.serves).count; cause = λ failed. cc };
    kept = kept;
    unrefused = λ refusal is. cc;
    change = stays;
    may_change = refl;
    content = λ _ honest. reads.same honest;
    crash = same_leaves d old.disk new.disk stays reads.crash;
    touches = refl;
    by_plan = tt;
    early = λ before le early. none_later u.book before at.moment le early;
    fits = λ before le in_time early. tt;
    lane = (finds.further).lane;
    ends = (finds.further).ended ∙ goes;
    further = tt;
    same = fixed_then c e e.plan finds.further refl refl refl;
    unread = λ is. cc;
    calls = λ is. cc;
    tells = λ acts s w beside able. (
      record {
        holds = holds_same d old new s kept beside.holds ((reads.serves).kept.0 (beside.holds).honest) (reads.same (beside.holds).honest);
        touches_are = beside.touches_are;
        present = subst (λ m. IsPresent m w.touches) (sym (reads.same (beside.holds).honest)) beside.present;
        shows = subst (λ l. ShowsOpen acts l s.snapshots (Some e) w.sweep) (sym kept.catalogue) (still_shows (Err unread.NoMemory) finds acts s w beside);
      },
      spares_same s,
    );
  }

  pub failed_does : OnlyReads d old.disk new.disk (IsErrOf {T = Option (Vec Digest32 Global)} (Err unread.DiskFailed) unread.DiskFailed) → SameKept old new → FindsNext d old c e (Err unread.DiskFailed) → c.ended ≡ None
      → CollectDoes d old new u u c e at (Err stops.DiskFailed)
  failed_does reads kept finds goes = record {
    serves = record { kept = (reads.serves).kept; count = (reads.serves).count; cause = λ _. (reads.serves).cause refl };
    kept = kept;
    unrefused = λ refusal is. cc;
    change = stays;
    may_change = inl refl;
    content = λ calm. absurd (calm refl);
    crash = same_leaves d old.disk new.disk stays reads.crash;
    touches = refl;
    by_plan = inl refl;
    early = λ before le early. none_later u.book before at.moment le early;
    fits = λ before le in_time early. tt;
    lane = (finds.further).lane;
    ends = (finds.further).ended ∙ goes;
    further = tt;
    same = tt;
    unread = λ is. cc;
    calls = λ is. cc;
    tells = λ acts s w beside able. ((reads.serves).kept.0 (beside.holds).honest, spares_same s);
  }

-- ---- a visit

module _ {D : Type 0} (d : Ghosts D) (old new : Parts D) (mid : D) (u v : Upkeep) (c e f : Collector) (at : Place)
    (reads : OnlyReads d old.disk mid (IsErrOf {T = Option (Vec Digest32 Global)} (Ok None) unread.DiskFailed)) (kept : SameKept old new) (finds : FindsNext d old c e (Ok None))
    (lane : f.lane ≡ e.lane) (same_ended : f.ended ≡ e.ended) (pages : f.pages ≡ e.pages) (undated : v.undated ≡ u.undated) (going : is_over c.plan ≡ false) (goes_on : c.ended ≡ None) where
  abbrev Visits : Result (Unit {0}) DiskError → Type 0
  Visits r = VisitsNext d mid new.disk u.book v.book e.plan f.plan r

  still : f.ended ≡ None
  still = same_ended ∙ (finds.further).ended ∙ goes_on

  -- the chunks that are there are those of the disk before
  listed_as : (listed : Plan) → IsListed d mid e.plan listed → IsListed d old.disk e.plan listed
  listed_as listed (inl had) = inl had
  listed_as listed (inr (none, (names, is, are))) =
      inr (none, (names, is, record { few = are.few; lists = λ honest. subst (λ m. Lists m names) (reads.same honest) (are.lists ((reads.serves).kept.0 honest)) }))

  -- and what is lost of it by its plan
  loses : (change : Change) → DropsFirst d mid u.book e.plan change → LosesFirst d old.disk old.catalogue.listed u.book c change
  loses change drop = record {
    going = going;
    passed = (finds.found).0;
    mid = e;
    finds = (finds.found).1;
    none_left = finds.all_marked refl;
    drops = record {
      listed = drop.listed;
      digest = drop.digest;
      is_listed = listed_as drop.listed drop.is_listed;
      first = drop.first;
      stale = drop.stale;
      change_is = drop.change_is;
    };
  }

  module _ (r : Result (Unit {0}) DiskError) (serves : Serves d.honest d.faults mid new.disk (IsErrOf r disks.Failed)) (x : Visits r) where
    loss : IsLoss d old.disk mid new.disk x.change
    loss = ⊎_elim {C = IsLoss d old.disk mid new.disk x.change} (λ (none : x.change ≡ stays). inl none)
        (λ (drop : DropsFirst d mid u.book e.plan x.change). inr (chunk_name (drop.digest).0, drop.change_is)) x.going

    dropped : (drop : DropsFirst d mid u.book e.plan x.change) → goes u.book c.plan drop.digest ≡ true
    dropped drop = goes_so u.book c.plan e.plan drop.digest (finds.further).cutoff (drops_goes d mid u.book e.plan x.change drop)

    -- a chunk that goes is lost, or none
    lost : (x.change ≡ stays) ⊎ ((digest : Digest32) × (goes u.book c.plan digest ≡ true) × (x.change ≡ drops (chunk_name digest.0 ∷ [])))
    lost = ⊎_elim {C = (x.change ≡ stays) ⊎ ((digest : Digest32) × (goes u.book c.plan digest ≡ true) × (x.change ≡ drops (chunk_name digest.0 ∷ [])))} (λ (none : x.change ≡ stays). inl none)
        (λ (drop : DropsFirst d mid u.book e.plan x.change). inr (drop.digest, dropped drop, drop.change_is)) x.going

    crash : LeavesChange d old.disk new.disk x.change
    crash = crash_then d old.disk mid new.disk x.change loss reads.crash x.crash

    reads_then : (IsErrOf r disks.Failed → ⊥) → d.honest old.disk → d.content new.disk ≡ after x.change (d.content old.disk)
    reads_then calm honest = x.content calm ((reads.serves).kept.0 honest) ∙ ap (after x.change) (reads.same honest)

    tells : (acts : ℕ) (s : Store) (w : Swept) → StandsBeside d old u acts (Some c) s w.touches w.sweep → IsSweepable s w → IsTheSweeps d new v acts f s w at.moment (visit_outcome r) × Spares s x.change
    tells acts s w beside able =
        visited_tells d old new mid u v c e f (IsErrOf {T = Option (Vec Digest32 Global)} (Ok None) unread.DiskFailed) at.moment r reads kept serves finds x same_ended pages undated going goes_on acts s w beside able

  pub visited_does : (done : Unit {0}) → Serves d.honest d.faults mid new.disk (IsErrOf {T = Unit {0}} (Ok done) disks.Failed) → Visits (Ok done) → CollectDoes d old new u v c f at (Ok None)
  visited_does done serves x =
      let first = first_is u.book v.book (x.done).0 f.plan x.change (next_visit (x.done).0) (x.done).2 in
      let keeps = visited_keeps d mid u.book v.book e.plan (x.done).0 f.plan x.change (next_visit (x.done).0) (x.done).1 first in record {
        serves = both_serve d.honest d.faults old.disk mid new.disk (IsErrOf {T = Option (Vec Digest32 Global)} (Ok None) unread.DiskFailed) (IsErrOf {T = Unit {0}} (Ok done) disks.Failed) (IsErrOf {T = Option GcReport} (Ok None) stops.DiskFailed) reads.serves serves (λ failed. cc);
        kept = kept;
        unrefused = λ refusal is. cc;
        change = x.change;
        may_change = lost (Ok done) serves x;
        content = λ _. reads_then (Ok done) serves x (λ failed. cc);
        crash = crash (Ok done) serves x;
        touches = visited_pass u v (x.done).0 f.plan x.change (next_visit (x.done).0) at.moment undated first;
        by_plan = (
          going,
          ap (λ us. record v { undated = us }) undated,
          subst (PassesOrEnds d old.disk old.catalogue.listed u.book v.book c f at.moment x.change) (sym still)
              (record { passed = (finds.found).0; mid = e; digests = []; finds = (finds.found).1; does = inr (finds.all_marked refl, ((x.done).0, listed_as (x.done).0 (x.done).1, (x.done).2)) }),
        );
        early = λ before le early. visited_early u.book v.book (x.done).0 f.plan x.change (next_visit (x.done).0) at.moment first (none_later u.book before at.moment le early);
        fits = λ before le in_time early. tt;
        lane = lane ∙ (finds.further).lane;
        ends = none_ends f still;
        further = goes_down c f goes_on still (let less = x.less ((finds.further).over going) in let most = (finds.further).not_more in omega (arith, less, most));
        same = fixed_then c e f.plan finds.further keeps.start keeps.cutoff keeps.indexes;
        unread = λ _ honest. ap path_of_early still ∙ sym (finds.unread honest);
        calls = λ _. open_unpassed d old new c e (finds.found).0 ((finds.found).1).plan ((finds.found).1).let_go (finds.all_marked refl);
        tells = tells (Ok done) serves x;
      }

  -- memory was wanting, or the disk failed
  pub unvisited_does : (error : DiskError) → Serves d.honest d.faults mid new.disk (IsErrOf {T = Unit {0}} (Err error) disks.Failed) → Visits (Err error) → CollectDoes d old new u v c f at (visit_outcome (Err error))
  unvisited_does disks.NoMemory serves x =
      let plan : f.plan ≡ e.plan = (x.want refl).0 in record {
        serves = both_serve d.honest d.faults old.disk mid new.disk (IsErrOf {T = Option (Vec Digest32 Global)} (Ok None) unread.DiskFailed) (IsErrOf {T = Unit {0}} (Err disks.NoMemory) disks.Failed) (IsErrOf {T = Option GcReport} (Err stops.NoMemory) stops.DiskFailed)
            reads.serves serves (λ failed. cc);
        kept = kept;
        unrefused = λ refusal is. cc;
        change = x.change;
        may_change = (x.want refl).1;
        content = λ _. reads_then (Err disks.NoMemory) serves x (λ failed. cc);
        crash = crash (Err disks.NoMemory) serves x;
        touches = same_upkeep u v (x.unswept refl) undated;
        by_plan = tt;
        early = λ before le early. subst (λ b. NoneAfter b at.moment) (sym (x.unswept refl)) (none_later u.book before at.moment le early);
        fits = λ before le in_time early. tt;
        lane = lane ∙ (finds.further).lane;
        ends = still;
        further = tt;
        same = fixed_then c e f.plan finds.further (ap (λ (p : Plan). p.start) plan) (ap (λ (p : Plan). p.cutoff) plan) (ap (λ (p : Plan). p.indexes) plan);
        unread = λ is. cc;
        calls = λ is. cc;
        tells = tells (Err disks.NoMemory) serves x;
      }
  unvisited_does disks.Failed serves x = record {
    serves = both_serve d.honest d.faults old.disk mid new.disk (IsErrOf {T = Option (Vec Digest32 Global)} (Ok None) unread.DiskFailed) (IsErrOf {T = Unit {0}} (Err disks.Failed) disks.Failed) (IsErrOf {T = Option GcReport} (Err stops.DiskFailed) stops.DiskFailed)
        reads.serves serves (λ _. inr refl);
    kept = kept;
    unrefused = λ refusal is. cc;
    change = x.change;
    may_change = ⊎_elim {C = stepping.MayChange u.book c at.moment x.change (Err stops.DiskFailed)} (λ none. inl none) (λ drop. inr (inl drop)) (lost (Err disks.Failed) serves x);
    content = λ calm. absurd (calm refl);
    crash = crash (Err disks.Failed) serves x;
    touches = same_upkeep u v (x.unswept refl) undated;
    by_plan = ⊎_elim {C = FailsByPlan d old.disk old.catalogue.listed u.book c at.moment x.change} (λ (none : x.change ≡ stays). inl none) (λ (drop : DropsFirst d mid u.book e.plan x.change). inr (inl (loses x.change drop))) x.going;
    early = λ before le early. subst (λ b. NoneAfter b at.moment) (sym (x.unswept refl)) (none_later u.book before at.moment le early);
    fits = λ before le in_time early. tt;
    lane = lane ∙ (finds.further).lane;
    ends = still;
    further = tt;
    same = tt;
    unread = λ is. cc;
    calls = λ is. cc;
    tells = tells (Err disks.Failed) serves x;
  }

-- ---- the end

module _ {D : Type 0} (d : Ghosts D) (old new : Parts D) (u : Upkeep) (c : Collector) (at : Place) (kept : SameKept old new) (over : is_over c.plan ≡ true) (goes_on : c.ended ≡ None) where
  abbrev text : List ℕ
  text = book_text (as_of at.moment u.book)

  abbrev Ends : Result GcReport DiskError → Type 0
  Ends r = EndsPlan d old.disk new.disk u.book c.plan at.moment r

  pub ended_does : (report : GcReport) → Serves d.honest d.faults old.disk new.disk (IsErrOf {T = GcReport} (Ok report) disks.Failed) → Ends (Ok report) → DiskWantKeeps {A = GcReport} d old.disk new.disk (Ok report)
      → CollectDoes d old new u u c c at (Ok (Some report))
  ended_does report serves ends keeps = record {
    serves = record { kept = serves.kept; count = serves.count; cause = λ failed. cc };
    kept = kept;
    unrefused = λ refusal is. cc;
    change = installs book_name text;
    may_change = refl;
    content = λ _ honest. ends.installed honest;
    crash = ends.crash;
    touches = refl;
    by_plan = (over, ends.report);
    early = λ before le early. none_later u.book before at.moment le early;
    fits = λ before le in_time early. ends.fits (record { touches = none_later u.book before at.moment le early; in_time = in_time });
    lane = refl;
    ends = goes_on;
    further = tt;
    same = record { start = refl; cutoff = refl; indexes = refl };
    unread = λ is. cc;
    calls = λ is. cc;
    tells = λ acts s w beside able. (ended_tells d old new u c at.moment (Ok report) kept serves ends keeps over acts s w beside able, spares_install s book_name text);
  }

  pub unended_does : (error : DiskError) → Serves d.honest d.faults old.disk new.disk (IsErrOf {T = GcReport} (Err error) disks.Failed) → Ends (Err error) → DiskWantKeeps {A = GcReport} d old.disk new.disk (Err error)
      → CollectDoes d old new u u c c at (end_outcome (Err error))
  unended_does disks.NoMemory serves ends keeps =
      let same = keeps refl in record {
        serves = record { kept = serves.kept; count = serves.count; cause = λ failed. cc };
        kept = kept;
        unrefused = λ refusal is. cc;
        change = stays;
        may_change = refl;
        content = λ _ honest. same.0 honest;
        crash = same_leaves d old.disk new.disk stays (inr same.1);
        touches = refl;
        by_plan = tt;
        early = λ before le early. none_later u.book before at.moment le early;
        fits = λ before le in_time early. tt;
        lane = refl;
        ends = goes_on;
        further = tt;
        same = record { start = refl; cutoff = refl; indexes = refl };
        unread = λ is. cc;
        calls = λ is. cc;
        tells = λ acts s w beside able. (ended_tells d old new u c at.moment (Err disks.NoMemory) kept serves ends keeps over acts s w beside able, spares_same s);
      }
  unended_does disks.Failed serves ends keeps = record {
    serves = record { kept = serves.kept; count = serves.count; cause = λ _. serves.cause refl };
    kept = kept;
    unrefused = λ refusal is. cc;
    change = installs book_name text;
    may_change = inr (inr refl);
    content = λ calm. absurd (calm refl);
    crash = ends.crash;
    touches = refl;
    by_plan = inr (inr (over, refl));
    early = λ before le early. none_later u.book before at.moment le early;
    fits = λ before le in_time early. tt;
    lane = refl;
    ends = goes_on;
    further = tt;
    same = tt;
    unread = λ is. cc;
    calls = λ is. cc;
    tells = λ acts s w beside able. (ended_tells d old new u c at.moment (Err disks.Failed) kept serves ends keeps over acts s w beside able, spares_install s book_name text);
  }
