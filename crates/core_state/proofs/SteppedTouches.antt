-- The core's book and plan stay those of the history, with one act more of a collector after its start.
use Rattle.disk_trait.specs.declared.disk.Disk.{Ghosts}
use Rattle.std.proofs.Common.{◌≡◌, ◌↔◌, ◌+◌, ℕ, zero, suc, max, Bool, true, false, cond, is_some, length, length-append, List, [], ◌∷◌, ◌++◌, filter, Option, Some, None, refl, sym, ap, subst, ◌∙◌, arith}
use Rattle.std.specs.FinMap.{get}
use Rattle.std.specs.List.{All}
use Rattle.std.specs.Option.{IsSome}
use Rattle.std.specs.Prelude.{IfSome, IsSomeAnd, not, option_map}
use Rattle.std.specs.Str.{bytes_eq}
use Rattle.port_traits.specs.Readings.{Readings}
use Rattle.store_files.specs.Archive.{Snapshot}
use Rattle.store_files.specs.Folder.{IsDigest, chunk_name}
use Rattle.wire_commands.specs.declared.reply.Reply.{Reply}
use Rattle.gc_plan.specs.Plan.{next_index}
use Rattle.store_history.specs.declared.act.Act.TheVariants.{Step}
use Rattle.store_history.specs.declared.act.Answer.{Answer}
use Rattle.store_history.specs.declared.act.Event.{Event}
use Rattle.store_history.specs.Acts.{sweeping}
use Rattle.store_history.specs.History.{World, after, kind, kind_of, lane as lane_of, moment, opened, reply as reply_of}
use Rattle.store_history.specs.LastTouches.{LastTouches, SameTouches, dated, is_one_of, touched}
use Rattle.store_history.specs.Sweeping.{FitsSweep, Sweep, Swept, Unmarked, forgets, is_over, is_pass, next_marks, next_taken, passed, spared, swept_after, swept_at, swept_by, sweep_of, taken_in, marks_in, while_open, without}
use Rattle.store_history.proofs.SweptLonger.{is_swept_longer, swept_longer}
use Rattle.core_state.specs.declared.collector.Collector.{Collector}
use Rattle.core_state.specs.declared.kept.Listed.{Listed}
use Rattle.core_state.specs.declared.state.Core.{Core}
use Rattle.core_state.specs.Collectors.{open_in, shown_collecting}
use Rattle.core_state.specs.History.{History, StandsFor, event_of, then_event, world}
use Rattle.core_state.specs.KeepsTouches.{KeepsTouches, swept_of, touches_of_history}
use Rattle.core_state.specs.Sweeps.{FitsRemoved, HasNumber, HasPages, ShowsOpen, ShowsSweep, unmarked_by, visits_by}
use Rattle.core_state.specs.Upkeeps.{touches_kept}
use Rattle.core_state.proofs.Entered.{world_more}
use Rattle.core_state.proofs.LaterPlans.{WasOpen, none_open, stays_open}
use Rattle.core_state.proofs.Plans.{numbers_later}
use Rattle.core_state.proofs.Recorded.{numbers_more}
use Rattle.core_state.proofs.SameSnapshots.{moved_keeps}
use Rattle.core_state.proofs.Stepped.{IsStepped}
use Rattle.core_state.proofs.Touching.{dated_same, same_back, same_then}

-- ---- marks, visits and dates

module _ (when : ℕ) where
  abbrev raised : Option ℕ → Option ℕ
  raised last = option_map (λ last. max last when) last

  -- of one chunk: whether it is taken out, marked and undated
  one_commutes : (gone marked undated : Bool) (last : Option ℕ)
      → cond undated (raised (cond gone None (cond marked (raised last) last))) (cond gone None (cond marked (raised last) last))
      ≡ cond gone None (cond marked (raised (cond undated (raised last) last)) (cond undated (raised last) last))
  one_commutes true marked true last = refl
  one_commutes true marked false last = refl
  one_commutes false true true last = refl
  one_commutes false true false last = refl
  one_commutes false false true last = refl
  one_commutes false false false last = refl

  taken_commutes : (taken : Option (List ℕ)) (which : List ℕ → Bool) (t : LastTouches) → SameTouches (dated when (without taken (touched which when t))) (without taken (touched which when (dated when t)))
  taken_commutes None which t = record { last = λ d. one_commutes false (which d) (t.undated d) (t.last d); undated = λ d. refl }
  taken_commutes (Some x) which t = record { last = λ d. one_commutes (bytes_eq x d) (which d) (t.undated d) (t.last d); undated = λ d. refl }

there_raised : (here : Bool) (when : ℕ) (last : Option ℕ) → is_some (cond here (option_map (λ last. max last when) last) last) ≡ is_some last
there_raised true when None = refl
there_raised true when (Some n) = refl
there_raised false when last = refl

-- a chunk is there where it was before it was dated
there_dated : (x : List ℕ) (when : ℕ) (t : LastTouches) → is_some ((dated when t).last x) ≡ is_some (t.last x)
there_dated x when t = there_raised (t.undated x) when (t.last x)

-- ---- the sweep

no_pass_but : (n : ℕ) → (n ≡ 1 → ⊥) → is_pass sweeping (kind_of n) ≡ false
no_pass_but zero other = refl
no_pass_but (suc zero) other = absurd (other refl)
no_pass_but (suc (suc zero)) other = refl
no_pass_but (suc (suc (suc zero))) other = refl
no_pass_but (suc (suc (suc (suc zero)))) other = refl
no_pass_but (suc (suc (suc (suc (suc zero))))) other = refl
no_pass_but (suc (suc (suc (suc (suc (suc zero)))))) other = refl
no_pass_but (suc (suc (suc (suc (suc (suc (suc zero))))))) other = refl
no_pass_but (suc (suc (suc (suc (suc (suc (suc (suc n)))))))) other = refl

spared_but : (w : World) (s : Swept) (e : Event) (n : ℕ) → (n ≡ 1 → ⊥) → swept_by w s e sweeping (kind_of n) ≡ option_map (spared e.act (reply_of e)) s.sweep
spared_but w s e zero other = refl
spared_but w s e (suc zero) other = absurd (other refl)
spared_but w s e (suc (suc zero)) other = refl
spared_but w s e (suc (suc (suc zero))) other = refl
spared_but w s e (suc (suc (suc (suc zero)))) other = refl
spared_but w s e (suc (suc (suc (suc (suc zero))))) other = refl
spared_but w s e (suc (suc (suc (suc (suc (suc zero)))))) other = refl
spared_but w s e (suc (suc (suc (suc (suc (suc (suc zero))))))) other = refl
spared_but w s e (suc (suc (suc (suc (suc (suc (suc (suc n)))))))) other = refl

-- no index is forgotten
all_spared : (r : Option Reply) (us : List Unmarked) → filter (λ u. not (forgets Step r u.key)) us ≡ us
all_spared r [] = refl
all_spared r (u ∷ us) = ap (λ vs. u ∷ vs) (all_spared r us)

spared_same : (r : Option Reply) (sweep : Sweep) → spared Step r sweep ≡ sweep
spared_same r sweep = ap (λ us. record sweep { unmarked = us }) (all_spared r sweep.unmarked)

spared_none : (r : Option Reply) (o : Option Sweep) → option_map (spared Step r) o ≡ o
spared_none r None = refl
spared_none r (Some sweep) = ap (λ x. Some x) (spared_same r sweep)

-- of the same plan, with the same digests at hand, after one act more
pub shows_later : (acts : ℕ) (c : List Listed) (s : List Snapshot) (x y : Collector) (sweep : Sweep) → y.plan ≡ x.plan → y.pages ≡ x.pages → ShowsSweep acts c s x sweep → ShowsSweep (acts + 1) c s y sweep
shows_later acts c s x y sweep plan pages h = record {
  start = ap (λ g. g.start) plan ∙ h.start;
  cutoff = ap (λ g. g.cutoff) plan ∙ h.cutoff;
  unmarked = ap (λ g. unmarked_by c s g.indexes g.stage) plan ∙ h.unmarked;
  to_visit = ap (λ g. visits_by g.stage) plan ∙ h.to_visit;
  removed = ap (λ g. g.removed) plan ∙ h.removed;
  few = subst (λ g. FitsRemoved g.stage g.removed) (sym plan) h.few;
  pages = subst (λ o. IfSome o (λ q. HasPages c s q (next_index y.plan))) (sym pages)
      (subst (λ g. IfSome x.pages (λ q. HasPages c s q (next_index g))) (sym plan) h.pages);
  numbers = subst (λ g. All (HasNumber (acts + 1)) g.indexes) (sym plan) (numbers_later acts (x.plan).indexes h.numbers);
}

-- ---- one act more

module _ {D E C : Type 0} (d : Ghosts D) (readings : C → Option Readings) (old acted new : Core D E C) (h : History) (k m n : ℕ) (reply : Option Reply) (answer : Answer)
    (is : IsStepped d readings old acted new k m n reply answer) (so : StandsFor d readings new (then_event h (event_of Step answer (d.calls (new.parts).disk)))) (touches : KeepsTouches d old h) where
  abbrev e : Event
  e = event_of Step answer (d.calls (new.parts).disk)

  abbrev w : World
  w = world h

  abbrev u : Swept
  u = swept_of h

  abbrev acts : ℕ
  acts = length (old.journal).entries.items

  abbrev c : List Listed
  c = (old.parts).catalogue.listed

  abbrev snapshots : List Snapshot
  snapshots = (w.store).snapshots

  abbrev after_ : Swept
  after_ = swept_after h.remote w u e

  longer : swept_of (then_event h e) ≡ after_
  longer = swept_longer h.remote h.opening h.events e

  kind_is : kind e ≡ n
  kind_is = ap (λ x. x.kind) (is.entered).entry

  moment_is : moment e ≡ m
  moment_is = ap (λ x. x.moment) (is.entered).entry

  count : length (new.journal).entries.items ≡ acts + 1
  count = let all = ap length (is.entered).entries in let was = ap length is.entries in omega (arith, all, was, length-append (acted.journal).entries.items (answer.entry ∷ []))

  listed : (new.parts).catalogue.listed ≡ c
  listed = ap (λ p. p.catalogue.listed) (is.entered).parts ∙ (is.kept).catalogue

  still : ((world (then_event h e)).store).snapshots ≡ snapshots
  unfolding after
  still = ap (λ (v : World). (v.store).snapshots) (world_more h e) ∙ moved_keeps h.remote w (lane_of e) (moment e) Step (kind_of (kind e)) tt refl

  -- chunk files are there where chunks were touched
  abbrev pub HasChunks : LastTouches → Type 0
  HasChunks t = (x : List ℕ) → IsDigest x → IsSome (get (d.content (acted.parts).disk) (chunk_name x)) ↔ IsSome (t.last x)

  has_dated : (t : LastTouches) → SameTouches after_.touches (dated m t) → HasChunks t → (x : List ℕ) → IsDigest x
      → IsSome (get (d.content (new.parts).disk) (chunk_name x)) ↔ IsSome ((touches_of_history (then_event h e)).last x)
  has_dated t same has x digest =
      let there : is_some ((touches_of_history (then_event h e)).last x) ≡ is_some (t.last x) = ap (λ (v : Swept). is_some (v.touches.last x)) longer ∙ ap is_some (same.last x) ∙ there_dated x m t in
      let file : is_some (get (d.content (new.parts).disk) (chunk_name x)) ≡ is_some (get (d.content (acted.parts).disk) (chunk_name x)) = ap (λ p. is_some (get (d.content p.disk) (chunk_name x))) (is.entered).parts in
      (λ here. there ∙ (has x digest).0 (sym file ∙ here), λ here. file ∙ (has x digest).1 (sym there ∙ here))

  -- the touches so far, and the entry's date
  keeps_by : (t : LastTouches) → SameTouches (touches_kept acted.upkeep) t → SameTouches after_.touches (dated m t) → (new.fault ≡ None → HasChunks t)
      → ShowsOpen (length (new.journal).entries.items) (new.parts).catalogue.listed ((world (then_event h e)).store).snapshots new.collector (swept_of (then_event h e)).sweep
      → FitsSweep w u (lane_of e) (reply_of e) sweeping (kind_of (kind e)) → KeepsTouches d new (then_event h e)
  keeps_by t same then_is has shows fits = record {
    touches = subst (λ (v : Swept). SameTouches (touches_kept new.upkeep) v.touches) (sym longer)
        (same_then (touches_kept new.upkeep) (dated m (touches_kept acted.upkeep)) after_.touches (is.entered).upkeep
        (same_then (dated m (touches_kept acted.upkeep)) (dated m t) after_.touches (dated_same m (touches_kept acted.upkeep) t same) (same_back after_.touches (dated m t) then_is)));
    present = λ none x digest. has_dated t then_is (has none) x digest;
    sweep = shows;
    is_swept = is_swept_longer h.remote (opened h.opening) (swept_at h.opening) h.events e touches.is_swept fits;
    numbers = numbers_more old new k Step answer ((is.entered).place ∙ ap length is.entries) ((is.entered).entries ∙ ap (λ xs. xs ++ answer.entry ∷ []) is.entries) listed touches.numbers;
  }

  -- ---- neither a mark nor a visit

  unpassed : (n ≡ 1 → ⊥) → sweep_of u.sweep (is_pass sweeping (kind_of (kind e))) ≡ None
  unpassed other = ap (λ x. sweep_of u.sweep (is_pass sweeping (kind_of x))) kind_is ∙ ap (sweep_of u.sweep) (no_pass_but n other)

  dated_alone : (n ≡ 1 → ⊥) → SameTouches after_.touches (dated m u.touches)
  unfolding swept_after
  dated_alone other =
      subst (λ x. SameTouches after_.touches (dated x u.touches)) moment_is
      (subst (λ o. SameTouches (without (taken_in u o) (touched (λ x. is_one_of x (marks_in o)) (moment e) (dated (moment e) u.touches))) (dated (moment e) u.touches)) (sym (unpassed other))
      (record { last = λ x. refl; undated = λ x. refl }))

  sweep_stays : (n ≡ 1 → ⊥) → (swept_of (then_event h e)).sweep ≡ while_open (world (then_event h e)).collecting u.sweep
  unfolding swept_after
  sweep_stays other =
      ap (λ (v : Swept). v.sweep) longer
      ∙ ap (λ x. while_open (after h.remote w e).collecting (swept_by w u e sweeping (kind_of x))) kind_is
      ∙ ap (while_open (after h.remote w e).collecting) (spared_but w u e n other ∙ spared_none (reply_of e) u.sweep)
      ∙ sym (ap (λ (v : World). while_open v.collecting u.sweep) (world_more h e))

  -- by the collector before the entry, which has closed it or left it open
  shows_on : (n ≡ 1 → ⊥) → (was : Option Collector) → ShowsOpen acts c snapshots was u.sweep → ((y : Collector) → new.collector ≡ Some y → WasOpen was y)
      → ShowsOpen (length (new.journal).entries.items) (new.parts).catalogue.listed ((world (then_event h e)).store).snapshots new.collector (swept_of (then_event h e)).sweep
  shows_on other was shows before = by_open new.collector refl
    where
      Shows : Option Collector → Type 0
      Shows o = ShowsOpen (length (new.journal).entries.items) (new.parts).catalogue.listed ((world (then_event h e)).store).snapshots o (swept_of (then_event h e)).sweep

      by_sweep : (x y : Collector) → new.collector ≡ Some y → y.plan ≡ x.plan → y.pages ≡ x.pages → (o : Option Sweep) → u.sweep ≡ o → IsSomeAnd o (ShowsSweep acts c snapshots x) → Shows (Some y)
      by_sweep x y at plan pages None none shows = absurd shows
      by_sweep x y at plan pages (Some sweep) some shows =
          let sweeps : (swept_of (then_event h e)).sweep ≡ Some sweep =
          sweep_stays other ∙ stays_open (record { lane = y.lane; ended = y.ended }) (world (then_event h e)).collecting u.sweep (sym (ap open_in at) ∙ so.collecting) ∙ some in
          subst (λ o. ShowsOpen (length (new.journal).entries.items) (new.parts).catalogue.listed ((world (then_event h e)).store).snapshots (Some y) o) (sym sweeps)
          (subst (λ q. ShowsSweep q (new.parts).catalogue.listed ((world (then_event h e)).store).snapshots y sweep) (sym count)
          (subst (λ l. ShowsSweep (acts + 1) l ((world (then_event h e)).store).snapshots y sweep) (sym listed)
          (subst (λ l. ShowsSweep (acts + 1) c l y sweep) (sym still) (shows_later acts c snapshots x y sweep plan pages shows))))

      by_open : (o : Option Collector) → new.collector ≡ o → Shows o
      by_open None at = sweep_stays other ∙ ap (λ v. while_open v u.sweep) (none_open (world (then_event h e)).collecting (sym (ap open_in at) ∙ so.collecting))
      by_open (Some y) at =
          let x = before y at in
          by_sweep x.was y at x.plan x.same_pages u.sweep refl (subst (λ o. ShowsOpen acts c snapshots o u.sweep) x.there shows)

  pub unpassed_keeps : (n ≡ 1 → ⊥) → SameTouches (touches_kept acted.upkeep) (touches_kept old.upkeep) → (new.fault ≡ None → HasChunks (touches_of_history h))
      → (was : Option Collector) → ShowsOpen acts c snapshots was u.sweep → ((y : Collector) → new.collector ≡ Some y → WasOpen was y)
      → FitsSweep w u (answer.entry).lane answer.reply sweeping (kind_of (answer.entry).kind) → KeepsTouches d new (then_event h (event_of Step answer (d.calls (new.parts).disk)))
  unpassed_keeps other same has was shows before fits =
      keeps_by u.touches (same_then (touches_kept acted.upkeep) (touches_kept old.upkeep) u.touches same touches.touches) (dated_alone other) has (shows_on other was shows before) fits

  -- ---- a mark or a visit

  module _ (one : n ≡ 1) (sweep : Sweep) (there : u.sweep ≡ Some sweep) where
    -- before the entry dates what is undated
    abbrev pub touches_passed : LastTouches
    touches_passed = without (next_taken u sweep sweep.unmarked) (touched (λ x. is_one_of x (next_marks sweep.unmarked)) m u.touches)

    its_sweep : sweep_of u.sweep (is_pass sweeping (kind_of (kind e))) ≡ Some sweep
    its_sweep = ap (λ x. sweep_of u.sweep (is_pass sweeping (kind_of x))) (kind_is ∙ one) ∙ there

    passed_dated : SameTouches after_.touches (dated m touches_passed)
    unfolding swept_after
    passed_dated =
        subst (λ o. SameTouches (without (taken_in u o) (touched (λ x. is_one_of x (marks_in o)) (moment e) (dated (moment e) u.touches))) (dated m touches_passed)) (sym its_sweep)
        (subst (λ x. SameTouches (without (next_taken u sweep sweep.unmarked) (touched (λ x. is_one_of x (next_marks sweep.unmarked)) x (dated x u.touches))) (dated m touches_passed)) (sym moment_is)
        (same_back (dated m touches_passed) (without (next_taken u sweep sweep.unmarked) (touched (λ x. is_one_of x (next_marks sweep.unmarked)) m (dated m u.touches)))
        (taken_commutes m (next_taken u sweep sweep.unmarked) (λ x. is_one_of x (next_marks sweep.unmarked)) u.touches)))

    sweep_passes : (swept_of (then_event h e)).sweep ≡ while_open (world (then_event h e)).collecting (Some (passed u sweep sweep.unmarked))
    unfolding swept_after
    sweep_passes =
        ap (λ (v : Swept). v.sweep) longer
        ∙ ap (λ x. while_open (after h.remote w e).collecting (swept_by w u e sweeping (kind_of x))) (kind_is ∙ one)
        ∙ ap (λ o. while_open (after h.remote w e).collecting (option_map (λ x. passed u x x.unmarked) o)) there
        ∙ sym (ap (λ (v : World). while_open v.collecting (Some (passed u sweep sweep.unmarked))) (world_more h e))

    fits_pass : is_over sweep ≡ false → FitsSweep w u (lane_of e) (reply_of e) sweeping (kind_of (kind e))
    fits_pass going =
        subst (λ x. FitsSweep w u (lane_of e) (reply_of e) sweeping (kind_of x)) (sym (kind_is ∙ one)) (subst (λ o. IsSomeAnd o (λ x. is_over x ≡ false)) (sym there) going)

    pub passed_keeps : is_over sweep ≡ false → SameTouches (touches_kept acted.upkeep) touches_passed → HasChunks touches_passed
        → (y : Collector) → new.collector ≡ Some y → ShowsSweep acts c snapshots y (passed u sweep sweep.unmarked)
        → KeepsTouches d new (then_event h (event_of Step answer (d.calls (new.parts).disk)))
    passed_keeps going same has y at shows =
        let held : open_in (Some y) ≡ shown_collecting (world (then_event h e)).collecting = sym (ap open_in at) ∙ so.collecting in
        let sweeps : (swept_of (then_event h e)).sweep ≡ Some (passed u sweep sweep.unmarked) =
        sweep_passes ∙ stays_open (record { lane = y.lane; ended = y.ended }) (world (then_event h e)).collecting (Some (passed u sweep sweep.unmarked)) held in
        keeps_by touches_passed same passed_dated (λ _. has)
        (subst (λ o. ShowsOpen (length (new.journal).entries.items) (new.parts).catalogue.listed ((world (then_event h e)).store).snapshots o (swept_of (then_event h e)).sweep) (sym at)
        (subst (λ o. ShowsOpen (length (new.journal).entries.items) (new.parts).catalogue.listed ((world (then_event h e)).store).snapshots (Some y) o) (sym sweeps)
        (subst (λ q. ShowsSweep q (new.parts).catalogue.listed ((world (then_event h e)).store).snapshots y (passed u sweep sweep.unmarked)) (sym count)
        (subst (λ l. ShowsSweep (acts + 1) l ((world (then_event h e)).store).snapshots y (passed u sweep sweep.unmarked)) (sym listed)
        (subst (λ l. ShowsSweep (acts + 1) c l y (passed u sweep sweep.unmarked)) (sym still)
        (shows_later acts c snapshots y y (passed u sweep sweep.unmarked) refl refl shows))))))
        (fits_pass going)
