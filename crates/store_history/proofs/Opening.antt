-- An event of a lane that has no SYNC open: where it opens one, the lane is beside the one that `weave` has.
use Rattle.std.proofs.Common.{◌≡◌, ℕ, Bool, true, false, List, [], Option, Some, None, refl, sym, ap, subst, ◌∙◌, ◌||◌, ◌==◌, is_none, slice_index_or, slice_set, if◌then◌else◌}
use Rattle.std.proofs.lemmas.Bool.{eqb-true}
use Rattle.store_types.specs.declared.order.Entry.{Entry}
use Rattle.store_types.specs.declared.order.TheConstants.{PART_KIND, FAULT_KIND}
use Rattle.store_files.specs.Archive.{Snapshot}
use Rattle.wire_commands.specs.declared.command.Command.TheVariants as commands
use Rattle.wire_commands.specs.declared.reply.Reply.{Reply}
use Rattle.wire_commands.specs.declared.reply.Reply.TheVariants.{Done, Refused}
use Rattle.store_model.specs.declared.ending.Ending.{Ending}
use Rattle.store_model.specs.declared.ending.Ending.TheVariants as endings
use Rattle.store_model.specs.Job.{Asking, Job, over, asking}
use Rattle.store_model.specs.Jobs.{take as job_take}
use Rattle.store_model.specs.Lanes.{Next, job_step, plain, sync, collect, collecting, bye, broken, end}
use Rattle.store_model.specs.Store.{Store}
use Rattle.store_model.specs.Weave.{entered, is_cut_off, is_replied, known}
use Rattle.store_history.specs.declared.act.Act.{Act}
use Rattle.store_history.specs.declared.act.Act.TheVariants as acts
use Rattle.store_history.specs.declared.act.Event.{Event}
use Rattle.store_history.specs.Acts.{Class, stepping, reaching, starting, sweeping, wanting, ending, class_of}
use Rattle.store_history.specs.History.{World, open_on, moved, kind_of, lane, moment, kind, reply}
use Rattle.store_history.specs.Legal.{Right}
use Rattle.store_history.specs.LaneRun.{Task, steps, pulls, sweeps, Ahead, ahead, job_in, Position, lane_of, next_at, tells, used_up, goes_on, pulls_on, heard_at, heard, leaves_unheld, heard_as, last_words, end_faulted, end_heard, position_after, Asks, Does, IsIdle}
use Rattle.store_history.specs.Pulling.{Pulling, sought}
use Rattle.store_history.specs.Remote.{IsRemote}
use Rattle.store_history.proofs.Beside.{BesideBy, bare, no_pull, pull_in}
use Rattle.store_history.proofs.Events.{cuts, noted, turned}
use Rattle.store_history.proofs.Placed.{run_of, at, same_lane, sweep_in, model_next, model_is}
use Rattle.store_history.proofs.Plainly.{ArePlain}
use Rattle.store_history.proofs.Reaching.{Turns, begun_here}
use Rattle.store_history.proofs.Unheld.{flagged, unheld}

-- ---- which answer opens a SYNC

abbrev opens_sync : ℕ → Next → Bool
opens_sync n (sync group left) = n == 1
opens_sync n x = false

sync_of : (n : ℕ) (x : Next) → opens_sync n x ≡ true → (group : List ℕ) × (left : List ℕ) × (x ≡ sync group left) × (n ≡ 1)
sync_of n (sync group left) h = (group, left, refl, eqb-true n 1 h)
sync_of n (job_step j left) h = cc
sync_of n (plain c left) h = cc
sync_of n (collect left) h = cc
sync_of n (collecting is_out_of_memory) h = cc
sync_of n bye h = cc
sync_of n (broken refusal) h = cc
sync_of n end h = cc

goes_idle : (p : Position) (left : List ℕ) (k : Job) → IsIdle (goes_on p left k).task
unfolding goes_on
goes_idle p left (over report) = tt
goes_idle p left (asking j) = tt

-- no other does
stays_idle : (p : Position) (n : ℕ) (r : Option Reply) (x : Next) → IsIdle p.task → opens_sync n x ≡ false → IsIdle (heard_at p n r (ahead x)).task
unfolding heard_at
stays_idle p n (Some r) (job_step j left) idle h = goes_idle p left (job_take j r)
stays_idle p n (Some r) (plain c left) idle h = tt
stays_idle p n (Some r) (sync group left) idle h =
    subst (λ b. IsIdle (if b then pulls_on p p.left (sought group r) else tells p left r).task) (sym h) tt
stays_idle p n (Some r) (collect left) idle h = tt
stays_idle p n None (collect left) idle h = by_kind (n == 3)
  where
    by_kind : (b : Bool) → IsIdle (if b then record p { left = left; task = Some (sweeps false) } else p).task
    by_kind true = tt
    by_kind false = idle
stays_idle p n (Some r) (collecting is_out_of_memory) idle h = by_kind (n == 2)
  where
    by_kind : (b : Bool) → IsIdle (if b then record p { task = Some (sweeps true) } else tells p p.left r).task
    by_kind true = tt
    by_kind false = tt
stays_idle p n (Some r) (broken refusal) idle h = by_kind (n == 2)
  where
    by_kind : (b : Bool) → IsIdle (if b then used_up p r else p).task
    by_kind true = tt
    by_kind false = idle
stays_idle p n (Some r) x idle h = idle
stays_idle p n None (job_step j left) idle h = idle
stays_idle p n None x idle h = idle

words_idle : (e : Ending) (p : Position) (x : Ahead) → IsIdle p.task → IsIdle (last_words e p x).task
unfolding last_words
words_idle e p (ahead bye) idle = by_test (is_replied e)
  where
    by_test : (b : Bool) → IsIdle (if b then tells p [] Done else p).task
    by_test true = tt
    by_test false = idle
words_idle e p (ahead (broken refusal)) idle = by_test (is_replied e)
  where
    by_test : (b : Bool) → IsIdle (if b then tells p [] (Refused refusal) else p).task
    by_test true = tt
    by_test false = idle
words_idle e p x idle = idle

fault_opens : (x : Next) → opens_sync 5 x ≡ false
fault_opens (sync group left) = refl
fault_opens x = refl

faulted_idle : (e : Ending) (p : Position) (r : Option Reply) → IsIdle p.task → IsIdle (end_faulted e p r).task
faulted_idle e p r idle = by_ending e
  where
    heard_idle : IsIdle (heard_at p 5 r (next_at p)).task
    heard_idle = subst (λ y. IsIdle (heard_at p 5 r y).task) (sym (model_is p idle)) (stays_idle p 5 r (model_next p) idle (fault_opens (model_next p)))

    by_test : (b : Bool) → IsIdle (if b then p else heard_at p 5 r (next_at p)).task
    by_test true = idle
    by_test false = heard_idle

    by_ending : (e : Ending) → IsIdle (end_faulted e p r).task
    by_ending endings.NoMemory = by_test (is_none (job_in p.task))
    by_ending e = heard_idle

over_idle : (e : Ending) (p : Position) (n : ℕ) (r : Option Reply) → IsIdle p.task → IsIdle (end_heard e p n r).task
over_idle e p n r idle = by_test (n == 5)
  where
    by_test : (b : Bool) → IsIdle (if b then end_faulted e p r else record (last_words e p (next_at p)) { is_over = true }).task
    by_test true = faulted_idle e p r idle
    by_test false = words_idle e p (next_at p) idle

-- where a SYNC is next its list is asked
asked_list : (n : Next) (a : Act) (group left : List ℕ) → n ≡ sync group left → Asks (ahead n) a → a ≡ acts.RemoteList (commands.Sync group)
asked_list n a group left is h = subst (λ x. Asks (ahead x) a) is h

-- ---- where none is opened it is the lane itself

none_pulled : (t : Option Task) → IsIdle t → pull_in t ≡ None
none_pulled None idle = refl
none_pulled (Some (steps j)) idle = refl
none_pulled (Some (pulls x)) idle = absurd idle
none_pulled (Some (sweeps b)) idle = refl

same_job : (t : Option Task) → job_in t ≡ job_in (no_pull t)
same_job None = refl
same_job (Some (steps j)) = refl
same_job (Some (pulls x)) = refl
same_job (Some (sweeps b)) = refl

same_task : (t : Option Task) → IsIdle t → no_pull t ≡ t
same_task None idle = refl
same_task (Some (steps j)) idle = refl
same_task (Some (pulls x)) idle = absurd idle
same_task (Some (sweeps b)) idle = refl

itself : (R : Option (List Snapshot)) (s : Store) (k : ℕ) (p : Position) → IsIdle p.task → BesideBy R s k p (pull_in p.task) (bare p)
itself R s k p idle = subst (λ (o : Option Pulling). BesideBy R s k p o (bare p)) (sym (none_pulled p.task idle)) (ap (λ (t : Option Task). record p { task = t }) (same_task p.task idle))

module _ (R : Option (List Snapshot)) (w : World) (qs : List Position) (k m : ℕ) (es : List Ending) (later : List Entry)
    (knows : sweep_in (at qs k).task ≡ open_on k w.collecting) (p : Position) (idle : IsIdle p.task) (same : at qs k ≡ p) (remote : IsRemote R) where
  abbrev e : Ending
  e = slice_index_or es k endings.Clean

  -- the act that opened one read the remote
  begins_by : (c : Class) (v : Event) (vs : List Event) (group left : List ℕ) → c ≡ class_of v.act → (c ≡ ending → ⊥) → Does c e p v vs → model_next p ≡ sync group left
      → Right R w k m v.act (reply v) c (kind_of (kind v)) → kind v ≡ PART_KIND → Right R w k m (acts.RemoteList (commands.Sync group)) (reply v) reaching (kind_of (kind v))
  begins_by reaching v vs group left class other does next right one =
      subst (λ a. Right R w k m a (reply v) reaching (kind_of (kind v))) (asked_list (model_next p) v.act group left next (subst (λ y. Asks y v.act) (model_is p idle) does.1)) right
  begins_by stepping v vs group left class other does next right one =
      absurd (subst (λ n. Right R w k m v.act (reply v) stepping (kind_of n)) one right)
  begins_by wanting v vs group left class other does next right one =
      absurd (subst (λ n. Right R w k m v.act (reply v) wanting (kind_of n)) one right)
  begins_by starting v vs group left class other does next right one =
      absurd (subst (λ n. Right R w k m v.act (reply v) starting (kind_of n)) one right)
  begins_by sweeping v vs group left class other does next right one =
      let is = asked_list (model_next p) v.act group left next (subst (λ y. Asks y v.act) (model_is p idle) does) in
      absurd (no_sweep (class ∙ ap class_of is))
    where
      no_sweep : (let c : Class = sweeping in c) ≡ reaching → ⊥
      no_sweep h = cc
  begins_by ending v vs group left class other does next right one = absurd (other refl)

  -- an answer that was heard of what is next
  abbrev of : Bool → Event → Ahead → Position
  of b v y = unheld b (flagged v.answer (heard_at p (kind v) (reply v) y))

  heard_beside : (b : Bool) (c : Class) (v : Event) (vs : List Event) → c ≡ class_of v.act → (c ≡ ending → ⊥) → Does c e p v vs → Right R w k m v.act (reply v) c (kind_of (kind v))
      → BesideBy R (moved R w k m v.act (kind_of (kind v))).store k (of b v (next_at p)) (pull_in (of b v (next_at p)).task) (bare (of b v (next_at p)))
  unfolding moved
  heard_beside b c v vs class other does right =
      subst (λ (p' : Position). BesideBy R (moved R w k m v.act (kind_of (kind v))).store k p' (pull_in p'.task) (bare p')) (ap (of b v) (sym (model_is p idle)))
      (by_test (opens_sync (kind v) (model_next p)) refl)
    where
      by_test : (t : Bool) → opens_sync (kind v) (model_next p) ≡ t
          → BesideBy R (moved R w k m v.act (kind_of (kind v))).store k (of b v (ahead (model_next p))) (pull_in (of b v (ahead (model_next p))).task) (bare (of b v (ahead (model_next p))))
      by_test false is =
          itself R (moved R w k m v.act (kind_of (kind v))).store k (of b v (ahead (model_next p))) (stays_idle p (kind v) (reply v) (model_next p) idle is)
      by_test true is =
          let x = sync_of (kind v) (model_next p) is in
          subst (λ (s : Store). BesideBy R s k (of b v (ahead (model_next p))) (pull_in (of b v (ahead (model_next p))).task) (bare (of b v (ahead (model_next p)))))
          (sym (ap (λ n. (moved R w k m v.act (kind_of n)).store) x.3))
          (subst (λ (y : Next). BesideBy R w.store k (of b v (ahead y)) (pull_in (of b v (ahead y)).task) (bare (of b v (ahead y)))) (sym x.2)
          (begun_here R w qs k m es later knows p idle same remote v x.0 x.1 (reply v) (kind v) (model_is p idle ∙ ap ahead x.2) (begins_by c v vs x.0 x.1 class other does x.2 right x.3) x.3
          b ((v.answer).last || (heard_at p (kind v) (reply v) (ahead (sync x.0 x.1))).is_spent)))

  -- an event of the lane
  pub turned_idle : (c : Class) (v : Event) (vs : List Event) → c ≡ class_of v.act → lane v ≡ k → moment v ≡ m → Does c e p v vs → ArePlain (job_in p.task)
      → (kind v ≡ FAULT_KIND → is_cut_off (run_of R w qs) k e later ≡ cuts c e p)
      → Right R w k m v.act (reply v) c (kind_of (kind v)) → Turns R w qs k m es later knows v.act (kind v) (position_after e p v)
  unfolding position_after heard
  turned_idle c v vs class l t does kept cut right = (
    bare (position_after e p v),
    subst (λ (y : Position). IsIdle y.task → Does (class_of v.act) e y v vs → (kind v ≡ FAULT_KIND → is_cut_off (run_of R w qs) k e later ≡ cuts (class_of v.act) e y) → ArePlain (job_in y.task)
        → entered (known es) (run_of R w qs) w.events (noted R w qs k m (kind v)) later ≡ Some (run_of R (moved R w k m v.act (kind_of (kind v))) (slice_set qs k (position_after e y v)))) same
        (λ i d u n. turned R w qs k m es later knows n v vs i l t d u (subst (λ y. Right R w k m v.act (reply v) y (kind_of (kind v))) class right))
        idle (subst (λ y. Does y e p v vs) class does) (subst (λ y. kind v ≡ FAULT_KIND → is_cut_off (run_of R w qs) k e later ≡ cuts y e p) class cut) kept
        ∙ ap Some (same_lane R (moved R w k m v.act (kind_of (kind v))) qs k (position_after e p v) (bare (position_after e p v))
        (ap (λ (j : Option Asking). record (lane_of (position_after e p v)) { job = j }) (same_job (position_after e p v).task))),
    subst (λ y. BesideBy R (moved R w k m v.act (kind_of (kind v))).store k (heard_as y e p v.answer) (pull_in (heard_as y e p v.answer).task) (bare (heard_as y e p v.answer))) class (by_class c class does right),
  )
    where
      by_class : (d : Class) → d ≡ class_of v.act → Does d e p v vs → Right R w k m v.act (reply v) d (kind_of (kind v))
          → BesideBy R (moved R w k m v.act (kind_of (kind v))).store k (heard_as d e p v.answer) (pull_in (heard_as d e p v.answer).task) (bare (heard_as d e p v.answer))
      by_class ending is does right = itself R (moved R w k m v.act (kind_of (kind v))).store k (end_heard e p (kind v) (reply v)) (over_idle e p (kind v) (reply v) idle)
      by_class stepping is does right = heard_beside false stepping v vs is (λ h. cc) does right
      by_class reaching is does right = heard_beside false reaching v vs is (λ h. cc) does right
      by_class starting is does right = heard_beside false starting v vs is (λ h. cc) does right
      by_class sweeping is does right = heard_beside false sweeping v vs is (λ h. cc) does right
      by_class wanting is does right = heard_beside (leaves_unheld p v.answer) wanting v vs is (λ h. cc) does right
