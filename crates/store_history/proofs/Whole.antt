-- A legal history whose lanes run their programs is what `weave` gives.
use Rattle.std.proofs.Common.{◌≡◌, ◌≢◌, ◌⊎◌, inl, inr, ℕ, zero, suc, ◌+◌, ◌-◌, ◌<◌, Bool, true, false, List, [], ◌∷◌, map, length, cond, Option, Some, None, Ok, Err, Result, refl, sym, ap, subst, ◌∙◌, arith, ◌==◌, ◌&&◌, ◌||◌, not, is_none, is_some, slice_index_or, slice_set}
use Rattle.std.specs.List.{find}
use Rattle.std.proofs.lemmas.Bool.{eq-eqb, eqb-true}
use Rattle.std.proofs.Math.ListN.{get_or-map}
use Rattle.std.proofs.lemmas.List.{get_or-set_same, get_or-set_other, length-set, length-map}
use Rattle.store_types.specs.declared.order.Entry.{Entry}
use Rattle.store_types.specs.declared.order.TheConstants.{MEMORY_KIND, FAULT_KIND, END_KIND}
use Rattle.store_files.specs.Archive.{Snapshot}
use Rattle.wire_commands.specs.Inputs.{front}
use Rattle.wire_commands.specs.declared.reply.Reply.{Reply}
use Rattle.store_model.specs.declared.ending.Ending.{Ending}
use Rattle.store_model.specs.declared.ending.Ending.TheVariants as endings
use Rattle.store_model.specs.Lanes.{Run, Next, job_step, plain, sync, collect, collecting, bye, broken, end, collects, lane_next, front_next, new_lane, new_run}
use Rattle.store_model.proofs.LaneLemmas.{is_act, lane_no_act}
use Rattle.store_types.specs.declared.refusal.Refusal.TheVariants.{BadName}
use Rattle.store_types.specs.Chain.Refusing.{◌>>=◌, or_else}
use Rattle.store_types.specs.Names.{group_of}
use Rattle.store_model.specs.Store.{Store, session, want_idle}
use Rattle.store_model.specs.Heads.{group_in, idle_in, idle_group}
use Rattle.store_model.specs.Weave.{is_cut_off, is_end, run_from, known, misfit, Misfit, entered, weave, woven, woven_of, Woven}
use Rattle.store_history.specs.declared.act.Act.{Act}
use Rattle.store_history.specs.declared.act.Event.{Event}
use Rattle.store_history.specs.Acts.{Class, stepping, reaching, starting, sweeping, wanting, ending, class_of}
use Rattle.store_history.specs.declared.act.Answer.{Answer}
use Rattle.store_history.specs.History.{Opening, World, opened, open_on, kind_of, entry, lane, moment, kind, reply, entries, own, after, after_all}
use Rattle.store_history.specs.Legal.{Right, IsRight, IsLegal}
use Rattle.store_history.specs.LaneRun.{text, plain_text, Task, steps, pulls, sweeps, pull_ahead, ahead_by, job_in, Position, begin, lane_of, next_at, heard_at, heard, heard_as, position_after, stops, may_step, Asks, Does, EndFollows, Runs, IsIdle, IsShut}
use Rattle.store_history.specs.Pulling.{Pulling, comparing, take}
use Rattle.store_history.specs.Remote.{IsRemote}
use Rattle.store_history.specs.Woven.{AreLanes, ending_at, IsServed, IsWoven}
use Rattle.store_history.proofs.Collectors.{collects_is}
use Rattle.store_history.proofs.Apart.{moved_apart}
use Rattle.store_history.proofs.Beside.{Beside, BesideBy, IsOther, asks_no_other, no_pull, pull_in}
use Rattle.store_history.proofs.Keyed.{HasKeys, keys_opened, moved_keyed}
use Rattle.store_history.proofs.Opening.{turned_idle}
use Rattle.store_history.proofs.Placed.{run_of, at, lane_is, sweep_in, model_next, model_is}
use Rattle.store_history.proofs.Reaching.{Turns, reached}
use Rattle.store_history.proofs.Plainly.{ArePlain}
use Rattle.store_model.specs.Job.{Asking}
use Rattle.store_history.proofs.Events.{none_swept, IsEnding, FitsNext, asks_class, ending_is, right_end, cuts}
use Rattle.store_history.proofs.Growing.{heard_at_spent}
use Rattle.store_history.proofs.Unheld.{heard_open}
use Rattle.store_history.proofs.Keeping.{NoStart, others_keep, own_keeps, own_plain, pull_keeps, pulls_plain}

clash : true ≡ false → ⊥
clash h = cc

some_job : (j : Asking) → Some j ≡ None → ⊥
some_job j h = cc

-- what is heard of an act that is no lane's end, while something is open
pub heard_other : (c : Class) (e : Ending) (p : Position) (a : Answer) → is_none p.task ≡ false → (c ≡ ending → ⊥) → heard_as c e p a ≡ heard p a
heard_other ending e p a opened other = absurd (other refl)
heard_other stepping e p a opened other = refl
heard_other reaching e p a opened other = refl
heard_other starting e p a opened other = refl
heard_other sweeping e p a opened other = refl
heard_other wanting e p a opened other = heard_open p a opened

-- ---- a lane's own events

pub own_here : (v : Event) (vs : List Event) → own (lane v) (v ∷ vs) ≡ v ∷ own (lane v) vs
own_here v vs = ap (λ b. cond b (v ∷ own (lane v) vs) (own (lane v) vs)) (eq-eqb (lane v) (lane v) refl)

pub own_other : (k : ℕ) (v : Event) (vs : List Event) → (lane v == k) ≡ false → own k (v ∷ vs) ≡ own k vs
own_other k v vs is = ap (λ b. cond b (v ∷ own k vs) (own k vs)) is

head_entry : List Event → Option Entry
head_entry [] = None
head_entry (v ∷ vs) = Some (entry v)

find_own : (k : ℕ) (vs : List Event) → find (λ e. e.lane == k) (entries vs) ≡ head_entry (own k vs)
unfolding head_entry
find_own k [] = refl
find_own k (v ∷ vs) = by_test (lane v == k) (find_own k vs)
  where
    by_test : (b : Bool) → find (λ e. e.lane == k) (entries vs) ≡ head_entry (own k vs)
        → cond b (Some (entry v)) (find (λ e. e.lane == k) (entries vs)) ≡ head_entry (cond b (v ∷ own k vs) (own k vs))
    by_test true ih = refl
    by_test false ih = ih

-- an entry of kind 6 is an end's
pub EndsRight : List Event → Type 0
EndsRight [] = Unit {0}
EndsRight (v ∷ vs) = kind v ≡ END_KIND → IsEnding (class_of v.act)

pub legal_own : (R : Option (List Snapshot)) (w : World) (k : ℕ) (vs : List Event) → IsLegal R w vs → EndsRight (own k vs)
unfolding EndsRight
legal_own R w k [] legal = tt
legal_own R w k (v ∷ vs) legal = by_test (lane v == k) (legal_own R (after R w v) k vs legal.1)
  where
    by_test : (b : Bool) → EndsRight (own k vs) → EndsRight (cond b (v ∷ own k vs) (own k vs))
    by_test true ih = λ h. right_end R w [] (lane v) (moment v) v.act (reply v) (class_of v.act) (subst (λ n. Right R w (lane v) (moment v) v.act (reply v) (class_of v.act) (kind_of n)) h (legal.0).says)
    by_test false ih = ih

-- ---- which fault is not told

-- where want of memory ended the lane, a command that met a fault is not its last event
told_first : (q : Position) (vs : List Event) (told : List Reply) → (q.is_unheld || q.is_spent) ≡ false
    → Runs endings.NoMemory q vs told → EndsRight vs → is_end (head_entry vs) ≡ false
unfolding EndsRight head_entry
told_first q [] told off runs right = refl
told_first q (v ∷ vs) told off runs right = by_test (kind v == END_KIND) refl
  where
    by_test : (b : Bool) → (kind v == END_KIND) ≡ b → (kind v == END_KIND) ≡ false
    by_test true is =
        let c = ending_is (class_of v.act) (right (eqb-true (kind v) 6 is)) in
        let does : Does ending endings.NoMemory q v vs = subst (λ x. Does x endings.NoMemory q v vs) c runs.1 in
        absurd (clash (sym (does.0).0 ∙ off))
    by_test false is = is

end_follows : (vs : List Event) → EndFollows vs → is_end (head_entry vs) ≡ true
unfolding head_entry
end_follows [] h = absurd h
end_follows (v ∷ []) h = ap (λ n. n == 6) h.1
end_follows (v ∷ u ∷ vs) h = absurd h

-- no act of a collector is next where none is open
shut_sweeps : (p : Position) → FitsNext (model_next p) sweeping → sweep_in p.task ≡ None → ⊥
shut_sweeps p fits shut = fits_shut (lane_next (lane_of p)) (lane_no_act (lane_of p)) (subst (λ o. FitsNext (elim o [ None ↦ lane_next (lane_of p) | Some is_out_of_memory ↦ collecting is_out_of_memory ]) sweeping) shut fits)
  where
    fits_shut : (n : Next) → is_act n ≡ false → FitsNext n sweeping → ⊥
    fits_shut (collecting is_out_of_memory) unlike h = cc
    fits_shut (job_step j left) unlike h = h
    fits_shut (plain c left) unlike h = h
    fits_shut (sync group left) unlike h = h
    fits_shut (collect left) unlike h = h
    fits_shut bye unlike h = h
    fits_shut (broken refusal) unlike h = h
    fits_shut end unlike h = h

-- an answer of a fault is no want of memory, and not the last
not_short : (p : Position) (v : Event) → p.is_spent ≡ false → ((v.answer).last ≡ true → kind v ≡ MEMORY_KIND) → kind v ≡ FAULT_KIND
    → ((heard p v.answer).is_unheld || (heard p v.answer).is_spent) ≡ false
unfolding heard
not_short p v on last is =
    ap (λ b. b || (heard_at p (kind v) (reply v) (next_at p)).is_spent) (not_last (v.answer).last last) ∙ stays_on
  where
    not_last : (b : Bool) → (b ≡ true → kind v ≡ MEMORY_KIND) → b ≡ false
    not_last true h = let no : ⊥ = omega (arith, h refl, is) in absurd no
    not_last false h = refl

    stays_on : (heard_at p (kind v) (reply v) (next_at p)).is_spent ≡ false
    stays_on = heard_at_spent p (kind v) (reply v) (next_at p) (λ two. let no : ⊥ = omega (arith, two, is) in absurd no) ∙ on

-- an answer after which want of memory may close no more than a job's session came before no last one
spent_by : (p : Position) → stops p.task ≡ false → may_step p ≡ true → p.is_spent ≡ false
spent_by p off may = by_spent p.is_spent (ap (λ t. not p.is_spent || t) (sym off) ∙ may)
  where
    by_spent : (c : Bool) → (not c || false) ≡ true → c ≡ false
    by_spent true h = cc
    by_spent false h = refl

-- an open SYNC asks for no act of a collector
pull_asks : (x : Pulling) (left : List ℕ) (n : Next) (a : Act) → Asks (pull_ahead x left n) a → IsOther (class_of a) → ⊥
pull_asks (comparing group remote) left (sync name behind) a h other = asks_no_other (comparing group remote) (subst (λ y. IsOther (class_of y)) h other)
pull_asks (comparing group remote) left n a h other = absurd h
pull_asks x left n a h other = asks_no_other x (subst (λ y. IsOther (class_of y)) h other)

pub going_asks : (p : Position) (x : Pulling) (a : Act) → p.task ≡ Some (pulls x) → Asks (next_at p) a → IsOther (class_of a) → ⊥
unfolding next_at
going_asks p x a going h other =
    pull_asks x p.left (front_next (p.size - length p.left) (front p.left)) a (subst (λ (t : Option Task). Asks (ahead_by t (p.size - length p.left) p.left) a) going h) other

-- where no job is open and no collector, an act that is no lane's end comes only where no answer was the last
on_here : (c : Class) (e : Ending) (p : Position) (v : Event) (vs : List Event) → Does c e p v vs → c ≡ class_of v.act → (c ≡ ending → ⊥) → sweep_in p.task ≡ None → stops p.task ≡ false → p.is_spent ≡ false
on_here stepping e p v vs does is other shut idle = spent_by p idle does.0
on_here reaching e p v vs does is other shut idle = does.0
on_here starting e p v vs does is other shut idle = does.0
on_here sweeping e p v vs does is other shut idle = absurd (by_task p.task refl)
  where
    none_here : IsIdle p.task → ⊥
    none_here none = shut_sweeps p (subst (FitsNext (model_next p)) (sym is) (asks_class (model_next p) v.act (subst (λ y. Asks y v.act) (model_is p none) does))) shut

    by_task : (t : Option Task) → p.task ≡ t → ⊥
    by_task (Some (pulls x)) going = going_asks p x v.act going does (subst IsOther is tt)
    by_task None free = none_here (subst IsIdle (sym free) tt)
    by_task (Some (steps j)) free = none_here (subst IsIdle (sym free) tt)
    by_task (Some (sweeps b)) free = none_here (subst IsIdle (sym free) tt)
on_here wanting e p v vs does is other shut idle = does.0
on_here ending e p v vs does is other shut idle = absurd (other refl)

shut_ends : (a b : Bool) → b ≡ true → (a && not false && b) ≡ a
shut_ends true b h = h
shut_ends false b h = refl

open_goes : (a b : Bool) → (a && not true && b) ≡ false
open_goes true b = refl
open_goes false b = refl

-- which end a fault leaves untold, by the lane and its collector as `weave` has them
module _ (R : Option (List Snapshot)) (w : World) (qs : List Position) (k : ℕ) (knows : sweep_in (at qs k).task ≡ open_on k w.collecting) where
  abbrev e_is_end : List Event → Bool
  e_is_end vs = is_end (head_entry (own k vs))

  cut_at : (vs : List Event) → is_cut_off (run_of R w qs) k endings.NoMemory (entries vs)
      ≡ (is_none (job_in (at qs k).task) && not (is_some (sweep_in (at qs k).task)) && e_is_end vs)
  cut_at vs =
      ap (λ l. is_none l.job && not (collects k w.collecting) && is_end (find (λ e. e.lane == k) (entries vs))) (lane_is R w qs k)
      ∙ ap (λ b. is_none (job_in (at qs k).task) && not b && is_end (find (λ e. e.lane == k) (entries vs))) (collects_is k w.collecting ∙ ap is_some (sym knows))
      ∙ ap (λ o. is_none (job_in (at qs k).task) && not (is_some (sweep_in (at qs k).task)) && is_end o) (find_own k vs)

  -- where the collector or the job is open it is told, and so is one that no end follows
  told_by : (vs : List Event) → (sweep_in (at qs k).task ≡ None → job_in (at qs k).task ≡ None → e_is_end vs ≡ false)
      → (is_none (job_in (at qs k).task) && not (is_some (sweep_in (at qs k).task)) && e_is_end vs) ≡ false
  told_by vs no_end = by_collecting (sweep_in (at qs k).task) refl
    where
      by_job : (o : Option Asking) → job_in (at qs k).task ≡ o → sweep_in (at qs k).task ≡ None → (is_none o && not false && e_is_end vs) ≡ false
      by_job (Some j) busy shut = refl
      by_job None idle shut = no_end shut idle

      by_collecting : (o : Option Bool) → sweep_in (at qs k).task ≡ o → (is_none (job_in (at qs k).task) && not (is_some o) && e_is_end vs) ≡ false
      by_collecting None shut = by_job (job_in (at qs k).task) refl shut
      by_collecting (Some b) on = open_goes (is_none (job_in (at qs k).task)) (e_is_end vs)

  -- the lane's own position p stands beside
  module _ (p : Position) (alike : sweep_in p.task ≡ sweep_in (at qs k).task) where
    no_end_first : (c : Class) (v : Event) (vs : List Event) (told : List Reply) → c ≡ class_of v.act → (c ≡ ending → ⊥) → ((v.answer).last ≡ true → kind v ≡ MEMORY_KIND)
        → stops p.task ≡ false ⊎ (job_in (at qs k).task ≡ None → ⊥)
        → Does c endings.NoMemory p v (own k vs) → kind v ≡ FAULT_KIND → Runs endings.NoMemory (heard p v.answer) (own k vs) told → EndsRight (own k vs)
        → sweep_in (at qs k).task ≡ None → job_in (at qs k).task ≡ None → e_is_end vs ≡ false
    no_end_first c v vs told class other last (inr busy) does is runs right shut idle = absurd (busy idle)
    no_end_first c v vs told class other last (inl stops) does is runs right shut idle =
        let on = on_here c endings.NoMemory p v (own k vs) does class other (alike ∙ shut) stops in
        told_first (heard p v.answer) (own k vs) told (not_short p v on last is) runs right

    -- an act that is no lane's end
    told_here : (c : Class) (e : Ending) (v : Event) (vs : List Event) (told : List Reply) → c ≡ class_of v.act → (c ≡ ending → ⊥) → ((v.answer).last ≡ true → kind v ≡ MEMORY_KIND)
        → stops p.task ≡ false ⊎ (job_in (at qs k).task ≡ None → ⊥)
        → Does c e p v (own k vs) → kind v ≡ FAULT_KIND → Runs e (heard p v.answer) (own k vs) told → EndsRight (own k vs) → is_cut_off (run_of R w qs) k e (entries vs) ≡ false
    told_here c endings.NoMemory v vs told class other last stops does is runs right =
        cut_at vs ∙ told_by vs (no_end_first c v vs told class other last stops does is runs right)
    told_here c endings.Clean v vs told class other last stops does is runs right = refl
    told_here c (endings.Broken place) v vs told class other last stops does is runs right = refl
    told_here c endings.SourceFault v vs told class other last stops does is runs right = refl
    told_here c endings.SourceTooLong v vs told class other last stops does is runs right = refl
    told_here c endings.SinkFault v vs told class other last stops does is runs right = refl

    -- the lane's end
    end_cut : (e : Ending) (v : Event) (vs : List Event) → p ≡ at qs k → Does ending e p v (own k vs) → kind v ≡ FAULT_KIND → is_cut_off (run_of R w qs) k e (entries vs) ≡ cuts ending e p
    end_cut endings.NoMemory v vs same does is =
        cut_at vs
        ∙ ap (λ (o : Option Bool). is_none (job_in (at qs k).task) && not (is_some o) && e_is_end vs) (sym alike ∙ none_swept p.task does.2)
        ∙ shut_ends (is_none (job_in (at qs k).task)) (e_is_end vs) (end_follows (own k vs) (does.1 is))
        ∙ ap (λ (y : Position). is_none (job_in y.task)) (sym same)
    end_cut endings.Clean v vs same does is = refl
    end_cut (endings.Broken place) v vs same does is = refl
    end_cut endings.SourceFault v vs same does is = refl
    end_cut endings.SourceTooLong v vs same does is = refl
    end_cut endings.SinkFault v vs same does is = refl

    -- a job that is open is told
    stops_or : p ≡ at qs k → IsIdle p.task → stops p.task ≡ false ⊎ (job_in (at qs k).task ≡ None → ⊥)
    stops_or same idle = by_task p.task refl idle
      where
        by_task : (t : Option Task) → p.task ≡ t → IsIdle t → stops p.task ≡ false ⊎ (job_in (at qs k).task ≡ None → ⊥)
        by_task None is idle = inl (ap stops is)
        by_task (Some (steps j)) is idle = inr (λ none. some_job j (sym (ap job_in is) ∙ ap (λ (y : Position). job_in y.task) same ∙ none))
        by_task (Some (pulls x)) is idle = absurd idle
        by_task (Some (sweeps b)) is idle = inl (ap stops is)

    -- where no SYNC is open
    cut_idle : (c : Class) (e : Ending) (v : Event) (vs : List Event) (told : List Reply) → p ≡ at qs k → IsIdle p.task → c ≡ class_of v.act → ((v.answer).last ≡ true → kind v ≡ MEMORY_KIND)
        → (c ≡ wanting → kind v ≡ MEMORY_KIND) → Does c e p v (own k vs) → Runs e (heard_as c e p v.answer) (own k vs) told → EndsRight (own k vs) → kind v ≡ FAULT_KIND → is_cut_off (run_of R w qs) k e (entries vs) ≡ cuts c e p
    cut_idle ending e v vs told same idle class last short does runs right is = end_cut e v vs same does is
    cut_idle stepping e v vs told same idle class last short does runs right is = told_here stepping e v vs told class (λ h. cc) last (stops_or same idle) does is runs right
    cut_idle reaching e v vs told same idle class last short does runs right is = told_here reaching e v vs told class (λ h. cc) last (stops_or same idle) does is runs right
    cut_idle starting e v vs told same idle class last short does runs right is = told_here starting e v vs told class (λ h. cc) last (stops_or same idle) does is runs right
    cut_idle sweeping e v vs told same idle class last short does runs right is = told_here sweeping e v vs told class (λ h. cc) last (stops_or same idle) does is runs right
    cut_idle wanting e v vs told same idle class last short does runs right is = let no : ⊥ = omega (arith, short refl, is) in absurd no

-- ---- a lane beside the one that `weave` has

collects_alike : (R : Option (List Snapshot)) (s : Store) (k : ℕ) (p q : Position) (t : Option Task) → p.task ≡ t → BesideBy R s k p (pull_in t) q → sweep_in p.task ≡ sweep_in q.task
collects_alike R s k p q None is same = ap (λ (y : Position). sweep_in y.task) (sym same)
collects_alike R s k p q (Some (steps j)) is same = ap (λ (y : Position). sweep_in y.task) (sym same)
collects_alike R s k p q (Some (sweeps b)) is same = ap (λ (y : Position). sweep_in y.task) (sym same)
collects_alike R s k p q (Some (pulls x)) is (inl b) = ap sweep_in is ∙ sym (ap (λ (y : Position). sweep_in y.task) b.is ∙ ap (λ (t : Option Task). sweep_in (no_pull t)) is)
collects_alike R s k p q (Some (pulls x)) is (inr b) = ap sweep_in is ∙ sym (ap (λ (y : Position). sweep_in y.task) b.is)

pub told_alike : (R : Option (List Snapshot)) (s : Store) (k : ℕ) (p q : Position) (o : Option Pulling) → BesideBy R s k p o q → q.told ≡ p.told
told_alike R s k p q None is = ap (λ (y : Position). y.told) is
told_alike R s k p q (Some x) (inl b) = ap (λ (y : Position). y.told) b.is
told_alike R s k p q (Some x) (inr b) = ap (λ (y : Position). y.told) b.is

-- a head looks at no other lane's session
begins_alike : (s s' : Store) (k : ℕ) (text : List ℕ) → session s' k ≡ session s k → idle_group s' k text ≡ idle_group s k text
unfolding idle_group idle_in group_in
begins_alike s s' k text same = ap (λ x. want_idle x >>= λ _. or_else BadName (group_of text)) same

-- another lane's act leaves it so
pub beside_stays : (R : Option (List Snapshot)) (s s' : Store) (k : ℕ) (p q : Position) (o : Option Pulling) → session s' k ≡ session s k → BesideBy R s k p o q → BesideBy R s' k p o q
beside_stays R s s' k p q None same is = is
beside_stays R s s' k p q (Some x) same (inl b) =
    inl (record {
      group = b.group;
      remote = b.remote;
      left = b.left;
      key = b.key;
      list = b.list;
      state = b.state;
      is = b.is;
      next = b.next;
      there = b.there;
      begins = begins_alike s s' k b.group same ∙ b.begins;
      texts = b.texts;
    })
beside_stays R s s' k p q (Some x) same (inr b) = inr b

-- an act of an open SYNC
sync_class : (p : Position) (x : Pulling) (c : Class) (e : Ending) (v : Event) (vs : List Event) → p.task ≡ Some (pulls x) → c ≡ class_of v.act → Does c e p v vs
    → NoStart c × (c ≡ ending → ⊥)
sync_class p x stepping e v vs going class does = (tt, λ h. cc)
sync_class p x reaching e v vs going class does = (tt, λ h. cc)
sync_class p x wanting e v vs going class does = (tt, λ h. cc)
sync_class p x starting e v vs going class does = absurd (going_asks p x v.act going does.1 (subst IsOther class tt))
sync_class p x sweeping e v vs going class does = absurd (going_asks p x v.act going does (subst IsOther class tt))
sync_class p x ending e v vs going class does = absurd (subst IsShut going does.2)

-- what a SYNC hears leaves no job
sync_plain : (p : Position) (x : Pulling) (a : Answer) → p.task ≡ Some (pulls x) → ArePlain (job_in p.task) → ArePlain (job_in (heard p a).task)
unfolding heard heard_at next_at
sync_plain p x a going plainly =
    subst (λ (t : Option Task). ArePlain (job_in (heard_at p (a.entry).kind a.reply (ahead_by t (p.size - length p.left) p.left)).task)) (sym going)
    (by_pull x (front_next (p.size - length p.left) (front p.left)) a.reply)
  where
    by_pull : (y : Pulling) (n : Next) (r : Option Reply) → ArePlain (job_in (heard_at p (a.entry).kind r (pull_ahead y p.left n)).task)
    by_pull (comparing group remote) (sync name behind) (Some r) = pulls_plain p behind (take (comparing group remote) r)
    by_pull (comparing group remote) (sync name behind) None = plainly
    by_pull (comparing group remote) n (Some r) = plainly
    by_pull (comparing group remote) n None = plainly
    by_pull y n (Some r) = pulls_plain p p.left (take y r)
    by_pull y n None = plainly

-- ---- the induction

unfoldable pub AllRun : List Ending → List Position → List Event → (ℕ → List Reply) → Type 0
AllRun es ps h told = (k : ℕ) → k < length ps → Runs (ending_at es k) (at ps k) (own k h) (told k)

-- each position knows of its lane's collector, no job is to report one, and the lane that `weave` has is beside it
abbrev pub Knows : Option (List Snapshot) → World → List Position → List Position → ℕ → Type 0
Knows R w ps qs k = (sweep_in (at ps k).task ≡ open_on k w.collecting) × ArePlain (job_in (at ps k).task) × Beside R w.store k (at ps k) (at qs k)

unfoldable pub AllKnow : Option (List Snapshot) → World → List Position → List Position → Type 0
AllKnow R w ps qs = (k : ℕ) → k < length ps → Knows R w ps qs k

Weaves : Option (List Snapshot) → List Ending → World → List Position → List Position → List Event → (ℕ → List Reply) → Type 0
Weaves R es w ps qs h told =
    (rs : List Position) × (run_from (known es) (run_of R w qs) w.events (entries h) ≡ Ok (run_of R (after_all R w h) rs))
    × (length rs ≡ length ps) × ((k : ℕ) → k < length ps → (at rs k).told ≡ told k)

module _ (R : Option (List Snapshot)) (remote : IsRemote R) (es : List Ending) (told : ℕ → List Reply) where
  -- the run goes on by one event
  one_more : (w : World) (ps : List Position) (v : Event) (vs : List Event) (w' : World) (ps' qs : List Position)
      → entered (known es) (run_of R w ps) w.events (entry v) (entries vs) ≡ Some (run_of R w' ps')
      → run_from (known es) (run_of R w' ps') (w.events + 1) (entries vs) ≡ Ok (run_of R (after_all R w' vs) qs)
      → run_from (known es) (run_of R w ps) w.events (entries (v ∷ vs)) ≡ Ok (run_of R (after_all R w' vs) qs)
  unfolding run_from
  one_more w ps v vs w' ps' qs first rest =
      ap (λ o. elim o [ None ↦ Err (misfit (run_of R w ps) w.events (entry v)) | Some next ↦ run_from (known es) next (w.events + 1) (entries vs) ]) first ∙ rest

  pub not_same : (j : ℕ) (v : Event) → (lane v == j) ≡ false → j ≢ lane v
  not_same j v is h = clash (sym (eq-eqb (lane v) j (sym h)) ∙ is)

  abbrev pub next : List Position → Event → Position
  next ps v = position_after (ending_at es (lane v)) (at ps (lane v)) v

  -- each lane goes on with its program
  pub runs_next : (ps : List Position) (v : Event) (vs : List Event) → lane v < length ps → AllRun es ps (v ∷ vs) told
      → Runs (ending_at es (lane v)) (next ps v) (own (lane v) vs) (told (lane v)) → AllRun es (slice_set ps (lane v) (next ps v)) vs told
  unfolding AllRun
  runs_next ps v vs inside runs rest j lt = by_test (lane v == j) refl
    where
      by_test : (b : Bool) → (lane v == j) ≡ b → Runs (ending_at es j) (at (slice_set ps (lane v) (next ps v)) j) (own j vs) (told j)
      by_test true is =
          subst (λ i. Runs (ending_at es i) (at (slice_set ps (lane v) (next ps v)) i) (own i vs) (told i)) (eqb-true (lane v) j is)
          (subst (λ x. Runs (ending_at es (lane v)) x (own (lane v) vs) (told (lane v))) (sym (get_or-set_same ps (lane v) (next ps v) (begin []) inside)) rest)
      by_test false is =
          subst (λ x. Runs (ending_at es j) x (own j vs) (told j)) (sym (get_or-set_other ps (lane v) j (next ps v) (begin []) (not_same j v is)))
          (subst (λ xs. Runs (ending_at es j) (at ps j) xs (told j)) (own_other j v vs is)
          (runs j (subst (λ n. j < n) (length-set ps (lane v) (next ps v)) lt)))

  module _ (w : World) (ps qs : List Position) (v : Event) (vs : List Event) (right : IsRight R w v) (named : HasKeys w.store) (here : Knows R w ps qs (lane v))
      (does : Does (class_of v.act) (ending_at es (lane v)) (at ps (lane v)) v (own (lane v) vs))
      (rest : Runs (ending_at es (lane v)) (next ps v) (own (lane v) vs) (told (lane v))) (ends : EndsRight (own (lane v) vs)) where
    abbrev p : Position
    p = at ps (lane v)

    alike : sweep_in p.task ≡ sweep_in (at qs (lane v)).task
    alike = collects_alike R w.store (lane v) p (at qs (lane v)) p.task refl here.2

    pub knows : sweep_in (at qs (lane v)).task ≡ open_on (lane v) w.collecting
    knows = sym alike ∙ here.0

    -- memory was wanting
    is_short : (n : ℕ) → Right R w (lane v) (moment v) v.act (reply v) wanting (kind_of n) → n ≡ MEMORY_KIND
    is_short (suc (suc zero)) h = refl
    is_short zero h = absurd h
    is_short (suc zero) h = absurd h
    is_short (suc (suc (suc zero))) h = absurd h
    is_short (suc (suc (suc (suc zero)))) h = absurd h
    is_short (suc (suc (suc (suc (suc zero))))) h = absurd h
    is_short (suc (suc (suc (suc (suc (suc zero)))))) h = absurd h
    is_short (suc (suc (suc (suc (suc (suc (suc zero))))))) h = absurd h
    is_short (suc (suc (suc (suc (suc (suc (suc (suc n)))))))) h = absurd h

    runs_heard : Runs (ending_at es (lane v)) (heard_as (class_of v.act) (ending_at es (lane v)) p v.answer) (own (lane v) vs) (told (lane v))
    unfolding position_after
    runs_heard = rest

    -- the lane's event moves the run
    turn_idle : IsIdle p.task → at qs (lane v) ≡ p → Turns R w qs (lane v) (moment v) es (entries vs) knows v.act (kind v) (next ps v)
    turn_idle idle same =
        turned_idle R w qs (lane v) (moment v) es (entries vs) knows p idle same remote (class_of v.act) v (own (lane v) vs) refl refl refl does here.1
        (λ five. cut_idle R w qs (lane v) knows p alike (class_of v.act) (ending_at es (lane v)) v vs (told (lane v)) (sym same) idle refl right.last (λ is. is_short (kind v) (subst (λ c. Right R w (lane v) (moment v) v.act (reply v) c (kind_of (kind v))) is right.says)) does runs_heard ends five)
        right.says

    turn_by : (t : Option Task) → p.task ≡ t → BesideBy R w.store (lane v) p (pull_in t) (at qs (lane v))
        → Turns R w qs (lane v) (moment v) es (entries vs) knows v.act (kind v) (next ps v)
    unfolding position_after
    turn_by None is same = turn_idle (subst IsIdle (sym is) tt) same
    turn_by (Some (steps j)) is same = turn_idle (subst IsIdle (sym is) tt) same
    turn_by (Some (sweeps b)) is same = turn_idle (subst IsIdle (sym is) tt) same
    turn_by (Some (pulls x)) going beside =
        reached R w qs (lane v) (moment v) es (entries vs) knows p x going remote named (class_of v.act) (ending_at es (lane v)) v (own (lane v) vs) beside refl does right.says
        (λ five. told_here R w qs (lane v) knows p alike (class_of v.act) (ending_at es (lane v)) v vs (told (lane v)) refl (sync_class p x (class_of v.act) (ending_at es (lane v)) v (own (lane v) vs) going refl does).1
        right.last (stops_by x going beside) does five (heard_runs (class_of v.act) refl (sync_class p x (class_of v.act) (ending_at es (lane v)) v (own (lane v) vs) going refl does).1 runs_heard) ends)
      where
        stops_by : (y : Pulling) → p.task ≡ Some (pulls y) → BesideBy R w.store (lane v) p (Some y) (at qs (lane v)) → stops p.task ≡ false ⊎ (job_in (at qs (lane v)).task ≡ None → ⊥)
        stops_by y is (inl b) = inl (ap stops (is ∙ ap (λ (z : Pulling). Some (pulls z)) b.state))
        stops_by y is (inr b) = inr (λ none. some_job b.job (ap (λ (z : Position). job_in z.task) (sym b.is) ∙ none))

        heard_runs : (c : Class) → c ≡ class_of v.act → (c ≡ ending → ⊥) → Runs (ending_at es (lane v)) (heard_as c (ending_at es (lane v)) p v.answer) (own (lane v) vs) (told (lane v))
            → Runs (ending_at es (lane v)) (heard p v.answer) (own (lane v) vs) (told (lane v))
        heard_runs ending is other h = absurd (other refl)
        heard_runs stepping is other h = h
        heard_runs reaching is other h = h
        heard_runs starting is other h = h
        heard_runs sweeping is other h = h
        heard_runs wanting is other h =
            subst (λ y. Runs (ending_at es (lane v)) y (own (lane v) vs) (told (lane v))) (heard_open p v.answer (ap is_none going)) h

    pub turn : Turns R w qs (lane v) (moment v) es (entries vs) knows v.act (kind v) (next ps v)
    turn = turn_by p.task refl here.2

    -- and its position knows of its collector again
    collects_idle : IsIdle p.task → sweep_in (next ps v).task ≡ open_on (lane v) (after R w v).collecting
    unfolding position_after after
    collects_idle idle = own_keeps R w (lane v) (moment v) (ending_at es (lane v)) p v.act v.answer v (own (lane v) vs) idle refl does here.0 right.says

    pub collects_next : (t : Option Task) → p.task ≡ t → sweep_in (next ps v).task ≡ open_on (lane v) (after R w v).collecting
    unfolding position_after after
    collects_next (Some (pulls x)) going =
        let is = sync_class p x (class_of v.act) (ending_at es (lane v)) v (own (lane v) vs) going refl does in
        ap (λ (y : Position). sweep_in y.task) (heard_other (class_of v.act) (ending_at es (lane v)) p v.answer (ap is_none going) is.1)
        ∙ pull_keeps R w (lane v) (moment v) (ending_at es (lane v)) p x v.act v.answer (class_of v.act) refl is.0 going here.0 right.says
    collects_next None is = collects_idle (subst IsIdle (sym is) tt)
    collects_next (Some (steps j)) is = collects_idle (subst IsIdle (sym is) tt)
    collects_next (Some (sweeps b)) is = collects_idle (subst IsIdle (sym is) tt)

    plain_idle : IsIdle p.task → ArePlain (job_in (next ps v).task)
    unfolding position_after
    plain_idle idle = own_plain R w (lane v) (moment v) (ending_at es (lane v)) p v.act v.answer v (own (lane v) vs) idle refl does here.1 right.says

    pub plain_next : (t : Option Task) → p.task ≡ t → ArePlain (job_in (next ps v).task)
    unfolding position_after
    plain_next (Some (pulls x)) going =
        let is = sync_class p x (class_of v.act) (ending_at es (lane v)) v (own (lane v) vs) going refl does in
        subst (λ (y : Position). ArePlain (job_in y.task)) (sym (heard_other (class_of v.act) (ending_at es (lane v)) p v.answer (ap is_none going) is.1)) (sync_plain p x v.answer going here.1)
    plain_next None is = plain_idle (subst IsIdle (sym is) tt)
    plain_next (Some (steps j)) is = plain_idle (subst IsIdle (sym is) tt)
    plain_next (Some (sweeps b)) is = plain_idle (subst IsIdle (sym is) tt)

  -- each position knows of its collector again
  pub know_next : (w : World) (ps qs : List Position) (v : Event) (vs : List Event) → lane v < length ps → lane v < length qs → (right : IsRight R w v) → HasKeys w.store → AllKnow R w ps qs
      → (q' : Position) → sweep_in (next ps v).task ≡ open_on (lane v) (after R w v).collecting → ArePlain (job_in (next ps v).task) → Beside R (after R w v).store (lane v) (next ps v) q'
      → AllKnow R (after R w v) (slice_set ps (lane v) (next ps v)) (slice_set qs (lane v) q')
  unfolding AllKnow after
  know_next w ps qs v vs inside also right named knows q' collects plainly beside j lt = by_test (lane v == j) refl
    where
      here : Knows R (after R w v) (slice_set ps (lane v) (next ps v)) (slice_set qs (lane v) q') (lane v)
      here =
          subst (λ (x : Position). (sweep_in x.task ≡ open_on (lane v) (after R w v).collecting) × ArePlain (job_in x.task) × Beside R (after R w v).store (lane v) x (at (slice_set qs (lane v) q') (lane v)))
          (sym (get_or-set_same ps (lane v) (next ps v) (begin []) inside))
          (subst (λ (y : Position). (sweep_in (next ps v).task ≡ open_on (lane v) (after R w v).collecting) × ArePlain (job_in (next ps v).task) × Beside R (after R w v).store (lane v) (next ps v) y)
          (sym (get_or-set_same qs (lane v) q' (begin []) also)) (collects, plainly, beside))

      by_test : (b : Bool) → (lane v == j) ≡ b → Knows R (after R w v) (slice_set ps (lane v) (next ps v)) (slice_set qs (lane v) q') j
      by_test true is = subst (Knows R (after R w v) (slice_set ps (lane v) (next ps v)) (slice_set qs (lane v) q')) (eqb-true (lane v) j is) here
      by_test false is =
          let before = knows j (subst (λ n. j < n) (length-set ps (lane v) (next ps v)) lt) in
          subst (λ (x : Position). (sweep_in x.task ≡ open_on j (after R w v).collecting) × ArePlain (job_in x.task) × Beside R (after R w v).store j x (at (slice_set qs (lane v) q') j))
          (sym (get_or-set_other ps (lane v) j (next ps v) (begin []) (not_same j v is)))
          (subst (λ (y : Position). (sweep_in (at ps j).task ≡ open_on j (after R w v).collecting) × ArePlain (job_in (at ps j).task) × Beside R (after R w v).store j (at ps j) y)
          (sym (get_or-set_other qs (lane v) j q' (begin []) (not_same j v is))) (
            before.0 ∙ sym (others_keep R w (lane v) (moment v) j v.act (reply v) (kind_of (kind v)) (not_same j v is) right.says),
            before.1,
            beside_stays R w.store (after R w v).store j (at ps j) (at qs j) (pull_in (at ps j).task) (moved_apart R w (lane v) (moment v) j v.act (kind_of (kind v)) (not_same j v is)) before.2,
          ))

  pub keyed_next : (w : World) (v : Event) → HasKeys w.store → HasKeys (after R w v).store
  unfolding after
  keyed_next w v named = moved_keyed R w (lane v) (moment v) v.act (kind_of (kind v)) named

  weaves : (h : List Event) (w : World) (ps qs : List Position) → IsLegal R w h → AreLanes (length ps) h → length qs ≡ length ps → HasKeys w.store → AllKnow R w ps qs → AllRun es ps h told
      → Weaves R es w ps qs h told
  unfolding AllKnow AllRun Weaves run_from after_all after
  weaves [] w ps qs legal lanes same named knows runs =
      (qs, refl, same, λ k lt. told_alike R w.store k (at ps k) (at qs k) (pull_in (at ps k).task) (knows k lt).2 ∙ (runs k lt).1)
  weaves (v ∷ vs) w ps qs legal lanes same named knows runs =
      let run : Runs (ending_at es (lane v)) (at ps (lane v)) (v ∷ own (lane v) vs) (told (lane v)) = subst (λ xs. Runs (ending_at es (lane v)) (at ps (lane v)) xs (told (lane v))) (own_here v vs) (runs (lane v) lanes.0) in
      let here = knows (lane v) lanes.0 in
      let ends = legal_own R (after R w v) (lane v) vs legal.1 in
      let t = turn w ps qs v vs legal.0 named here run.1 run.2 ends in
      let len : length (slice_set ps (lane v) (next ps v)) ≡ length ps = length-set ps (lane v) (next ps v) in
      let also : length (slice_set qs (lane v) t.0) ≡ length (slice_set ps (lane v) (next ps v)) = length-set qs (lane v) t.0 ∙ same ∙ sym len in
      let ih = weaves vs (after R w v) (slice_set ps (lane v) (next ps v)) (slice_set qs (lane v) t.0) legal.1 (subst (λ n. AreLanes n vs) (sym len) lanes.1) also (keyed_next w v named)
      (know_next w ps qs v vs lanes.0 (subst (λ n. lane v < n) (sym same) lanes.0) legal.0 named knows t.0
      (collects_next w ps qs v vs legal.0 named here run.1 run.2 ends (at ps (lane v)).task refl) (plain_next w ps qs v vs legal.0 named here run.1 run.2 ends (at ps (lane v)).task refl) t.2)
      (runs_next ps v vs lanes.0 runs run.2) in (
        ih.0,
        one_more w qs v vs (after R w v) (slice_set qs (lane v) t.0) ih.0 t.1 ih.1,
        ih.2 ∙ len,
        λ k lt. ih.3 k (subst (λ n. k < n) (sym len) lt),
      )

-- ---- the theorem

pub begun : (inputs : List (List ℕ)) → map lane_of (map begin inputs) ≡ map new_lane inputs
unfolding text plain_text
begun [] = refl
begun (x ∷ xs) = ap (λ ls. new_lane x ∷ ls) (begun xs)

pub begun_at : (inputs : List (List ℕ)) (k : ℕ) → at (map begin inputs) k ≡ begin (slice_index_or inputs k [])
begun_at inputs k = get_or-map begin inputs k []

replies_are : (ps : List Position) (ts : List (List Reply)) → length ps ≡ length ts
    → ((k : ℕ) → k < length ps → (at ps k).told ≡ slice_index_or ts k []) → map (λ l. l.told) (map lane_of ps) ≡ map plain_text ts
replies_are [] [] len each = refl
replies_are [] (t ∷ ts) len each = cc
replies_are (p ∷ ps) [] len each = cc
replies_are (p ∷ ps) (t ∷ ts) len each =
    ap (λ x. plain_text x ∷ map (λ l. l.told) (map lane_of ps)) (each 0 (omega arith))
    ∙ ap (λ xs. plain_text t ∷ xs) (replies_are ps ts (suc_inj len) (λ k lt. each (suc k) (omega arith)))
  where
    suc_inj : suc (length ps) ≡ suc (length ts) → length ps ≡ length ts
    suc_inj h = omega arith

run_begun : (R : Option (List Snapshot)) (o : Opening) (inputs : List (List ℕ)) → new_run o.snapshots R inputs ≡ run_of R (opened o) (map begin inputs)
run_begun R o inputs = ap (λ ls. record (run_of R (opened o) []) { lanes = ls }) (sym (begun inputs))

woven_by : Result Run Misfit → Result Woven Misfit
woven_by (Ok r) = Ok (woven_of r)
woven_by (Err x) = Err x

weave_is : (R : Option (List Snapshot)) (snapshots : List Snapshot) (order : List Entry) (inputs : List (List ℕ)) (es : List Ending)
    → weave snapshots R order inputs es ≡ woven_by (run_from (known es) (new_run snapshots R inputs) 0 order)
unfolding weave woven woven_by
weave_is R snapshots order inputs es = by_result (run_from (known es) (new_run snapshots R inputs) 0 order)
  where
    by_result : (x : Result Run Misfit) → Rattle.store_types.specs.Chain.Refusing.◌>>=◌ x (λ r. Ok (woven_of r)) ≡ woven_by x
    by_result (Ok r) = refl
    by_result (Err e) = refl

-- a legal history whose lanes run their programs is what `weave` gives
pub served_woven : (o : Opening) (R : Option (List Snapshot)) (h : List Event) (inputs : List (List ℕ)) (es : List Ending) (told : List (List Reply))
    → IsServed o R h inputs es told → IsWoven o R h inputs es told
unfolding AllKnow AllRun Weaves woven_by
served_woven o R h inputs es told s =
    let ps = map begin inputs in
    let len : length ps ≡ length inputs = length-map inputs begin in
    let all = weaves R s.remote_is es (λ k. slice_index_or told k []) h (opened o) ps ps s.legal
    (subst (λ n. AreLanes n h) (sym len) s.lanes) refl (keys_opened o.snapshots s.keys)
    (λ k lt. subst (λ (x : Position). (sweep_in x.task ≡ None) × ArePlain (job_in x.task) × BesideBy R (opened o).store k x (pull_in x.task) x) (sym (begun_at inputs k)) (refl, tt, refl))
    (λ k lt. subst (λ x. Runs (ending_at es k) x (own k h) (slice_index_or told k [])) (sym (begun_at inputs k)) (s.runs k (subst (λ n. k < n) len lt))) in
    weave_is R o.snapshots (entries h) inputs es
    ∙ ap (λ r. woven_by (run_from (known es) r 0 (entries h))) (run_begun R o inputs)
    ∙ ap woven_by all.1
    ∙ ap (λ xs. Ok (record { store = (after_all R (opened o) h).store; replies = xs }))
    (replies_are all.0 told (all.2 ∙ len ∙ sym s.each) (λ k lt. all.3 k (subst (λ n. k < n) all.2 lt)))
