-- Any task: its acts, one after another, from its beginning to its report.
use Rattle.std.proofs.Common.{◌≡◌, inl, inr, ℕ, Bool, true, false, ◌||◌, ◌==◌, List, [], ◌++◌, if◌then◌else◌, Option, Some, None, Result, Ok, Err, OnOk, OnErr, IsSome, IfSome, refl, sym, ap, subst, ◌∙◌, append-nil, append_assoc}
use Rattle.store_types.specs.declared.refusal.Refusal.TheVariants.{NoMemory}
use Rattle.store_types.specs.declared.order.TheConstants.{MEMORY_KIND}
use Rattle.wire_commands.specs.HasText.{ReplyHasText}
use Rattle.wire_commands.specs.declared.command.Command.{Command}
use Rattle.wire_commands.specs.declared.command.Command.TheVariants as commands
use Rattle.wire_commands.specs.declared.reply.Reply.{Reply}
use Rattle.wire_commands.specs.declared.reply.Reply.TheVariants.{Refused}
use Rattle.store_model.specs.Job.{grouping, opening, step_of}
use Rattle.store_model.specs.JobReplies.{IsReplyTo}
use Rattle.store_model.specs.Jobs.{take}
use Rattle.store_model.specs.PruneJob as prune
use Rattle.store_model.specs.VerifyJob as verify
use Rattle.store_model.specs.Lanes.{Next, command_next}
use Rattle.store_history.specs.declared.act.Act.{Act}
use Rattle.store_history.specs.declared.act.Act.TheVariants as acts
use Rattle.store_history.specs.declared.act.Answer.{Answer}
use Rattle.store_history.specs.Acts.{IsWellFormed}
use Rattle.store_history.specs.Pulling.{asks, seeking, sought, take as pull_take}
use Rattle.store_history.specs.SoFar.{Leads}
use Rattle.core_state.specs.History.{History}
use Rattle.job_steps.specs.Visits.{IsPartRead}
use Rattle.pull_steps.specs.Taken.{IsReadOf, IsReplyTo as IsPullReply}
use Rattle.shared_store.specs.Comes.{with_events}
use Rattle.lane.specs.declared.acts.Told.{Told}
use Rattle.lane.specs.Acting.{HasReply, Did, MayTell}
use Rattle.lane.specs.Doing.{Does}
use Rattle.lane.specs.Tasks.{Stage, done, steps, pulls, starts, sweeps, taken, taken_by, IsActOf, IsAnswerTo, IsDroppable, IsStopped, IsSound, IsAt, Begins, MayGoOn, MayWant, HasStepped, StepsOn, IsTask, first_stage}
use Rattle.lane.proofs.Acting.{Acted, did_of, is_told, tells_of}
use Rattle.lane.proofs.Collections.{starts_once, sweeps_once}
use Rattle.lane.proofs.Doing.{leads_then, of_both}
use Rattle.lane.proofs.Drops.{no_read, pulls_form, pulls_formed, pulls_replied, read_dropped}
use Rattle.lane.proofs.Going.{steps_on}
use Rattle.lane.proofs.Pulls.{pulls_once}
use Rattle.lane.proofs.PullingOn.{pulls_on}
use Rattle.lane.proofs.Replies.{replies_to}
use Rattle.lane.proofs.Stages.{IsDropped, told_is, tells_is}
use Rattle.lane.proofs.Stepping.{no_part, part_alike, step_on, steps_formed, steps_once, steps_replied}

false_true : false ≡ true → ⊥
false_true e = cc

-- ---- an act of it

pub act_formed : (s : Stage) (act : Act) → IsSound s → IsActOf s act → IsWellFormed act
act_formed (steps j) act sound of = steps_formed j act sound of
act_formed (pulls x) act sound of = pulls_formed x act sound of
act_formed (done report) act sound (inl is) = absurd is
act_formed s act sound (inl is) = subst IsWellFormed (sym is) tt
act_formed s act sound (inr is) = absurd is.1

-- an answer that is told, with all that is known of it
record HasTold (before after : History → Type 0) (k : ℕ) (act : Act) (a : Answer) : Type 0 where
  r : Reply
  is : a.reply ≡ Some r
  text : ReplyHasText r
  did : Did before after k act (record { reply = r; last = a.last })
  tells : MayTell act (record { reply = r; last = a.last })

some_is : (o : Option Reply) → IsSome o → (r : Reply) × (o ≡ Some r)
some_is None some = cc
some_is (Some r) some = (r, refl)

told_by : (before after : History → Type 0) (k : ℕ) (act : Act) (a : Answer) → HasReply act → Acted before after k act a → HasTold before after k act a
told_by before after k act a replied x = let o = some_is a.reply (is_told act a replied x.told) in record {
  r = o.0;
  is = o.1;
  text = subst (λ o. IfSome o ReplyHasText) o.1 x.text;
  did = did_of before after k act a o.0 replied x o.1;
  tells = tells_of before after k act a o.0 replied x o.1;
}

pub answer_to : (before after : History → Type 0) (k : ℕ) (s : Stage) (act : Act) (a : Answer) → IsSound s → IsActOf s act → Acted before after k act a → IsAnswerTo s a
answer_to before after k (done report) act a sound (inl of) x = absurd of
answer_to before after k (done report) act a sound (inr of) x = absurd of.1
answer_to before after k (steps j) act a sound of x = let t = told_by before after k act a (steps_replied j act of) x in
    tells_is a t.r (λ r. IsReplyTo (step_of j) r × ReplyHasText r) t.is (replies_to j act (record { reply = t.r; last = a.last }) sound of t.tells, t.text)
answer_to before after k (pulls y) act a sound of x = let t = told_by before after k act a (pulls_replied y act of) x in
    tells_is a t.r (IsPullReply (asks y)) t.is (pulls_form y act (record { reply = t.r; last = a.last }) of t.tells t.text)
answer_to before after k s act a sound of x = x.text

-- ---- where it leads

once : (before after : History → Type 0) (k : ℕ) (s : Stage) (was : Bool) (act : Act) (a : Answer) → IsActOf s act → MayGoOn s was → Acted before after k act a
    → StepsOn before after k s (taken s a) was (a.last || was) × MayGoOn (taken s a) (a.last || was)
once before after k (done report) was act a (inl of) on x = absurd of
once before after k (done report) was act a (inr of) on x = absurd of.1
once before after k (steps j) was act a of on x =
    let t = told_by before after k act a (steps_replied j act of) x in
    let told : Told = record { reply = t.r; last = a.last } in
    let goes = steps_on j was act told t.tells on in
    subst (λ o. StepsOn before after k (steps j) (taken_by (steps j) (a.entry).kind o) was (a.last || was) × MayGoOn (taken_by (steps j) (a.entry).kind o) (a.last || was)) (sym t.is)
    (steps_once before after k j was act told of t.did goes.stops, goes)
once before after k (pulls y) was act a of on x =
    let t = told_by before after k act a (pulls_replied y act of) x in
    let told : Told = record { reply = t.r; last = a.last } in
    subst (λ o. StepsOn before after k (pulls y) (taken_by (pulls y) (a.entry).kind o) was (a.last || was) × MayGoOn (taken_by (pulls y) (a.entry).kind o) (a.last || was)) (sym t.is)
    (pulls_once before after k y was act told of t.did on, pulls_on y was act told of t.tells on)
once before after k starts was act a (inl is) on x =
    (starts_once before after k was a (subst (λ act. Acted before after k act a) is x), record { stops = λ _. by_reply a.reply; sound = sound_by a.reply })
  where
    by_reply : (o : Option Reply) → IsStopped (taken_by starts (a.entry).kind o)
    by_reply None = tt
    by_reply (Some r) = tt

    sound_by : (o : Option Reply) → IsSound (taken_by starts (a.entry).kind o)
    sound_by None = tt
    sound_by (Some r) = tt
once before after k sweeps was act a (inl is) on x =
    (sweeps_once before after k was a (subst (λ act. Acted before after k act a) is x), by_reply a.reply)
  where
    by_kind : (b : Bool) (r : Reply) → MayGoOn (if b then sweeps else done r) (a.last || was)
    by_kind true r = record { stops = λ _. tt; sound = tt }
    by_kind false r = record { stops = λ _. tt; sound = tt }

    by_reply : (o : Option Reply) → MayGoOn (taken_by sweeps (a.entry).kind o) (a.last || was)
    by_reply None = record { stops = λ _. tt; sound = tt }
    by_reply (Some r) = by_kind ((a.entry).kind == MEMORY_KIND) r
once before after k s was act a (inr is) on x = absurd is.1

-- as the task has it
pub once_as : (before after : History → Type 0) (k : ℕ) (s new : Stage) (was : Bool) (act : Act) (a : Answer) → IsActOf s act → MayGoOn s was → Acted before after k act a
    → new ≡ taken s a → StepsOn before after k s new was (a.last || was) × MayGoOn new (a.last || was)
once_as before after k s new was act a of on x is =
    subst (λ t. StepsOn before after k s t was (a.last || was) × MayGoOn t (a.last || was)) (sym is) (once before after k s was act a of on x)

-- ---- an answer that was dropped

drops : (s : Stage) (a : Answer) → IsDroppable s a → IsDropped s (taken s a)
drops (done report) a may = absurd may
drops (steps j) a may = let r = some_is a.reply may.0 in
    subst (λ o. IsDropped (steps j) (taken_by (steps j) (a.entry).kind o)) (sym r.1) (part_alike j r.0 (told_is a r.0 (IsPartRead (Some (step_of j))) r.1 may))
drops (pulls x) a may = let r = some_is a.reply may.0 in
    subst (λ o. IsDropped (pulls x) (taken_by (pulls x) (a.entry).kind o)) (sym r.1) (read_dropped x r.0 (told_is a r.0 (IsReadOf (asks x)) r.1 may))
drops s a may = absurd may

pub wants_again : (s kept : Stage) (a : Answer) → kept ≡ s → IsDroppable s a → IsActOf kept acts.Short
wants_again s kept a same may = inr (refl, subst MayWant (sym same) (drops s a may).again)

-- want of memory is told
pub want_is : (before after : History → Type 0) (k : ℕ) (w : Answer) → Acted before after k acts.Short w → w.reply ≡ Some (Refused NoMemory)
want_is before after k w x = let t = told_by before after k acts.Short w tt x in t.is ∙ ap (λ r. Some r) ((t.tells).want (inl refl))

-- and is taken without memory
no_drop : (s : Stage) (w : Answer) → w.reply ≡ Some (Refused NoMemory) → IsDroppable s w → ⊥
no_drop (done report) w is may = may
no_drop (steps j) w is may = no_part (step_of j) (Refused NoMemory) (told_is w (Refused NoMemory) (IsPartRead (Some (step_of j))) is may) refl
no_drop (pulls x) w is may = no_read x (Refused NoMemory) (told_is w (Refused NoMemory) (IsReadOf (asks x)) is may) refl
no_drop s w is may = may

-- whatever comes of taking it
pub want_taken : {E : Type 0} (result : Result (Unit {0}) E) (s new kept : Stage) (a w : Answer) → kept ≡ s → IsDroppable s a → w.reply ≡ Some (Refused NoMemory)
    → OnOk result (new ≡ taken kept w) → OnErr result ((new ≡ kept) × IsDroppable kept w) → new ≡ taken (taken s a) w
want_taken (Ok x) s new kept a w same may is ok err =
    ok ∙ ap (λ x. taken x w) same ∙ ap (λ o. taken_by s (w.entry).kind o) is ∙ sym ((drops s a may).ends (w.entry).kind) ∙ sym (ap (λ o. taken_by (taken s a) (w.entry).kind o) is)
want_taken (Err e) s new kept a w same may is ok err = absurd (no_drop kept w is err.1)

-- ---- acts behind others

both : (before between after : History → Type 0) (k : ℕ) (a b c : Stage) (u v w : Bool) → StepsOn before between k a b u v → StepsOn between after k b c v w → StepsOn before after k a c u w
both before between after k a b c u v w x y = record {
  events = x.events ++ y.events;
  history = λ h at. subst (λ es. after (with_events h es)) (append_assoc h.events x.events y.events) (y.history (with_events h (h.events ++ x.events)) (x.history h at));
  lanes = of_both k x.events y.events x.lanes y.lanes;
  leads = λ p q left at.
      let r = x.leads p q left at in
      let t = y.leads p r.0 left r.1.1 in
      (t.0, (leads_then x.events y.events q r.0 t.0 r.1.0 t.1.0, t.1.1));
}

-- an answer that was dropped, and want of memory behind it
pub twice : (before between after : History → Type 0) (k : ℕ) (s new : Stage) (was : Bool) (act : Act) (a w : Answer) → IsActOf s act → MayGoOn s was → Acted before between k act a
    → IsDroppable s a → Acted between after k acts.Short w → new ≡ taken (taken s a) w
    → StepsOn before after k s new was (w.last || (a.last || was)) × MayGoOn new (w.last || (a.last || was))
twice before between after k s new was act a w of on x may y is =
    let first = once before between k s was act a of on x in
    let second = once between after k (taken s a) (a.last || was) acts.Short w (inr (refl, (drops s a may).wants)) first.1 y in
    subst (λ t. StepsOn before after k s t was (w.last || (a.last || was)) × MayGoOn t (w.last || (a.last || was))) (sym is)
    (both before between after k s (taken s a) (taken (taken s a) w) was (a.last || was) (w.last || (a.last || was)) first.0 second.0, second.1)

-- ---- from its beginning to its report

pub first_on : (c : Command) → IsTask c → MayGoOn (first_stage c) false
first_on c is = record { stops = λ last. absurd (false_true last); sound = sound c is }
  where
    sound : (c : Command) → IsTask c → IsSound (first_stage c)
    sound (commands.Prune group keep dry) is = tt
    sound (commands.Verify snapshot) is = tt
    sound (commands.Sync group) is = tt
    sound c is = tt

begins : (c : Command) → IsTask c → Begins (command_next c) (first_stage c)
unfolding command_next
begins (commands.Prune group keep dry) is p left at =
    (at, record { size = refl; told = refl; is_over = refl }, step_on p (grouping (commands.Prune group keep dry) keep dry) left at.next refl at.on)
begins (commands.Verify snapshot) is p left at =
    (at, record { size = refl; told = refl; is_over = refl }, step_on p (opening snapshot) left at.next refl at.on)
begins (commands.Sync group) is p left at = (refl, refl, at)
begins commands.Gc is p left at = (refl, refl, at)
begins c is p left at = absurd is

pub stepped_none : (before : History → Type 0) (k : ℕ) (c : Command) → IsTask c → HasStepped before before k (command_next c) (first_stage c) false
stepped_none before k c is = record {
  events = [];
  history = λ h at. subst (λ es. before (with_events h es)) (sym (append-nil h.events)) at;
  lanes = tt;
  leads = λ p left next. (p, (refl, begins c is p left next));
}

pub stepped_on : (before between after : History → Type 0) (k : ℕ) (n : List ℕ → Next) (s new : Stage) (was now : Bool) → HasStepped before between k n s was
    → StepsOn between after k s new was now → HasStepped before after k n new now
stepped_on before between after k n s new was now x y = record {
  events = x.events ++ y.events;
  history = λ h at. subst (λ es. after (with_events h es)) (append_assoc h.events x.events y.events) (y.history (with_events h (h.events ++ x.events)) (x.history h at));
  lanes = of_both k x.events y.events x.lanes y.lanes;
  leads = λ p left next.
      let q = x.leads p left next in
      let r = y.leads p q.0 left q.1.1 in
      (r.0, (leads_then x.events y.events p q.0 r.0 q.1.0 r.1.0, r.1.1));
}

-- it was told
pub stepped_done : (before after : History → Type 0) (k : ℕ) (n : List ℕ → Next) (s : Stage) (told : Told) → HasStepped before after k n s told.last → s ≡ done told.reply → Does before after k n told
stepped_done before after k n s told x is = record {
  events = x.events;
  history = x.history;
  lanes = x.lanes;
  leads = λ p left next. let q = x.leads p left next in
      subst (λ y. Leads p x.events y) (subst (λ t. IsAt p left t told.last q.0) is q.1.1) q.1.0;
}

-- ---- memory was wanting for its beginning

first_ends : (c : Command) → MayWant (first_stage c) → taken_by (first_stage c) 2 (Some (Refused NoMemory)) ≡ done (Refused NoMemory)
unfolding take prune.grouped verify.opened pull_take sought
first_ends (commands.Prune group keep dry) may = refl
first_ends (commands.Verify snapshot) may = refl
first_ends (commands.Sync group) may = refl
first_ends c may = absurd may

short_once : (before after : History → Type 0) (k : ℕ) (c : Command) (told : Told) → IsTask c → MayWant (first_stage c) → Did before after k acts.Short told → MayTell acts.Short told
    → StepsOn before after k (first_stage c) (taken_by (first_stage c) 2 (Some told.reply)) false (told.last || false)
short_once before after k (commands.Prune group keep dry) told is may d tells = let on = first_on (commands.Prune group keep dry) is in
    steps_once before after k (grouping (commands.Prune group keep dry) keep dry) false acts.Short told (inr (refl, may)) d
    (steps_on (grouping (commands.Prune group keep dry) keep dry) false acts.Short told tells on).stops
short_once before after k (commands.Verify snapshot) told is may d tells =
    steps_once before after k (opening snapshot) false acts.Short told (inr (refl, may)) d (steps_on (opening snapshot) false acts.Short told tells (first_on (commands.Verify snapshot) is)).stops
short_once before after k (commands.Sync group) told is may d tells = pulls_once before after k (seeking group) false acts.Short told (inr (refl, may)) d (first_on (commands.Sync group) is)
short_once before after k c told is may d tells = absurd may

pub short_does : (before after : History → Type 0) (k : ℕ) (c : Command) (told : Told) → IsTask c → MayWant (first_stage c) → Did before after k acts.Short told → MayTell acts.Short told
    → Does before after k (command_next c) told
short_does before after k c told is may d tells = let want = tells.want (inl refl) in
    stepped_done before after k (command_next c) (taken_by (first_stage c) 2 (Some told.reply)) told
    (stepped_on before before after k (command_next c) (first_stage c) (taken_by (first_stage c) 2 (Some told.reply)) false told.last (stepped_none before k c is)
    (subst (λ b. StepsOn before after k (first_stage c) (taken_by (first_stage c) 2 (Some told.reply)) false b) (or_none told.last) (short_once before after k c told is may d tells)))
    (ap (λ r. taken_by (first_stage c) 2 (Some r)) want ∙ first_ends c may ∙ ap done (sym want))
  where
    or_none : (b : Bool) → (b || false) ≡ b
    or_none true = refl
    or_none false = refl
