-- A lane's position knows of the lane's collector, and its job is to report none.
use Rattle.std.proofs.Common.{◌≡◌, ◌≢◌, ℕ, ◌-◌, length, zero, suc, Bool, true, false, List, [], Option, Some, None, refl, sym, ap, subst, ◌∙◌, if◌then◌else◌, ◌==◌, is_none}
use Rattle.store_types.specs.declared.refusal.Refusal.{Refusal}
use Rattle.store_types.specs.declared.refusal.Refusal.TheVariants.{NoMemory}
use Rattle.store_files.specs.Archive.{Snapshot}
use Rattle.wire_commands.specs.declared.command.Command.{Command}
use Rattle.wire_commands.specs.Inputs.{front}
use Rattle.wire_commands.specs.declared.reply.Reply.{Reply}
use Rattle.wire_commands.specs.declared.reply.Reply.TheVariants.{Done, Refused}
use Rattle.store_model.specs.declared.ending.Ending.{Ending}
use Rattle.store_model.specs.declared.ending.Ending.TheVariants as endings
use Rattle.store_model.specs.Job.{Asking, Job, over, asking}
use Rattle.store_model.specs.Jobs.{take as job_take}
use Rattle.store_model.specs.Lanes.{Next, job_step, plain, sync, collect, collecting, bye, broken, end, front_next}
use Rattle.store_model.specs.Steps.{answered}
use Rattle.store_model.specs.Weave.{is_replied, fault_refusal}
use Rattle.store_history.specs.declared.act.Act.{Act}
use Rattle.store_history.specs.declared.act.Act.TheVariants as acts
use Rattle.store_history.specs.declared.act.Answer.{Answer}
use Rattle.store_history.specs.declared.act.Event.{Event}
use Rattle.store_history.specs.Acts.{Class, stepping, reaching, starting, sweeping, wanting, ending, class_of}
use Rattle.store_history.specs.History.{World, open_on, act_outcome, moved, EntryKind, kind_of, step_kind, pass_kind, short_kind, start_kind, close_kind, fault_kind, end_kind, remote_kind, no_kind}
use Rattle.store_history.specs.Legal.{Right, Reports, collecting_on}
use Rattle.store_history.specs.LaneRun.{Task, pulls, sweeps, Ahead, ahead, pull, pull_ahead, ahead_by, job_in, Position, next_at, tells, goes_on, pulls_on, used_up, heard_at, heard, heard_as, last_words, end_faulted, end_heard, Asks, Does, IsIdle}
use Rattle.store_history.specs.Pulling as pulling
use Rattle.store_history.specs.Pulling.{Pulling, SyncJob, sought, take as pull_take}
use Rattle.store_history.proofs.Collectors.{some_none, open_new, cut_none, cut_some, closed_none, closed_some, halted_none, other_none, new_other, cut_other, closed_other, halted_other, may_open_none}
use Rattle.store_history.proofs.Events.{none_swept, IsStepping, IsReaching, FitsNext, asks_class, IsPlainNext, next_plain, right_start, right_close, report_is}
use Rattle.store_history.proofs.Placed.{sweep_in, model_next, model_is, want_shut, open_at, open_is, open_model}
use Rattle.store_history.proofs.Plainly.{IsPlainReply, IsPlainJob, ArePlain, says_plainly, take_plainly}

-- ---- where no collector of the lane is open, no answer opens one, but the start of a GC

goes_shut : (p : Position) (left : List ℕ) (j : Job) → sweep_in (goes_on p left j).task ≡ None
unfolding goes_on
goes_shut p left (over report) = refl
goes_shut p left (asking j) = refl

pulls_shut : (p : Position) (left : List ℕ) (j : SyncJob) → sweep_in (pulls_on p left j).task ≡ None
unfolding pulls_on
pulls_shut p left (pulling.reports report) = refl
pulls_shut p left (pulling.asks x) = refl

pub heard_shut : (p : Position) → sweep_in p.task ≡ None → (n : ℕ) (r : Option Reply) (x : Ahead) → open_at x ≡ None → ((left : List ℕ) → x ≡ ahead (collect left) → (n == 3) ≡ false)
    → sweep_in (heard_at p n r x).task ≡ None
unfolding heard_at
heard_shut p off n (Some r) (ahead (job_step j left)) shut starts = goes_shut p left (job_take j r)
heard_shut p off n (Some r) (ahead (plain c left)) shut starts = refl
heard_shut p off n (Some r) (ahead (sync group left)) shut starts = by_kind (n == 1)
  where
    by_kind : (b : Bool) → sweep_in (if b then pulls_on p p.left (sought group r) else tells p left r).task ≡ None
    by_kind true = pulls_shut p p.left (sought group r)
    by_kind false = refl
heard_shut p off n (Some r) (ahead (collect left)) shut starts = refl
heard_shut p off n None (ahead (collect left)) shut starts =
    ap (λ b. sweep_in (if b then record p { left = left; task = Some (sweeps false) } else p).task) (starts left refl) ∙ off
heard_shut p off n r (ahead (collecting is_out_of_memory)) shut starts = absurd (some_none is_out_of_memory shut)
heard_shut p off n (Some r) (ahead (broken refusal)) shut starts = by_kind (n == 2)
  where
    by_kind : (b : Bool) → sweep_in (if b then used_up p r else p).task ≡ None
    by_kind true = refl
    by_kind false = off
heard_shut p off n (Some r) (pull y left) shut starts = pulls_shut p left (pull_take y r)
heard_shut p off n (Some r) (ahead x) shut starts = off
heard_shut p off n None (ahead (job_step j left)) shut starts = off
heard_shut p off n None x shut starts = off

words_shut : (e : Ending) (p : Position) (x : Ahead) → sweep_in p.task ≡ None → sweep_in (last_words e p x).task ≡ None
unfolding last_words
words_shut e p (ahead bye) off = by_test (is_replied e)
  where
    by_test : (b : Bool) → sweep_in (if b then tells p [] Done else p).task ≡ None
    by_test true = refl
    by_test false = off
words_shut e p (ahead (broken refusal)) off = by_test (is_replied e)
  where
    by_test : (b : Bool) → sweep_in (if b then tells p [] (Refused refusal) else p).task ≡ None
    by_test true = refl
    by_test false = off
words_shut e p x off = off

-- ---- the job

goes_plain : (p : Position) (left : List ℕ) (j : Job) → IsPlainJob j → ArePlain (job_in (goes_on p left j).task)
unfolding goes_on
goes_plain p left (over report) h = tt
goes_plain p left (asking j) h = h

-- what a job's step is answered is no report
abbrev AnswersPlainly : Next → Option Reply → Type 0
AnswersPlainly (job_step j left) (Some r) = IsPlainReply r
AnswersPlainly _ _ = Unit {0}

pub pulls_plain : (p : Position) (left : List ℕ) (j : SyncJob) → ArePlain (job_in (pulls_on p left j).task)
unfolding pulls_on
pulls_plain p left (pulling.reports report) = tt
pulls_plain p left (pulling.asks x) = tt

heard_plain : (p : Position) (n : ℕ) (r : Option Reply) (x : Next) → ArePlain (job_in p.task) → IsPlainNext x → AnswersPlainly x r → ArePlain (job_in (heard_at p n r (ahead x)).task)
unfolding heard_at
heard_plain p n (Some r) (job_step j left) h kept plainly = goes_plain p left (job_take j r) (take_plainly j r kept plainly)
heard_plain p n (Some r) (plain c left) h kept plainly = tt
heard_plain p n (Some r) (sync group left) h kept plainly = by_kind (n == 1)
  where
    by_kind : (b : Bool) → ArePlain (job_in (if b then pulls_on p p.left (sought group r) else tells p left r).task)
    by_kind true = pulls_plain p p.left (sought group r)
    by_kind false = tt
heard_plain p n (Some r) (collect left) h kept plainly = tt
heard_plain p n None (collect left) h kept plainly = by_kind (n == 3)
  where
    by_kind : (b : Bool) → ArePlain (job_in (if b then record p { left = left; task = Some (sweeps false) } else p).task)
    by_kind true = tt
    by_kind false = h
heard_plain p n (Some r) (collecting is_out_of_memory) h kept plainly = by_kind (n == 2)
  where
    by_kind : (b : Bool) → ArePlain (job_in (if b then record p { task = Some (sweeps true) } else tells p p.left r).task)
    by_kind true = tt
    by_kind false = tt
heard_plain p n (Some r) (broken refusal) h kept plainly = by_kind (n == 2)
  where
    by_kind : (b : Bool) → ArePlain (job_in (if b then used_up p r else p).task)
    by_kind true = tt
    by_kind false = h
heard_plain p n (Some r) x h kept plainly = h
heard_plain p n None (job_step j left) h kept plainly = h
heard_plain p n None x h kept plainly = h

words_plain : (e : Ending) (p : Position) (x : Ahead) → ArePlain (job_in p.task) → ArePlain (job_in (last_words e p x).task)
unfolding last_words
words_plain e p (ahead bye) h = by_test (is_replied e)
  where
    by_test : (b : Bool) → ArePlain (job_in (if b then tells p [] Done else p).task)
    by_test true = tt
    by_test false = h
words_plain e p (ahead (broken refusal)) h = by_test (is_replied e)
  where
    by_test : (b : Bool) → ArePlain (job_in (if b then tells p [] (Refused refusal) else p).task)
    by_test true = tt
    by_test false = h
words_plain e p x h = h

plain_by : (j : Asking) (left : List ℕ) (r : Option Reply) (x : Reply) → r ≡ Some x → IsPlainReply x → AnswersPlainly (job_step j left) r
plain_by j left r x is plainly = subst (λ (o : Option Reply). AnswersPlainly (job_step j left) o) (sym is) plainly

refused_answers : (x : Next) (r : Option Reply) (refusal : Refusal) → r ≡ Some (Refused refusal) → AnswersPlainly x r
refused_answers (job_step j left) r refusal is = plain_by j left r (Refused refusal) is refl
refused_answers x r refusal is = tt

-- ---- the lane's end

pub fault_shut : (e : Ending) (p : Position) (r : Option Reply) → sweep_in p.task ≡ None → sweep_in (end_faulted e p r).task ≡ None
fault_shut endings.NoMemory p r off = by_test (is_none (job_in p.task))
  where
    by_test : (b : Bool) → sweep_in (if b then p else heard_at p 5 r (next_at p)).task ≡ None
    by_test true = off
    by_test false = heard_shut p off 5 r (next_at p) (open_is p ∙ off) (λ l e. refl)
fault_shut e p r off = heard_shut p off 5 r (next_at p) (open_is p ∙ off) (λ l e. refl)

fault_plain : (e : Ending) (p : Position) (r : Option Reply) → IsIdle p.task → ArePlain (job_in p.task) → AnswersPlainly (model_next p) r → ArePlain (job_in (end_faulted e p r).task)
fault_plain e p r idle kept plainly = by_ending e
  where
    heard : ArePlain (job_in (heard_at p 5 r (next_at p)).task)
    heard = subst (λ y. ArePlain (job_in (heard_at p 5 r y).task)) (sym (model_is p idle)) (heard_plain p 5 r (model_next p) kept (next_plain p kept) plainly)

    by_test : (b : Bool) → ArePlain (job_in (if b then p else heard_at p 5 r (next_at p)).task)
    by_test true = kept
    by_test false = heard

    by_ending : (e : Ending) → ArePlain (job_in (end_faulted e p r).task)
    by_ending endings.NoMemory = by_test (is_none (job_in p.task))
    by_ending e = heard

-- ---- one event

job_no_collect : (j : Asking) (left l : List ℕ) → ahead (job_step j left) ≡ ahead (collect l) → ⊥
job_no_collect j left l e = cc

plain_no_collect : (c : Command) (left l : List ℕ) → ahead (plain c left) ≡ ahead (collect l) → ⊥
plain_no_collect c left l e = cc

sync_no_collect : (group left l : List ℕ) → ahead (sync group left) ≡ ahead (collect l) → ⊥
sync_no_collect group left l e = cc

pull_no_collect : (y : Pulling) (left l : List ℕ) (n : Next) → pull_ahead y left n ≡ ahead (collect l) → ⊥
pull_no_collect (pulling.comparing group remote) left l (sync name behind) e = cc
pull_no_collect (pulling.comparing group remote) left l n e = cc
pull_no_collect y left l n e = cc

-- only the start of a collector opens one
abbrev pub NoStart : Class → Type 0
NoStart starting = ⊥
NoStart c = Unit {0}

no_start : (R : Option (List Snapshot)) (w : World) (k m : ℕ) (a : Act) (r : Option Reply) (c : Class) → NoStart c → Right R w k m a r c start_kind → ⊥
no_start R w k m a r stepping none h = h
no_start R w k m a r reaching none h = h
no_start R w k m a r starting none h = none
no_start R w k m a r sweeping none h = h
no_start R w k m a r wanting none h = h
no_start R w k m a r ending none h = h

step_no_start : (c : Class) → IsStepping c → NoStart c
step_no_start stepping h = tt
step_no_start c h = absurd h

reach_no_start : (c : Class) → IsReaching c → NoStart c
reach_no_start reaching h = tt
reach_no_start c h = absurd h

heard_opens : (p : Position) (left : List ℕ) (r : Option Reply) → r ≡ None → sweep_in (heard_at p 3 r (ahead (collect left))).task ≡ Some false
unfolding heard_at
heard_opens p left r is = ap (λ (x : Option Reply). sweep_in (heard_at p 3 x (ahead (collect left))).task) is

heard_same : (p : Position) (x : Answer) → IsIdle p.task → sweep_in (heard p x).task ≡ sweep_in (heard_at p (x.entry).kind x.reply (ahead (model_next p))).task
unfolding heard
heard_same p x idle = ap (λ y. sweep_in (heard_at p (x.entry).kind x.reply y).task) (model_is p idle)

asks_here : (p : Position) (v : Event) (a : Act) → IsIdle p.task → v.act ≡ a → Asks (next_at p) v.act → Asks (ahead (model_next p)) a
asks_here p v a idle is asks = subst (λ y. Asks (ahead (model_next p)) y) is (subst (λ x. Asks x v.act) (model_is p idle) asks)

module _ (R : Option (List Snapshot)) (w : World) (k m : ℕ) where
  -- the collectors of other lanes are as before
  pub others_keep : (j : ℕ) (a : Act) (r : Option Reply) (kind : EntryKind) → j ≢ k → Right R w k m a r (class_of a) kind
      → open_on j (moved R w k m a kind).collecting ≡ open_on j w.collecting
  unfolding moved
  others_keep j a r step_kind ne right = refl
  others_keep j a r pass_kind ne right = refl
  others_keep j a r short_kind ne right = cut_other j k w.collecting ne
  others_keep j a r start_kind ne right =
      new_other j k false ne ∙ sym (ap (λ c. open_on j c) (may_open_none w k (right_start R w [] k m a r (class_of a) right).1))
  others_keep j a r close_kind ne right = by_own (collecting_on w k) refl (right_close R w [] k m a r (class_of a) right).1
    where
      by_own : (o : Option Bool) → collecting_on w k ≡ o → Reports o r → None ≡ open_on j w.collecting
      by_own None is h = absurd h
      by_own (Some b) is h = sym (other_none j k w.collecting b ne is)
  others_keep j a r fault_kind ne right = halted_other j k (class_of a) w.collecting ne
  others_keep j a r end_kind ne right = closed_other j k w.collecting ne
  others_keep j a r remote_kind ne right = refl
  others_keep j a r no_kind ne right = refl

  -- where the lane's is not open, it is not after all acts but a start of one
  stays_shut : (a : Act) (r : Option Reply) (kind : EntryKind) → Right R w k m a r (class_of a) kind → NoStart (class_of a)
      → open_on k w.collecting ≡ None → open_on k (moved R w k m a kind).collecting ≡ None
  unfolding moved
  stays_shut a r step_kind right starts shut = shut
  stays_shut a r pass_kind right starts shut = shut
  stays_shut a r short_kind right starts shut = ap (λ c. open_on k c) (cut_none k w.collecting shut) ∙ shut
  stays_shut a r start_kind right starts shut = absurd (no_start R w k m a r (class_of a) starts right)
  stays_shut a r close_kind right starts shut = refl
  stays_shut a r fault_kind right starts shut = ap (λ c. open_on k c) (halted_none k (class_of a) w.collecting shut) ∙ shut
  stays_shut a r end_kind right starts shut = ap (λ c. open_on k c) (closed_none k w.collecting shut) ∙ shut
  stays_shut a r remote_kind right starts shut = shut
  stays_shut a r no_kind right starts shut = shut

  -- an act of the collector
  sweep_keeps : (p : Position) (n : ℕ) (r : Option Reply) (b : Bool) → sweep_in p.task ≡ Some b → open_on k w.collecting ≡ Some b
      → Right R w k m acts.Step r sweeping (kind_of n) → sweep_in (heard_at p n r (ahead (collecting b))).task ≡ open_on k (moved R w k m acts.Step (kind_of n)).collecting
  unfolding moved heard_at
  sweep_keeps p zero r b on is right = absurd (some_none b (sym is ∙ right.1))
  sweep_keeps p (suc zero) r b on is right = ap (λ (x : Option Reply). sweep_in (heard_at p 1 x (ahead (collecting b))).task) right.2 ∙ on ∙ sym is
  sweep_keeps p (suc (suc zero)) r b on is right =
      ap (λ (x : Option Reply). sweep_in (heard_at p 2 x (ahead (collecting b))).task) right.0
      ∙ sym (ap (λ c. open_on k c) (cut_some k w.collecting b is) ∙ open_new k true)
  sweep_keeps p (suc (suc (suc zero))) r b on is right = absurd right
  sweep_keeps p (suc (suc (suc (suc zero)))) r b on is right =
      let rep = report_is R w [] k m b r (subst (λ o. Reports o r) is right.1) in
      ap (λ (x : Option Reply). sweep_in (heard_at p 4 x (ahead (collecting b))).task) rep.1
  sweep_keeps p (suc (suc (suc (suc (suc zero))))) r b on is right =
      ap (λ (x : Option Reply). sweep_in (heard_at p 5 x (ahead (collecting b))).task) right
      ∙ sym (ap (λ c. open_on k c) (closed_some k w.collecting b is))
  sweep_keeps p (suc (suc (suc (suc (suc (suc zero)))))) r b on is right = absurd right
  sweep_keeps p (suc (suc (suc (suc (suc (suc (suc zero))))))) r b on is right = absurd right
  sweep_keeps p (suc (suc (suc (suc (suc (suc (suc (suc n)))))))) r b on is right = absurd right

  -- a GC
  start_keeps : (p : Position) (left : List ℕ) (n : ℕ) (r : Option Reply) → sweep_in p.task ≡ None → open_on k w.collecting ≡ None
      → Right R w k m acts.Start r starting (kind_of n) → sweep_in (heard_at p n r (ahead (collect left))).task ≡ open_on k (moved R w k m acts.Start (kind_of n)).collecting
  unfolding moved
  start_keeps p left zero r off shut right = heard_shut p off 0 r (ahead (collect left)) refl (λ l e. refl) ∙ sym shut
  start_keeps p left (suc zero) r off shut right = absurd right
  start_keeps p left (suc (suc zero)) r off shut right =
      heard_shut p off 2 r (ahead (collect left)) refl (λ l e. refl)
      ∙ sym (ap (λ c. open_on k c) (cut_none k w.collecting shut) ∙ shut)
  start_keeps p left (suc (suc (suc zero))) r off shut right = heard_opens p left r right.2 ∙ sym (open_new k false)
  start_keeps p left (suc (suc (suc (suc zero)))) r off shut right = absurd right
  start_keeps p left (suc (suc (suc (suc (suc zero))))) r off shut right =
      heard_shut p off 5 r (ahead (collect left)) refl (λ l e. refl) ∙ sym shut
  start_keeps p left (suc (suc (suc (suc (suc (suc zero)))))) r off shut right = absurd right
  start_keeps p left (suc (suc (suc (suc (suc (suc (suc zero))))))) r off shut right = absurd right
  start_keeps p left (suc (suc (suc (suc (suc (suc (suc (suc n)))))))) r off shut right = absurd right

  -- an act that the program asked for
  asked_keeps : (p : Position) (n : ℕ) (a : Act) (r : Option Reply) (x : Next) → open_at (ahead x) ≡ sweep_in p.task → sweep_in p.task ≡ open_on k w.collecting → Asks (ahead x) a
      → Right R w k m a r (class_of a) (kind_of n) → sweep_in (heard_at p n r (ahead x)).task ≡ open_on k (moved R w k m a (kind_of n)).collecting
  asked_keeps p n a r (job_step j left) at agrees asks right =
      heard_shut p (sym at) n r (ahead (job_step j left)) refl (λ l e. absurd (job_no_collect j left l e))
      ∙ sym (stays_shut a r (kind_of n) right (step_no_start (class_of a) (asks_class (job_step j left) a asks)) (sym agrees ∙ sym at))
  asked_keeps p n a r (plain c left) at agrees asks right =
      heard_shut p (sym at) n r (ahead (plain c left)) refl (λ l e. absurd (plain_no_collect c left l e))
      ∙ sym (stays_shut a r (kind_of n) right (step_no_start (class_of a) (asks_class (plain c left) a asks)) (sym agrees ∙ sym at))
  asked_keeps p n a r (collect left) at agrees asks right =
      start_keeps p left n r (sym at) (sym agrees ∙ sym at) (subst (λ y. Right R w k m y r (class_of y) (kind_of n)) asks right)
      ∙ ap (λ y. open_on k (moved R w k m y (kind_of n)).collecting) (sym asks)
  asked_keeps p n a r (collecting b) at agrees asks right =
      sweep_keeps p n r b (sym at) (sym agrees ∙ sym at) (subst (λ y. Right R w k m y r (class_of y) (kind_of n)) asks right)
      ∙ ap (λ y. open_on k (moved R w k m y (kind_of n)).collecting) (sym asks)
  asked_keeps p n a r (sync group left) at agrees asks right =
      heard_shut p (sym at) n r (ahead (sync group left)) refl (λ l e. absurd (sync_no_collect group left l e))
      ∙ sym (stays_shut a r (kind_of n) right (reach_no_start (class_of a) (asks_class (sync group left) a asks)) (sym agrees ∙ sym at))
  asked_keeps p n a r bye at agrees asks right = absurd asks
  asked_keeps p n a r (broken refusal) at agrees asks right = absurd asks
  asked_keeps p n a r end at agrees asks right = absurd asks

  -- want of memory outside the turn
  wanted_keeps : (p : Position) (n : ℕ) (r : Option Reply) → sweep_in p.task ≡ None → open_on k w.collecting ≡ None → Right R w k m acts.Short r wanting (kind_of n)
      → sweep_in (heard_at p n r (ahead (model_next p))).task ≡ open_on k (moved R w k m acts.Short (kind_of n)).collecting
  unfolding moved
  wanted_keeps p (suc (suc zero)) r off shut right =
      heard_shut p off 2 r (ahead (model_next p)) (open_model p ∙ off) (λ l e. refl)
      ∙ sym (ap (λ c. open_on k c) (cut_none k w.collecting shut) ∙ shut)
  wanted_keeps p zero r off shut right = absurd right
  wanted_keeps p (suc zero) r off shut right = absurd right
  wanted_keeps p (suc (suc (suc zero))) r off shut right = absurd right
  wanted_keeps p (suc (suc (suc (suc zero)))) r off shut right = absurd right
  wanted_keeps p (suc (suc (suc (suc (suc zero))))) r off shut right = absurd right
  wanted_keeps p (suc (suc (suc (suc (suc (suc zero)))))) r off shut right = absurd right
  wanted_keeps p (suc (suc (suc (suc (suc (suc (suc zero))))))) r off shut right = absurd right
  wanted_keeps p (suc (suc (suc (suc (suc (suc (suc (suc n)))))))) r off shut right = absurd right

  -- the lane's end
  end_keeps : (e : Ending) (p : Position) (n : ℕ) (r : Option Reply) → sweep_in p.task ≡ None → open_on k w.collecting ≡ None → Right R w k m acts.End r ending (kind_of n)
      → sweep_in (end_heard e p n r).task ≡ open_on k (moved R w k m acts.End (kind_of n)).collecting
  unfolding moved
  end_keeps e p zero r off shut right = absurd right
  end_keeps e p (suc zero) r off shut right = absurd right
  end_keeps e p (suc (suc zero)) r off shut right = absurd right
  end_keeps e p (suc (suc (suc zero))) r off shut right = absurd right
  end_keeps e p (suc (suc (suc (suc zero)))) r off shut right = absurd right
  end_keeps e p (suc (suc (suc (suc (suc zero))))) r off shut right =
      fault_shut e p r off ∙ sym shut
  end_keeps e p (suc (suc (suc (suc (suc (suc zero)))))) r off shut right =
      words_shut e p (next_at p) off ∙ sym (ap (λ c. open_on k c) (closed_none k w.collecting shut) ∙ shut)
  end_keeps e p (suc (suc (suc (suc (suc (suc (suc zero))))))) r off shut right = absurd right
  end_keeps e p (suc (suc (suc (suc (suc (suc (suc (suc n)))))))) r off shut right = absurd right

  -- the lane's position knows of its collector again
  pub own_keeps : (e : Ending) (p : Position) (a : Act) (x : Answer) (v : Event) (vs : List Event) → IsIdle p.task → v.act ≡ a → Does (class_of a) e p v vs
      → sweep_in p.task ≡ open_on k w.collecting → Right R w k m a x.reply (class_of a) (kind_of (x.entry).kind)
      → sweep_in (heard_as (class_of a) e p x).task ≡ open_on k (moved R w k m a (kind_of (x.entry).kind)).collecting
  own_keeps e p acts.End x v vs idle is does agrees right = end_keeps e p (x.entry).kind x.reply (none_swept p.task does.2) (sym agrees ∙ none_swept p.task does.2) right
  own_keeps e p acts.Short x v vs idle is does agrees right =
      let off = want_shut p does.1 in heard_same p x idle ∙ wanted_keeps p (x.entry).kind x.reply off (sym agrees ∙ off) right
  own_keeps e p acts.Start x v vs idle is does agrees right =
      heard_same p x idle ∙ asked_keeps p (x.entry).kind acts.Start x.reply (model_next p) (open_model p) agrees (asks_here p v acts.Start idle is does.1) right
  own_keeps e p (acts.RemoteList c) x v vs idle is does agrees right =
      heard_same p x idle ∙ asked_keeps p (x.entry).kind (acts.RemoteList c) x.reply (model_next p) (open_model p) agrees (asks_here p v (acts.RemoteList c) idle is does.1) right
  own_keeps e p (acts.RemoteFile snapshot name offset) x v vs idle is does agrees right =
      heard_same p x idle ∙ asked_keeps p (x.entry).kind (acts.RemoteFile snapshot name offset) x.reply (model_next p) (open_model p) agrees (asks_here p v (acts.RemoteFile snapshot name offset) idle is does.1) right
  own_keeps e p (acts.RemoteChunk digest) x v vs idle is does agrees right =
      heard_same p x idle ∙ asked_keeps p (x.entry).kind (acts.RemoteChunk digest) x.reply (model_next p) (open_model p) agrees (asks_here p v (acts.RemoteChunk digest) idle is does.1) right
  own_keeps e p acts.Step x v vs idle is does agrees right =
      heard_same p x idle ∙ asked_keeps p (x.entry).kind acts.Step x.reply (model_next p) (open_model p) agrees (asks_here p v acts.Step idle is does) right
  own_keeps e p (acts.Plain c) x v vs idle is does agrees right =
      heard_same p x idle ∙ asked_keeps p (x.entry).kind (acts.Plain c) x.reply (model_next p) (open_model p) agrees (asks_here p v (acts.Plain c) idle is does.1) right
  own_keeps e p (acts.JobGroup c) x v vs idle is does agrees right =
      heard_same p x idle ∙ asked_keeps p (x.entry).kind (acts.JobGroup c) x.reply (model_next p) (open_model p) agrees (asks_here p v (acts.JobGroup c) idle is does.1) right
  own_keeps e p (acts.Blob name checked) x v vs idle is does agrees right =
      heard_same p x idle ∙ asked_keeps p (x.entry).kind (acts.Blob name checked) x.reply (model_next p) (open_model p) agrees (asks_here p v (acts.Blob name checked) idle is does.1) right
  own_keeps e p (acts.ReadFile name offset) x v vs idle is does agrees right =
      heard_same p x idle ∙ asked_keeps p (x.entry).kind (acts.ReadFile name offset) x.reply (model_next p) (open_model p) agrees (asks_here p v (acts.ReadFile name offset) idle is does.1) right
  own_keeps e p (acts.ReadChunk name entry) x v vs idle is does agrees right =
      heard_same p x idle ∙ asked_keeps p (x.entry).kind (acts.ReadChunk name entry) x.reply (model_next p) (open_model p) agrees (asks_here p v (acts.ReadChunk name entry) idle is does.1) right
  own_keeps e p (acts.Chunk digest checked) x v vs idle is does agrees right =
      heard_same p x idle ∙ asked_keeps p (x.entry).kind (acts.Chunk digest checked) x.reply (model_next p) (open_model p) agrees (asks_here p v (acts.Chunk digest checked) idle is does.1) right

  -- an act of an open SYNC leaves the collectors
  pub pull_keeps : (e : Ending) (p : Position) (y : Pulling) (a : Act) (x : Answer) (c : Class) → c ≡ class_of a → NoStart c → p.task ≡ Some (pulls y)
      → sweep_in p.task ≡ open_on k w.collecting → Right R w k m a x.reply c (kind_of (x.entry).kind)
      → sweep_in (heard p x).task ≡ open_on k (moved R w k m a (kind_of (x.entry).kind)).collecting
  unfolding heard next_at
  pull_keeps e p y a x c class starts going agrees right =
      let off = ap sweep_in going in
      heard_shut p off (x.entry).kind x.reply (next_at p) (open_is p ∙ off)
      (λ l e. absurd (pull_no_collect y p.left l (front_next (p.size - length p.left) (front p.left)) (sym (ap (λ (t : Option Task). ahead_by t (p.size - length p.left) p.left) going) ∙ e)))
      ∙ sym (stays_shut a x.reply (kind_of (x.entry).kind) (subst (λ d. Right R w k m a x.reply d (kind_of (x.entry).kind)) class right) (subst NoStart class starts) (sym agrees ∙ off))

  -- ---- and its job

  step_answers : (j : Asking) (left : List ℕ) (a : Act) (r : Option Reply) (c : Class) (n : EntryKind) → IsStepping c → Right R w k m a r c n
      → AnswersPlainly (job_step j left) r
  step_answers j left a r stepping step_kind fits h = plain_by j left r (answered w.store (act_outcome R w k m a)).1 h.1 (says_plainly R w k m a)
  step_answers j left a r stepping short_kind fits h = plain_by j left r (Refused NoMemory) h.0 refl
  step_answers j left a r stepping fault_kind fits h = plain_by j left r (Refused (fault_refusal w.fault)) h refl
  step_answers j left a r stepping n fits h = absurd h
  step_answers j left a r c n fits h = absurd fits

  answers : (x : Next) (a : Act) (r : Option Reply) (n : EntryKind) → FitsNext x (class_of a) → Right R w k m a r (class_of a) n → AnswersPlainly x r
  answers (job_step j left) a r n fits h = step_answers j left a r (class_of a) n fits h
  answers (plain c left) a r n fits h = tt
  answers (sync group left) a r n fits h = tt
  answers (collect left) a r n fits h = tt
  answers (collecting is_out_of_memory) a r n fits h = tt
  answers bye a r n fits h = tt
  answers (broken refusal) a r n fits h = tt
  answers end a r n fits h = tt

  asked_plain : (p : Position) (a : Act) (x : Answer) → IsIdle p.task → ArePlain (job_in p.task) → Asks (ahead (model_next p)) a → Right R w k m a x.reply (class_of a) (kind_of (x.entry).kind)
      → ArePlain (job_in (heard p x).task)
  unfolding heard
  asked_plain p a x idle kept asks right =
      subst (λ y. ArePlain (job_in (heard_at p (x.entry).kind x.reply y).task)) (sym (model_is p idle))
      (heard_plain p (x.entry).kind x.reply (model_next p) kept (next_plain p kept)
      (answers (model_next p) a x.reply (kind_of (x.entry).kind) (asks_class (model_next p) a asks) right))

  wanted_plain : (p : Position) (x : Answer) (n : EntryKind) → IsIdle p.task → ArePlain (job_in p.task) → Right R w k m acts.Short x.reply wanting n → ArePlain (job_in (heard p x).task)
  unfolding heard
  wanted_plain p x short_kind idle kept right =
      subst (λ y. ArePlain (job_in (heard_at p (x.entry).kind x.reply y).task)) (sym (model_is p idle))
      (heard_plain p (x.entry).kind x.reply (model_next p) kept (next_plain p kept) (refused_answers (model_next p) x.reply NoMemory right))
  wanted_plain p x n idle kept right = absurd right

  end_plain : (e : Ending) (p : Position) (n : ℕ) (r : Option Reply) → IsIdle p.task → ArePlain (job_in p.task) → Right R w k m acts.End r ending (kind_of n)
      → ArePlain (job_in (end_heard e p n r).task)
  end_plain e p zero r idle kept right = absurd right
  end_plain e p (suc zero) r idle kept right = absurd right
  end_plain e p (suc (suc zero)) r idle kept right = absurd right
  end_plain e p (suc (suc (suc zero))) r idle kept right = absurd right
  end_plain e p (suc (suc (suc (suc zero)))) r idle kept right = absurd right
  end_plain e p (suc (suc (suc (suc (suc zero))))) r idle kept right =
      fault_plain e p r idle kept (refused_answers (model_next p) r (fault_refusal w.fault) right.1)
  end_plain e p (suc (suc (suc (suc (suc (suc zero)))))) r idle kept right = words_plain e p (next_at p) kept
  end_plain e p (suc (suc (suc (suc (suc (suc (suc zero))))))) r idle kept right = absurd right
  end_plain e p (suc (suc (suc (suc (suc (suc (suc (suc n)))))))) r idle kept right = absurd right

  pub own_plain : (e : Ending) (p : Position) (a : Act) (x : Answer) (v : Event) (vs : List Event) → IsIdle p.task → v.act ≡ a → Does (class_of a) e p v vs
      → ArePlain (job_in p.task) → Right R w k m a x.reply (class_of a) (kind_of (x.entry).kind) → ArePlain (job_in (heard_as (class_of a) e p x).task)
  own_plain e p acts.End x v vs idle is does kept right = end_plain e p (x.entry).kind x.reply idle kept right
  own_plain e p acts.Short x v vs idle is does kept right = wanted_plain p x (kind_of (x.entry).kind) idle kept right
  own_plain e p acts.Start x v vs idle is does kept right =
      asked_plain p acts.Start x idle kept (asks_here p v acts.Start idle is does.1) right
  own_plain e p (acts.RemoteList c) x v vs idle is does kept right =
      asked_plain p (acts.RemoteList c) x idle kept (asks_here p v (acts.RemoteList c) idle is does.1) right
  own_plain e p (acts.RemoteFile snapshot name offset) x v vs idle is does kept right =
      asked_plain p (acts.RemoteFile snapshot name offset) x idle kept (asks_here p v (acts.RemoteFile snapshot name offset) idle is does.1) right
  own_plain e p (acts.RemoteChunk digest) x v vs idle is does kept right =
      asked_plain p (acts.RemoteChunk digest) x idle kept (asks_here p v (acts.RemoteChunk digest) idle is does.1) right
  own_plain e p acts.Step x v vs idle is does kept right =
      asked_plain p acts.Step x idle kept (asks_here p v acts.Step idle is does) right
  own_plain e p (acts.Plain c) x v vs idle is does kept right =
      asked_plain p (acts.Plain c) x idle kept (asks_here p v (acts.Plain c) idle is does.1) right
  own_plain e p (acts.JobGroup c) x v vs idle is does kept right =
      asked_plain p (acts.JobGroup c) x idle kept (asks_here p v (acts.JobGroup c) idle is does.1) right
  own_plain e p (acts.Blob name checked) x v vs idle is does kept right =
      asked_plain p (acts.Blob name checked) x idle kept (asks_here p v (acts.Blob name checked) idle is does.1) right
  own_plain e p (acts.ReadFile name offset) x v vs idle is does kept right =
      asked_plain p (acts.ReadFile name offset) x idle kept (asks_here p v (acts.ReadFile name offset) idle is does.1) right
  own_plain e p (acts.ReadChunk name entry) x v vs idle is does kept right =
      asked_plain p (acts.ReadChunk name entry) x idle kept (asks_here p v (acts.ReadChunk name entry) idle is does.1) right
  own_plain e p (acts.Chunk digest checked) x v vs idle is does kept right =
      asked_plain p (acts.Chunk digest checked) x idle kept (asks_here p v (acts.Chunk digest checked) idle is does.1) right
