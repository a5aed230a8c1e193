-- What a step of a job does, and where it leads.
use Rattle.std.proofs.Common.{◌≡◌, inl, inr, ℕ, Bool, true, false, not, ◌-◌, ◌||◌, ◌==◌, List, [], ◌∷◌, ◌++◌, length, Option, Some, None, Result, Ok, Err, OnErr, IsSome, IfSome, IfOk, IsNone, refl, sym, ap, subst, ◌∙◌}
use Rattle.store_types.specs.declared.refusal.Refusal.TheVariants.{NoMemory}
use Rattle.wire_commands.specs.Inputs.{front}
use Rattle.wire_commands.specs.declared.command.Command.{Command}
use Rattle.wire_commands.specs.declared.command.Command.TheVariants as commands
use Rattle.wire_commands.specs.declared.reply.Reply.{Reply}
use Rattle.wire_commands.specs.declared.reply.Reply.TheVariants as replies
use Rattle.store_model.specs.declared.step.Step.{Step}
use Rattle.store_model.specs.declared.step.Step.TheVariants as made
use Rattle.store_model.specs.Job.{Asking, reading, closing, beginning, sending, aborting, step_of, Job, over, asking, next, report}
use Rattle.store_model.specs.JobReplies.{IsReplyTo}
use Rattle.store_model.specs.Jobs.{job_of, IsJob, take, take_more}
use Rattle.store_model.specs.VerifyJob as verify
use Rattle.store_model.specs.Lanes.{Next, job_step, front_next}
use Rattle.store_model.proofs.LaneLemmas.{GoesOn, part_dropped}
use Rattle.store_history.specs.declared.act.Act.{Act}
use Rattle.store_history.specs.declared.act.Act.TheVariants as acts
use Rattle.store_history.specs.declared.act.Answer.{Answer}
use Rattle.store_history.specs.declared.act.Event.{Event}
use Rattle.store_history.specs.Acts.{IsWellFormed, act_of_step}
use Rattle.store_history.specs.History.{kind, reply}
use Rattle.store_history.specs.LaneRun as lane_run
use Rattle.store_history.specs.LaneRun.{Task, ahead, pull_ahead, ahead_by, Position, next_at, goes_on, is_stopping, may_step}
use Rattle.store_history.specs.Pulling.{Pulling, comparing, is_ending}
use Rattle.store_history.specs.SoFar.{Leads}
use Rattle.store_history.proofs.Jobs.{step_formed, at_job, at_job_next, at_job_wants, at_job_steps, leads_job, leads_job_short}
use Rattle.job_steps.specs.Checks.{stops}
use Rattle.job_steps.specs.Visits.{IsPartRead}
use Rattle.core_state.specs.History.{History}
use Rattle.wire_commands.specs.HasText.{ReplyHasText}
use Rattle.lane.specs.declared.acts.Told.{Told}
use Rattle.lane.specs.Acting.{HasReply, Did}
use Rattle.lane.specs.Doing.{IsNext, answered}
use Rattle.lane.specs.Tasks.{steps, done, job_stage, taken, taken_by, IsActOf, IsOver, IsAnswerTo, IsDroppable, IsStopped, IsSound, TellsNothing, IsAt, StepsOn, MayWant, IsTask, first_stage}
use Rattle.lane.proofs.Acting.{step_replied}
use Rattle.lane.proofs.Going.{goes_stays}
use Rattle.lane.proofs.Stages.{IsDropped, told_is, tells_is}

false_true : false ≡ true → ⊥
false_true e = cc

-- ---- from where its step is next

told_as : (p q : Position) (left : List ℕ) (r : Reply) (b : Bool) → TellsNothing p q → answered q left r b ≡ answered p left r b
told_as p q left r b same =
    ap (λ n. record (answered q left r b) { size = n }) same.size
    ∙ ap (λ ts. record (answered q left r b) { size = p.size; told = ts ++ r ∷ [] }) same.told
    ∙ ap (λ o. record (answered p left r b) { is_over = o }) same.is_over

nothing_more : (p q r : Position) → TellsNothing p q → TellsNothing q r → TellsNothing p r
nothing_more p q r first second = record {
  size = second.size ∙ first.size;
  told = second.told ∙ first.told;
  is_over = second.is_over ∙ first.is_over;
}

-- where nothing was told before
at_from : (p q r : Position) (left : List ℕ) (job : Job) (b : Bool) → TellsNothing p q → IsAt q left (job_stage job) b r → IsAt p left (job_stage job) b r
at_from p q r left (over x) b same at = at ∙ told_as p q left x b same
at_from p q r left (asking j) b same at = (at.0, nothing_more p q r same at.1, at.2)

-- where its step led
here : (p : Position) (left : List ℕ) (job : Job) (b : Bool) → (b ≡ true → IsStopped (job_stage job))
    → IsAt p left (job_stage job) b (at_job p left job b)
unfolding goes_on
here p left (over r) b stopped = refl
here p left (asking j) b stopped = (
  record { on = at_job_steps p left j b stopped; next = at_job_next p left j b; wants = λ step on. at_job_wants p left j b on },
  record { size = refl; told = refl; is_over = refl },
  refl,
)

same_step : (i j : Asking) (left later : List ℕ) → ahead (job_step i later) ≡ ahead (job_step j left) → i ≡ j
same_step i j left later e = cc

-- a step behind which the job's session is not all that is left comes where no answer was the last
pub step_on : (p : Position) (j : Asking) (left : List ℕ) → next_at p ≡ ahead (job_step j left) → is_stopping j ≡ false → may_step p ≡ true → p.is_spent ≡ false
unfolding next_at
step_on p j left is goes on = by_spent p.is_spent (ap (λ b. not p.is_spent || b) (sym (by_task p.task is)) ∙ on)
  where
    by_spent : (b : Bool) → (not b || false) ≡ true → b ≡ false
    by_spent true h = cc
    by_spent false h = refl

    by_pull : (x : Pulling) (y : Next) → pull_ahead x p.left y ≡ ahead (job_step j left) → is_ending x ≡ false
    by_pull (comparing group remote) y e = refl
    by_pull x y e = cc

    by_task : (t : Option Task) → ahead_by t (p.size - length p.left) p.left ≡ ahead (job_step j left) → lane_run.stops t ≡ false
    by_task None e = refl
    by_task (Some (lane_run.steps i)) e = ap is_stopping (same_step i j left p.left e) ∙ goes
    by_task (Some (lane_run.pulls x)) e = by_pull x (front_next (p.size - length p.left) (front p.left)) e
    by_task (Some (lane_run.sweeps b)) e = refl

step_led : (p : Position) (j : Asking) (left : List ℕ) (v : Event) (r : Reply) (act : Act) → IsNext (job_step j left) p → IsActOf (steps j) act → v.act ≡ act → reply v ≡ Some r
    → Leads p (v ∷ []) (at_job p left (take j r) ((v.answer).last || p.is_spent))
step_led p j left v r act at of asks says = by_act of
  where
    by_act : IsActOf (steps j) act → Leads p (v ∷ []) (at_job p left (take j r) ((v.answer).last || p.is_spent))
    by_act (inl is) = leads_job [] p p j left v r refl at.on at.next (asks ∙ is) says
    by_act (inr is) = leads_job_short [] p p j left v r refl (step_on p j left at.next is.1 at.on) at.next (at.wants tt is.1) (asks ∙ is.0) says

-- ---- one step

pub steps_once : (before after : History → Type 0) (k : ℕ) (j : Asking) (was : Bool) (act : Act) (told : Told) → IsActOf (steps j) act → Did before after k act told
    → ((told.last || was) ≡ true → IsStopped (job_stage (take j told.reply))) → StepsOn before after k (steps j) (job_stage (take j told.reply)) was (told.last || was)
steps_once before after k j was act told of d stops = record {
  events = d.event ∷ [];
  history = d.history;
  lanes = (d.lane_is, tt);
  leads = λ p q left at. led p q left at.0 at.1 at.2;
}
  where
    led : (p q : Position) (left : List ℕ) → IsNext (job_step j left) q → TellsNothing p q → q.is_spent ≡ was
        → (r : Position) × (Leads q (d.event ∷ []) r × IsAt p left (job_stage (take j told.reply)) (told.last || was) r)
    led p q left at same spent = let new = take j told.reply in let now = told.last || was in (
      at_job q left new now,
      (
        subst (λ b. Leads q (d.event ∷ []) (at_job q left new b)) (ap (λ b. b || q.is_spent) d.last ∙ ap (λ b. told.last || b) spent)
            (step_led q j left d.event told.reply act at of d.asks d.tells),
        at_from p q (at_job q left new now) left new now same (here q left new now stops),
      ),
    )

-- ---- a part of a file for which there is no memory

-- all one whether it was taken: its job closes its session
taken_job : (job : Job) (n : ℕ) (r : Reply) → taken_by (job_stage job) n (Some r) ≡ job_stage (take_more job r)
taken_job (over report) n r = refl
taken_job (asking j) n r = refl

stays : (job : Job) → GoesOn job → MayWant (job_stage job)
stays (over report) goes = absurd goes
stays (asking j) goes = goes_stays j goes

pub part_alike : (j : Asking) (r : Reply) → IsPartRead (Some (step_of j)) r → IsDropped (steps j) (job_stage (take j r))
unfolding take verify.read_part
part_alike (reading v row bytes) (replies.Part total more) h = let d = part_dropped v row bytes more total in record {
  wants = stays (verify.part_read v row (bytes ++ more) total) d.0;
  again = refl;
  ends = λ n. taken_job (verify.part_read v row (bytes ++ more) total) n (replies.Refused NoMemory) ∙ ap job_stage d.1;
}
part_alike j r h = absurd h

-- ---- as the job has it

-- its next act
no_step : (step : Step) → None ≡ Some step → ⊥
no_step step e = cc

one_step : (s t : Step) → Some s ≡ Some t → t ≡ s
one_step s t e = cc

pub act_is : (job : Job) (step : Step) (act : Act) → next job ≡ Some step → act ≡ act_of_step step → IsActOf (job_stage job) act
act_is (over r) step act is same = absurd (no_step step is)
act_is (asking j) step act is same = inl (same ∙ ap act_of_step (one_step (step_of j) step is))

pub none_over : (job : Job) → IsNone (next job) → IsOver (job_stage job)
none_over (over r) none = tt
none_over (asking j) none = cc

-- or want of memory for it
pub act_wants : (job : Job) → IsSound (job_stage job) → IsSome (next job) → stops job ≡ false → IsActOf (job_stage job) acts.Short
act_wants (over r) begun some on = absurd (no_some some)
  where
    no_some : IsSome (next (over r)) → ⊥
    no_some h = cc
act_wants (asking (closing (replies.Refused refusal))) begun some on = absurd (false_true (sym on))
act_wants (asking (closing report)) begun some on = inr (refl, refl)
act_wants (asking (beginning p)) begun some on = absurd begun
act_wants (asking (sending p c later)) begun some on = absurd begun
act_wants (asking (aborting report)) begun some on = absurd begun
act_wants (asking j) begun some on = inr (refl, refl)

-- its beginning
pub job_first : {E : Type 0} (c : Command) (begun : Result Job E) → IsJob c → IfOk begun (λ job. IfSome (job_of c) (λ j. job ≡ asking j)) → IfOk begun (λ job. job_stage job ≡ first_stage c)
job_first (commands.Prune group keep dry) (Ok job) is started = ap job_stage started
job_first (commands.Verify snapshot) (Ok job) is started = ap job_stage started
job_first c (Ok job) is started = absurd is
job_first c (Err e) is started = tt

pub job_task : (c : Command) → IsJob c → IsTask c
job_task (commands.Prune group keep dry) is = tt
job_task (commands.Verify snapshot) is = tt
job_task c is = absurd is

pub job_wants : {E : Type 0} (c : Command) (begun : Result Job E) → IsJob c → OnErr begun (MayWant (first_stage c))
job_wants c (Ok job) is = tt
job_wants (commands.Prune group keep dry) (Err e) is = refl
job_wants (commands.Verify snapshot) (Err e) is = refl
job_wants c (Err e) is = absurd is

-- what it takes
pub job_asked : (job : Job) (a : Answer) → IsAnswerTo (job_stage job) a → IsSome (next job)
job_asked (over r) a of = absurd of
job_asked (asking j) a of = refl

pub job_form : (job : Job) (a : Answer) (r : Reply) → a.reply ≡ Some r → IsAnswerTo (job_stage job) a → IfSome (next job) (λ step. IsReplyTo step r) × ReplyHasText r
job_form (over report) a r is of = absurd of
job_form (asking j) a r is of = told_is a r (λ r. IsReplyTo (step_of j) r × ReplyHasText r) is of

pub job_taken : (job new : Job) (a : Answer) (r : Reply) → a.reply ≡ Some r → new ≡ take_more job r → job_stage new ≡ taken (job_stage job) a
job_taken job new a r is same = ap job_stage same ∙ sym (ap (λ o. taken_by (job_stage job) (a.entry).kind o) is ∙ taken_job job (a.entry).kind r)

pub job_drops : (job : Job) (a : Answer) (r : Reply) → a.reply ≡ Some r → IsPartRead (next job) r → IsDroppable (job_stage job) a
job_drops (over report) a r is part = absurd part
job_drops (asking j) a r is part = tells_is a r (IsPartRead (Some (step_of j))) is part

-- its report
pub over_none : (job : Job) → IsOver (job_stage job) → IsNone (next job)
over_none (over r) ended = refl
over_none (asking j) ended = absurd ended

pub over_reports : (job : Job) (r : Reply) → IsOver (job_stage job) → r ≡ report job → job_stage job ≡ done r
over_reports (over told) r ended is = ap done (sym is)
over_reports (asking j) r ended is = absurd ended

-- ---- by its stage

pub steps_formed : (j : Asking) (act : Act) → IsSound (steps j) → IsActOf (steps j) act → IsWellFormed act
steps_formed j act begun (inl is) = subst IsWellFormed (sym is) (step_formed j begun)
steps_formed j act begun (inr is) = subst IsWellFormed (sym is.0) tt

pub steps_replied : (j : Asking) (act : Act) → IsActOf (steps j) act → HasReply act
steps_replied j act (inl is) = subst HasReply (sym is) (step_replied (step_of j))
steps_replied j act (inr is) = subst HasReply (sym is.0) tt

pub no_part : (step : Step) (r : Reply) → IsPartRead (Some step) r → r ≡ replies.Refused NoMemory → ⊥
no_part (made.ReadFile name offset) r h is = subst (λ x. IsPartRead (Some (made.ReadFile name offset)) x) is h
no_part step r h is = absurd h
