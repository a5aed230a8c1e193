-- What is open on a lane from a command to its report: what it asks, and where the answers lead.
use Rattle.std.specs.Prelude.{ℕ, ◌≡◌, ◌⊎◌, ◌==◌, Bool, true, false, List, ◌++◌, if◌then◌else◌, Option, Some, None, IsSome, IfSome}
use Rattle.store_types.specs.declared.order.TheConstants.{MEMORY_KIND}
use Rattle.wire_commands.specs.declared.command.Command.{Command}
use Rattle.wire_commands.specs.declared.command.Command.TheVariants as commands
use Rattle.wire_commands.specs.declared.reply.Reply.{Reply}
use Rattle.wire_commands.specs.HasText.{ReplyHasText}
use Rattle.store_model.specs.Job.{Asking, grouping, opening, step_of, Job, over, asking}
use Rattle.store_model.specs.JobReplies.{IsReplyTo}
use Rattle.store_model.specs.Jobs.{take}
use Rattle.store_model.specs.Lanes.{Next, job_step, sync, collect}
use Rattle.store_history.specs.declared.act.Act.{Act}
use Rattle.store_history.specs.declared.act.Act.TheVariants as acts
use Rattle.store_history.specs.declared.act.Answer.{Answer}
use Rattle.store_history.specs.declared.act.Event.{Event}
use Rattle.store_history.specs.Acts.{act_of_step}
use Rattle.store_history.specs.Begun.{IsBegun}
use Rattle.store_history.specs.LaneRun as lane_run
use Rattle.store_history.specs.LaneRun.{Position, is_stopping}
use Rattle.store_history.specs.Pulling.{Pulling, seeking, comparing, SyncJob, reports, asks, act_of, take as pull_take, is_ending}
use Rattle.store_history.specs.Seats.{AreOf}
use Rattle.store_history.specs.SoFar.{Leads}
use Rattle.core_state.specs.History.{History}
use Rattle.job_steps.specs.Visits.{IsPartRead}
use Rattle.pull_steps.specs.Taken.{IsReadOf, IsReplyTo as IsPullReply}
use Rattle.shared_store.specs.Comes.{with_events}
use Rattle.turn_lock.specs.State.{SeatState}
use Rattle.lane.specs.Acting.{Has}
use Rattle.lane.specs.Doing.{IsNext, answered}
use Rattle.lane.specs.Pulling.{IsFormed}

-- ---- how far it has come

pub data Stage : Type 0 where
  -- nothing more is asked, and this is the report
  done : Reply → Stage
  -- a step of a PRUNE or a VERIFY
  steps : Asking → Stage
  -- what a SYNC asks
  pulls : Pulling → Stage
  -- the start of the lane's collector, and then its acts
  starts : Stage
  sweeps : Stage

abbrev pub job_stage : Job → Stage
job_stage (over report) = done report
job_stage (asking j) = steps j

abbrev pub pull_stage : SyncJob → Stage
pull_stage (reports report) = done report
pull_stage (asks x) = pulls x

-- a command of more than one act
abbrev pub IsTask : Command → Type 0
IsTask (commands.Prune group keep dry) = Unit {0}
IsTask (commands.Verify snapshot) = Unit {0}
IsTask (commands.Sync group) = Unit {0}
IsTask commands.Gc = Unit {0}
IsTask c = ⊥

-- where it begins
abbrev pub first_stage : Command → Stage
first_stage (commands.Prune group keep dry) = steps (grouping (commands.Prune group keep dry) keep dry)
first_stage (commands.Verify snapshot) = steps (opening snapshot)
first_stage (commands.Sync group) = pulls (seeking group)
first_stage c = starts

-- ---- what is next

-- the act for what it asks
abbrev pub IsAsked : Stage → Act → Type 0
IsAsked (done report) act = ⊥
IsAsked (steps j) act = act ≡ act_of_step (step_of j)
IsAsked (pulls x) act = act ≡ act_of x
IsAsked starts act = act ≡ acts.Start
IsAsked sweeps act = act ≡ acts.Step

-- memory may be wanting for that act, unless it closes a session behind a refusal
abbrev pub MayWant : Stage → Type 0
MayWant (steps j) = is_stopping j ≡ false
MayWant (pulls x) = is_ending x ≡ false
MayWant s = ⊥

abbrev pub IsActOf : Stage → Act → Type 0
IsActOf s act = IsAsked s act ⊎ ((act ≡ acts.Short) × MayWant s)

abbrev pub IsOver : Stage → Type 0
IsOver (done report) = Unit {0}
IsOver s = ⊥

abbrev pub IsNextAct : Stage → Option Act → Type 0
IsNextAct s None = IsOver s
IsNextAct s (Some act) = IsActOf s act

-- ---- its answer

-- want of memory ends the collector with its next act
abbrev pub taken_by : Stage → ℕ → Option Reply → Stage
taken_by (steps j) kind (Some r) = job_stage (take j r)
taken_by (pulls x) kind (Some r) = pull_stage (pull_take x r)
taken_by starts kind (Some r) = done r
taken_by starts kind None = sweeps
taken_by sweeps kind (Some r) = if kind == MEMORY_KIND then sweeps else done r
taken_by s kind _ = s

abbrev pub taken : Stage → Answer → Stage
taken s a = taken_by s (a.entry).kind a.reply

-- something was told, and that holds of it
abbrev pub Tells : Answer → (Reply → Type 0) → Type 0
Tells a P = IsSome a.reply × IfSome a.reply P

abbrev pub IsAnswerTo : Stage → Answer → Type 0
IsAnswerTo (done report) a = ⊥
IsAnswerTo (steps j) a = Tells a (λ r. IsReplyTo (step_of j) r × ReplyHasText r)
IsAnswerTo (pulls x) a = Tells a (IsPullReply (asks x))
IsAnswerTo s a = IfSome a.reply ReplyHasText

-- a part of a file or a chunk, for which there may be no memory
abbrev pub IsDroppable : Stage → Answer → Type 0
IsDroppable (steps j) a = Tells a (IsPartRead (Some (step_of j)))
IsDroppable (pulls x) a = Tells a (IsReadOf (asks x))
IsDroppable s a = ⊥

-- ---- that it goes on

-- nothing more is asked, or no more than that its session, its writer or its collector is closed
abbrev pub IsStopped : Stage → Type 0
IsStopped (steps j) = is_stopping j ≡ true
IsStopped (pulls x) = is_ending x ≡ true
IsStopped starts = ⊥
IsStopped s = Unit {0}

-- what holds of it at each point
abbrev pub IsSound : Stage → Type 0
IsSound (steps j) = IsBegun (asking j)
IsSound (pulls x) = IsFormed x
IsSound s = Unit {0}

-- It goes on from here: after an answer that is the last no more than what IsStopped allows.
pub record MayGoOn (s : Stage) (is_last : Bool) : Type 0 where
  pub stops : is_last ≡ true → IsStopped s
  pub sound : IsSound s

-- ---- where it has come to on its lane

-- nothing was told between these positions of a lane
pub record TellsNothing (p q : Position) : Type 0 where
  pub size : q.size ≡ p.size
  pub told : q.told ≡ p.told
  pub is_over : q.is_over ≡ p.is_over

-- a SYNC's command is next
abbrev pub IsSyncNext : Position → List ℕ → Type 0
IsSyncNext p left = (group : List ℕ) × IsNext (sync group left) p

-- until the first step of the SYNC its command is left in the input
abbrev pub left_at : Position → List ℕ → Pulling → List ℕ
left_at p left (comparing group remote) = p.left
left_at p left x = left

abbrev pub pulling_at : Position → List ℕ → Pulling → Bool → Position
pulling_at p left x is_last = record p { left = left_at p left x; task = Some (lane_run.pulls x); is_unheld = false; is_spent = is_last }

abbrev pub sweeping_at : Position → List ℕ → Bool → Bool → Position
sweeping_at p left is_cut is_last = record p { left = left; task = Some (lane_run.sweeps is_cut); is_unheld = false; is_spent = is_last }

-- From where its command was next: it asks this next, or its report was told.
abbrev pub IsAt : Position → List ℕ → Stage → Bool → Position → Type 0
IsAt p left (done report) is_last q = q ≡ answered p left report is_last
IsAt p left (steps j) is_last q = IsNext (job_step j left) q × TellsNothing p q × (q.is_spent ≡ is_last)
IsAt p left (pulls (seeking group)) is_last q = (q ≡ p) × (is_last ≡ false) × IsNext (sync group left) p
IsAt p left (pulls x) is_last q = (q ≡ pulling_at p left x is_last) × IsSyncNext p left
IsAt p left starts is_last q = (q ≡ p) × (is_last ≡ false) × IsNext (collect left) p
IsAt p left sweeps is_last q = (is_cut : Bool) × (q ≡ sweeping_at p left is_cut is_last) × IsNext (collect left) p

-- where this is next on the lane, it is at its beginning
abbrev pub Begins : (List ℕ → Next) → Stage → Type 0
Begins n s = (p : Position) (left : List ℕ) → IsNext (n left) p → IsAt p left s false p

-- Acts of the lane were entered, for what was asked or for want of memory behind it. From wherever this is next on the lane they lead to here.
pub record HasStepped (before now : History → Type 0) (k : ℕ) (n : List ℕ → Next) (s : Stage) (is_last : Bool) : Type 0 where
  pub events : List Event
  pub history : (h : History) → before h → now (with_events h (h.events ++ events))
  pub lanes : AreOf k events
  pub leads : (p : Position) (left : List ℕ) → IsNext (n left) p → (q : Position) × (Leads p events q × IsAt p left s is_last q)

-- The act for what was asked was entered, and where its answer was dropped, want of memory behind it. From where that was next they lead to
-- what is asked then.
pub record StepsOn (before after : History → Type 0) (k : ℕ) (old new : Stage) (was_last is_last : Bool) : Type 0 where
  pub events : List Event
  pub history : (h : History) → before h → after (with_events h (h.events ++ events))
  pub lanes : AreOf k events
  pub leads : (p q : Position) (left : List ℕ) → IsAt p left old was_last q → (r : Position) × (Leads q events r × IsAt p left new is_last r)

-- ---- of seats, from whatever they had before

abbrev pub SeatStepsOn : SeatState Event → SeatState Event → ℕ → Stage → Stage → Bool → Bool → Type 0
SeatStepsOn old new k s now was_last is_last =
    (start : SeatState Event) → StepsOn (Has start old) (Has start new) k s now was_last is_last
