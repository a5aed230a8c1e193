-- The program of a lane: its acts, one after another, and what it tells its sink.
use Rattle.std.specs.Prelude.{ℕ, ◌≡◌, ◌-◌, Bool, true, false, not, ◌&&◌, ◌||◌, List, [], ◌∷◌, ◌++◌, map, length, take, nat_le, ◌==◌, if◌then◌else◌, Option, Some, None, is_none}
use Rattle.std.specs.Int.{w32, from_le_bytes}
use Rattle.std.specs.List.{flat_map}
use Rattle.store_types.specs.declared.order.TheConstants.{PART_KIND, MEMORY_KIND, START_KIND, FAULT_KIND, END_KIND}
use Rattle.wire_frames.specs.Frames.{frame, short, cut}
use Rattle.wire_commands.specs.declared.command.Command.TheVariants as commands
use Rattle.wire_commands.specs.declared.reply.Reply.{Reply}
use Rattle.wire_commands.specs.declared.reply.Reply.TheVariants.{Done, Collected, Refused}
use Rattle.wire_commands.specs.Inputs.{front}
use Rattle.wire_commands.specs.ReplyText.{reply_text}
use Rattle.store_model.specs.declared.ending.Ending.{Ending}
use Rattle.store_model.specs.declared.ending.Ending.TheVariants as endings
use Rattle.store_model.specs.Job.{Asking, closing, aborting, step_of, Job, over, asking}
use Rattle.store_model.specs.Jobs.{take as job_take}
use Rattle.store_model.specs.Lanes.{Lane, Next, job_step, plain, sync, collect, collecting, bye, broken, end, front_next}
use Rattle.store_model.specs.Weave.{is_replied}
use Rattle.store_history.specs.declared.act.Act.{Act}
use Rattle.store_history.specs.declared.act.Act.TheVariants as acts
use Rattle.store_history.specs.declared.act.Answer.{Answer}
use Rattle.store_history.specs.declared.act.Event.{Event}
use Rattle.store_history.specs.Acts.{Class, stepping, reaching, starting, sweeping, wanting, ending, class_of, act_of_command, act_of_step}
use Rattle.store_history.specs.History.{kind}
use Rattle.store_history.specs.Pulling.{Pulling, comparing, SyncJob, reports, asks, act_of, sought, take as pull_take, is_ending}

-- ---- what was told

-- the bytes that the sink is given
unfoldable pub text : List Reply → List ℕ
text told = flat_map (λ r. frame (reply_text r)) told

-- a reply, but for the numbers of a collector's report
abbrev pub blank : Reply → Reply
blank (Collected start cutoff used pending removed) = Collected 0 0 0 0 0
blank r = r

-- the bytes as the plain store gives them
unfoldable pub plain_text : List Reply → List ℕ
plain_text told = text (map blank told)

-- ---- where a lane is

-- what is open on a lane: a job, a SYNC, or the lane's collector, and whether memory was wanting since it opened
pub data Task : Type 0 where
  steps : Asking → Task
  pulls : Pulling → Task
  sweeps : Bool → Task

-- The input's size and what is left of it; what is open; whether memory was wanting, as the last that was told, while nothing was open, as it
-- is where a frame can't be held; whether an answer was the last, so that only the lane's end may come, behind that of its collector or of its
-- job's session; what was told; whether the lane is over.
pub record Position : Type 0 where
  pub size : ℕ
  pub left : List ℕ
  pub task : Option Task
  pub is_unheld : Bool
  pub is_spent : Bool
  pub told : List Reply
  pub is_over : Bool

abbrev pub begin : List ℕ → Position
begin input = record {
  size = length input;
  left = input;
  task = None;
  is_unheld = false;
  is_spent = false;
  told = [];
  is_over = false;
}

abbrev pub job_in : Option Task → Option Asking
job_in (Some (steps j)) = Some j
job_in t = None

-- the lane as `weave` has it, where no SYNC is open
abbrev pub lane_of : Position → Lane
lane_of p = record { size = p.size; left = p.left; job = job_in p.task; told = plain_text p.told }

-- what is next on a lane: as `weave` has it, or what an open SYNC asks, and what is left behind it
pub data Ahead : Type 0 where
  ahead : Next → Ahead
  pull : Pulling → List ℕ → Ahead

-- until its first step a SYNC's command is next in the input
abbrev pub pull_ahead : Pulling → List ℕ → Next → Ahead
pull_ahead (comparing group remote) left (sync name behind) = pull (comparing group remote) behind
pull_ahead (comparing group remote) left n = ahead end
pull_ahead x left n = pull x left

-- what is open goes on before the input does
abbrev pub ahead_by : Option Task → ℕ → List ℕ → Ahead
ahead_by None offset left = ahead (front_next offset (front left))
ahead_by (Some (steps j)) offset left = ahead (job_step j left)
ahead_by (Some (pulls x)) offset left = pull_ahead x left (front_next offset (front left))
ahead_by (Some (sweeps is_out_of_memory)) offset left = ahead (collecting is_out_of_memory)

unfoldable pub next_at : Position → Ahead
next_at p = ahead_by p.task (p.size - length p.left) p.left

-- ---- after an answer

-- a reply, with this left of the input and nothing open
abbrev pub tells : Position → List ℕ → Reply → Position
tells p left r = record p { left = left; task = None; told = p.told ++ r ∷ [] }

-- the job is over and reports, or goes on
unfoldable pub goes_on : Position → List ℕ → Job → Position
goes_on p left (over report) = tells p left report
goes_on p left (asking j) = record p { left = left; task = Some (steps j) }

-- a SYNC goes on, or reports
unfoldable pub pulls_on : Position → List ℕ → SyncJob → Position
pulls_on p left (reports report) = tells p left report
pulls_on p left (asks x) = record p { left = left; task = Some (pulls x) }

-- what is no command is used up, with the rest of the input
abbrev pub used_up : Position → Reply → Position
used_up p r = record (tells p [] r) { is_spent = true }

-- want of memory ends the collector with its next act; any other reply has ended it
abbrev pub swept : Position → ℕ → Reply → Position
swept p kind r = if kind == MEMORY_KIND then record p { task = Some (sweeps true) } else tells p p.left r

unfoldable pub heard_at : Position → ℕ → Option Reply → Ahead → Position
heard_at p kind (Some r) (ahead (job_step j left)) = goes_on p left (job_take j r)
heard_at p kind (Some r) (ahead (plain c left)) = tells p left r
heard_at p kind (Some r) (ahead (sync group left)) = if kind == PART_KIND then pulls_on p p.left (sought group r) else tells p left r
heard_at p kind (Some r) (ahead (collect left)) = tells p left r
heard_at p kind None (ahead (collect left)) = if kind == START_KIND then record p { left = left; task = Some (sweeps false) } else p
heard_at p kind (Some r) (ahead (collecting is_out_of_memory)) = swept p kind r
heard_at p kind (Some r) (ahead (broken refusal)) = if kind == MEMORY_KIND then used_up p r else p
heard_at p kind (Some r) (pull x left) = pulls_on p left (pull_take x r)
heard_at p kind _ _ = p

-- an answer whose entry was the reserve's is the last but for the end of the collector or of a job's session, and that of the lane
unfoldable pub heard : Position → Answer → Position
heard p a =
    let q = heard_at p (a.entry).kind a.reply (next_at p) in
    record q { is_unheld = false; is_spent = a.last || q.is_spent }

-- The lane's end. Its reply is that of BYE, or of what is no command.
unfoldable pub last_words : Ending → Position → Ahead → Position
last_words e p (ahead bye) = if is_replied e then tells p [] Done else p
last_words e p (ahead (broken refusal)) = if is_replied e then tells p [] (Refused refusal) else p
last_words e p _ = p

-- An end that met a fault is not told, but that where the sink failed, or a job is open, it counts as what is next.
abbrev pub end_faulted : Ending → Position → Option Reply → Position
end_faulted endings.NoMemory p r = if is_none (job_in p.task) then p else heard_at p 5 r (next_at p)
end_faulted _ p r = heard_at p 5 r (next_at p)

abbrev pub end_heard : Ending → Position → ℕ → Option Reply → Position
end_heard e p kind r = if kind == FAULT_KIND then end_faulted e p r else record (last_words e p (next_at p)) { is_over = true }

-- want of memory while nothing is open: a frame could not be held
abbrev pub leaves_unheld : Position → Answer → Bool
leaves_unheld p a = is_none p.task && ((a.entry).kind == MEMORY_KIND)

-- the lane after one of its answers
abbrev pub heard_as : Class → Ending → Position → Answer → Position
heard_as ending e p a = end_heard e p (a.entry).kind a.reply
heard_as wanting e p a = record (heard p a) { is_unheld = leaves_unheld p a }
heard_as _ e p a = heard p a

unfoldable pub position_after : Ending → Position → Event → Position
position_after e p v = heard_as (class_of v.act) e p v.answer

-- ---- which acts the program makes

-- the act for what is next
abbrev pub Asks : Ahead → Act → Type 0
Asks (ahead (job_step j left)) a = a ≡ act_of_step (step_of j)
Asks (ahead (plain c left)) a = a ≡ act_of_command c
Asks (ahead (sync group left)) a = a ≡ acts.RemoteList (commands.Sync group)
Asks (ahead (collect left)) a = a ≡ acts.Start
Asks (ahead (collecting is_out_of_memory)) a = a ≡ acts.Step
Asks (pull x left) a = a ≡ act_of x
Asks _ a = ⊥

-- Memory may be wanting for a frame whose length is known and at least 2. A lane holds the first five bytes of a frame
-- without memory, so it never wants any for BYE or for the end of the input.
unfoldable pub may_want : List ℕ → Bool
may_want left = nat_le 4 (length left) && nat_le 2 (from_le_bytes w32 (take 4 left))

-- a step of the job was refused: the step that closes its session is left, which takes no memory
abbrev pub is_stopping : Asking → Bool
is_stopping (closing (Refused refusal)) = true
is_stopping (aborting report) = true
is_stopping j = false

-- what is open closes its session next, behind a refusal
abbrev pub stops : Option Task → Bool
stops (Some (steps j)) = is_stopping j
stops (Some (pulls x)) = is_ending x
stops t = false

-- So while a job is open memory may be wanting at any other step, and while the lane's collector is open only within its acts.
abbrev pub wants_by : Option Task → List ℕ → Bool
wants_by None left = may_want left
wants_by (Some (sweeps is_out_of_memory)) left = false
wants_by t left = not (stops t)

abbrev pub may_want_at : Position → Bool
may_want_at p = wants_by p.task p.left

-- A job that is stopping closes its session also where want of memory ended the lane: the entry is in the lane's reserve.
abbrev pub may_step : Position → Bool
may_step p = not p.is_spent || stops p.task

-- How a lane may end where this is next. Want of memory ended it where a frame could not be held, or an answer was the last: no other answer
-- of want of memory ends a lane, and nothing is open then. Where the source failed or gave too much, no job is open, and only a part of a frame
-- is left without an answer.
abbrev pub EndsSo : Ending → Position → Ahead → Type 0
EndsSo endings.Clean p (ahead bye) = p.is_spent ≡ false
EndsSo endings.Clean p (ahead end) = p.is_spent ≡ false
EndsSo (endings.Broken place) p (ahead (broken refusal)) = (p.is_spent ≡ false) × (place ≡ p.size - length p.left)
EndsSo endings.SourceFault p n = (p.is_spent ≡ false) × (p.task ≡ None) × (cut p.left ≡ short)
EndsSo endings.SourceTooLong p n = (p.is_spent ≡ false) × (p.task ≡ None) × (cut p.left ≡ short)
EndsSo endings.SinkFault p n = Unit {0}
EndsSo endings.NoMemory p n = ((p.is_unheld || p.is_spent) ≡ true) × (p.task ≡ None)
EndsSo _ p n = ⊥

-- the lane's end, and no other event, follows
abbrev pub EndFollows : List Event → Type 0
EndFollows (v ∷ []) = (class_of v.act ≡ ending) × (kind v ≡ END_KIND)
EndFollows _ = ⊥

-- no SYNC is open
abbrev pub IsIdle : Option Task → Type 0
IsIdle (Some (pulls x)) = ⊥
IsIdle t = Unit {0}

-- neither a collector nor a SYNC is open
abbrev pub IsShut : Option Task → Type 0
IsShut (Some (pulls x)) = ⊥
IsShut (Some (sweeps is_out_of_memory)) = ⊥
IsShut t = Unit {0}

-- The program makes this act here, before these events of its own. A lane ends its collector and its SYNC before it ends. An end that met a fault
-- comes again.
abbrev pub Does : Class → Ending → Position → Event → List Event → Type 0
Does stepping e p v vs = (may_step p ≡ true) × Asks (next_at p) v.act
Does reaching e p v vs = (p.is_spent ≡ false) × Asks (next_at p) v.act
Does starting e p v vs = (p.is_spent ≡ false) × Asks (next_at p) v.act
Does sweeping e p v vs = Asks (next_at p) v.act
Does wanting e p v vs = (p.is_spent ≡ false) × (may_want_at p ≡ true)
Does ending e p v vs = EndsSo e p (next_at p) × (kind v ≡ FAULT_KIND → EndFollows vs) × IsShut p.task

-- The lane's own events from this position on are a run of its program, and this is what it told in the end.
abbrev pub Runs : Ending → Position → List Event → List Reply → Type 0
Runs e p [] told = (p.is_over ≡ true) × (p.told ≡ told)
Runs e p (v ∷ vs) told = (p.is_over ≡ false) × Does (class_of v.act) e p v vs × Runs e (position_after e p v) vs told

abbrev pub LaneRan : List ℕ → Ending → List Event → List Reply → Type 0
LaneRan input e events told = Runs e (begin input) events told
