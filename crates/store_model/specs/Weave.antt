-- The plain store and the replies, where lanes take turns in a given order.
use Rattle.std.specs.Prelude.{IsTrue, IsOk, ℕ, ◌+◌, Bool, true, false, not, ◌&&◌, List, [], ◌∷◌, map, length, ◌==◌, if◌then◌else◌, Option, Some, None, is_none, Result, Ok, Err, slice_index_or}
use Rattle.std.specs.List.{find}
use Rattle.store_types.specs.declared.order.Entry.{Entry}
use Rattle.store_types.specs.declared.refusal.Refusal.{Refusal}
use Rattle.store_types.specs.declared.refusal.Refusal.TheVariants.{CollectorBusy, NoMemory, RemoteFault, DiskFault, Halted}
use Rattle.store_types.specs.Chain.Refusing.{◌>>=◌, if_none}
use Rattle.store_types.specs.declared.order.TheConstants.{COMMAND_KIND, PART_KIND, MEMORY_KIND, START_KIND, STOP_KIND, FAULT_KIND, END_KIND, REMOTE_FAULT_KIND}
use Rattle.store_files.specs.Archive.{Snapshot}
use Rattle.store_files.specs.Order.{keeps_rules}
use Rattle.wire_commands.specs.declared.reply.Reply.{Reply}
use Rattle.wire_commands.specs.declared.reply.Reply.TheVariants.{Done, Collected, Refused}
use Rattle.store_model.specs.declared.ending.Ending.{Ending}
use Rattle.store_model.specs.declared.ending.Ending.TheVariants as endings
use Rattle.store_model.specs.Store.{Store, ended}
use Rattle.store_model.specs.Heads.{idle_in}
use Rattle.store_model.specs.Steps.{answered, step}
use Rattle.store_model.specs.Job.{Asking, step_of, is_sync, Job, over, asking}
use Rattle.store_model.specs.Jobs.{take}
use Rattle.store_model.specs.SyncJob.{to_pull, next_snapshot}
use Rattle.store_model.specs.JobSteps.{step_outcome}
use Rattle.store_model.specs.Lanes.{Run, Next, job_step, plain, sync, collect, collecting, bye, broken, end, new_run, lane_at, with_lane, say, collects, next_of}

-- ---- what an entry may do

-- the store is another
unfoldable pub with_store : Run → Store → Run
with_store r s = record r { store = s }

-- a lane's reply, with this left of its input and no job open
unfoldable pub tell : Run → ℕ → List ℕ → Reply → Run
tell r k left reply = with_lane r k (say reply (record (lane_at r k) { left = left; job = None }))

-- a lane's job is over and reports, or goes on
unfoldable pub go_on : Run → ℕ → List ℕ → Job → Run
go_on r k left (over report) = tell r k left report
go_on r k left (asking j) = with_lane r k (record (lane_at r k) { left = left; job = Some j })

unfoldable pub answer_job : Run → ℕ → Asking → List ℕ → Store × Reply → Run
answer_job r k j left after = go_on (with_store r after.0) k left (take j after.1)

unfoldable pub answer : Run → ℕ → List ℕ → Store × Reply → Run
answer r k left after = tell (with_store r after.0) k left after.1

-- a SYNC's first step: which of the remote's snapshots it pulls, or its refusal
unfoldable pub begin_sync : Run → ℕ → List ℕ → List ℕ → Run
begin_sync r k group left =
    elim (to_pull r.remote r.store k group) [
      | Err refusal ↦ tell r k left (Refused refusal)
      | Ok snapshots ↦ go_on r k left (next_snapshot [] snapshots)
    ]

-- ---- the collector

-- a collector may open on a lane without a session, where none is open
unfoldable pub want_collector : Run → ℕ → Result (Unit {0}) Refusal
want_collector r k = do
  _ ← idle_in r.store k
  if_none (λ c. CollectorBusy c.lane) r.collecting

unfoldable pub open_collector : Run → ℕ → List ℕ → Run
open_collector r k left =
    let opened = with_lane r k (record (lane_at r k) { left = left }) in
    record opened { collecting = Some (record { lane = k; is_out_of_memory = false }) }

-- the lane's collector closes with this reply
unfoldable pub close_collector : Run → ℕ → Reply → Run
close_collector r k reply = tell (record r { collecting = None }) k (lane_at r k).left reply

-- Want of memory since it opened is what it replies. Else five numbers: they are free, and are zeros here.
abbrev pub collected : Bool → Reply
collected is_out_of_memory = if is_out_of_memory then Refused NoMemory else Collected 0 0 0 0 0

-- ---- the kinds

-- 0: the next command, or the next step of the lane's job. Of a GC it is the refusal.
unfoldable pub stepped : Run → ℕ → ℕ → Next → Option Run
stepped r k moment (job_step j left) = Some (answer_job r k j left (answered r.store (step_outcome r.store k moment (step_of j))))
stepped r k moment (plain c left) = Some (answer r k left (step r.store k moment c))
stepped r k moment (sync group left) = Some (begin_sync r k group left)
stepped r k moment (collect left) = elim (want_collector r k) [ Ok may ↦ None | Err refusal ↦ Some (tell r k left (Refused refusal)) ]
stepped r k moment _ = None

-- 1: an act of the lane's collector, or a read of the remote for a SYNC; the store and the replies stay
unfoldable pub passed : Run → Next → Option Run
passed r (collecting is_out_of_memory) = Some r
passed r (job_step j left) = if is_sync j then Some r else None
passed r (sync group left) = Some r
passed r _ = None

-- 2: want of memory. What isn't a command is used up, with the rest of the input.
unfoldable pub short : Run → ℕ → Next → Option Run
short r k (job_step j left) = Some (go_on r k left (take j (Refused NoMemory)))
short r k (plain c left) = Some (tell r k left (Refused NoMemory))
short r k (sync group left) = Some (tell r k left (Refused NoMemory))
short r k (collect left) = Some (tell r k left (Refused NoMemory))
short r k (collecting is_out_of_memory) = Some (record r { collecting = Some (record { lane = k; is_out_of_memory = true }) })
short r k (broken refusal) = Some (tell r k [] (Refused NoMemory))
short r k bye = None
short r k end = None

-- 3: the lane's collector opens
unfoldable pub opens : Run → ℕ → Next → Option Run
opens r k (collect left) = elim (want_collector r k) [ Ok may ↦ Some (open_collector r k left) | Err refusal ↦ None ]
opens r k _ = None

-- 4: and closes
unfoldable pub closes : Run → ℕ → Next → Option Run
closes r k (collecting is_out_of_memory) = Some (close_collector r k (collected is_out_of_memory))
closes r k _ = None

-- 5: a fault of the disk, and all that come after it; it is told of a command or a step, and not of a lane's end
abbrev pub fault_refusal : Option ℕ → Refusal
fault_refusal None = DiskFault
fault_refusal (Some first) = Halted first

unfoldable pub told_fault : Run → ℕ → Refusal → Next → Run
told_fault r k refusal (job_step j left) = go_on r k left (take j (Refused refusal))
told_fault r k refusal (plain c left) = tell r k left (Refused refusal)
told_fault r k refusal (sync group left) = tell r k left (Refused refusal)
told_fault r k refusal (collect left) = tell r k left (Refused refusal)
told_fault r k refusal (collecting is_out_of_memory) = close_collector r k (Refused refusal)
told_fault r k refusal _ = r

abbrev pub first_fault : ℕ → Option ℕ → Option ℕ
first_fault place None = Some place
first_fault place (Some first) = Some first

abbrev pub is_end : Option Entry → Bool
is_end None = false
is_end (Some e) = e.kind == END_KIND

-- want of memory ended the lane, with no job and no collector of it open, and its end comes next
abbrev pub is_cut_off : Run → ℕ → Ending → List Entry → Bool
is_cut_off r k endings.NoMemory later =
    is_none (lane_at r k).job && not (collects k r.collecting) && is_end (find (λ e. e.lane == k) later)
is_cut_off r k _ later = false

unfoldable pub faulted : Run → ℕ → ℕ → Ending → List Entry → Next → Run
faulted r k place ending later n =
    let after = if is_cut_off r k ending later then r else told_fault r k (fault_refusal r.fault) n in
    record after { fault = first_fault place r.fault }

-- 6: the lane's end. Commands may be left unread where the source or the sink failed, the input was too long, or memory was wanting.
abbrev pub is_replied : Ending → Bool
is_replied endings.Clean = true
is_replied (endings.Broken place) = true
is_replied endings.SinkFault = true
is_replied _ = false

abbrev pub may_leave_unread : Ending → Bool
may_leave_unread endings.Clean = false
may_leave_unread (endings.Broken place) = false
may_leave_unread _ = true

unfoldable pub end_session : Run → ℕ → Run
end_session r k = with_store r (ended r.store k)

unfoldable pub ended_with : Run → ℕ → Ending → Reply → Run
ended_with r k ending reply = if is_replied ending then tell (end_session r k) k [] reply else end_session r k

unfoldable pub unread : Run → ℕ → Ending → Option Run
unread r k ending = if may_leave_unread ending then Some (end_session r k) else None

unfoldable pub ends : Run → ℕ → Ending → Next → Option Run
ends r k ending bye = Some (ended_with r k ending Done)
ends r k ending (broken refusal) = Some (ended_with r k ending (Refused refusal))
ends r k ending end = Some (end_session r k)
ends r k ending (job_step j left) = unread r k ending
ends r k ending (plain c left) = unread r k ending
ends r k ending (sync group left) = unread r k ending
ends r k ending (collect left) = unread r k ending
-- its collector closes, and no one is told
ends r k ending (collecting is_out_of_memory) = unread (record r { collecting = None }) k ending

-- 7: a read of the remote failed, for this step of a SYNC
unfoldable pub remote_failed : Run → ℕ → Next → Option Run
remote_failed r k (job_step j left) = if is_sync j then Some (go_on r k left (take j (Refused RemoteFault))) else None
remote_failed r k (sync group left) = Some (tell r k left (Refused RemoteFault))
remote_failed r k _ = None

-- ---- an order

-- how a lane ends, where this is next on it
abbrev pub Endings : Type 0
Endings = ℕ → Next → Ending

-- the run after one entry, or none where it doesn't fit
unfoldable pub entered : Endings → Run → ℕ → Entry → List Entry → Option Run
entered ending_of r place e later =
    let n = next_of r e.lane in
    let ending = ending_of e.lane n in
    if e.kind == COMMAND_KIND then stepped r e.lane e.moment n else
    if e.kind == PART_KIND then passed r n else
    if e.kind == MEMORY_KIND then short r e.lane n else
    if e.kind == START_KIND then opens r e.lane n else
    if e.kind == STOP_KIND then closes r e.lane n else
    if e.kind == FAULT_KIND then Some (faulted r e.lane place ending later n) else
    if e.kind == END_KIND then ends r e.lane ending n else
    if e.kind == REMOTE_FAULT_KIND then remote_failed r e.lane n else
    None

-- the first entry that doesn't fit, its lane, and how long that lane's replies are by then
pub record Misfit : Type 0 where
  pub entry : ℕ
  pub lane : ℕ
  pub replayed : ℕ

abbrev pub misfit : Run → ℕ → Entry → Misfit
misfit r place e = record { entry = place; lane = e.lane; replayed = length (lane_at r e.lane).told }

-- the run after the entries from this place on
unfoldable pub run_from : Endings → Run → ℕ → List Entry → Result Run Misfit
run_from ending_of r place [] = Ok r
run_from ending_of r place (e ∷ later) =
    elim (entered ending_of r place e later) [
      | None ↦ Err (misfit r place e)
      | Some after ↦ run_from ending_of after (place + 1) later
    ]

pub record Woven : Type 0 where
  pub store : Store
  pub replies : List (List ℕ)

abbrev pub woven_of : Run → Woven
woven_of r = record { store = r.store; replies = map (λ lane. lane.told) r.lanes }

-- the endings as they are known
abbrev pub known : List Ending → Endings
known es k n = slice_index_or es k endings.Clean

-- the endings as the inputs tell them
abbrev pub told_by_input : Endings
told_by_input k bye = endings.Clean
told_by_input k end = endings.Clean
told_by_input k (broken refusal) = endings.Broken 0
told_by_input k _ = endings.NoMemory

-- the last store and each lane's replies, or the first misfit
unfoldable pub woven : Endings → List Snapshot → Option (List Snapshot) → List Entry → List (List ℕ) → Result Woven Misfit
woven ending_of snapshots remote order inputs = do
  r ← run_from ending_of (new_run snapshots remote inputs) 0 order
  Ok (woven_of r)

unfoldable pub weave : List Snapshot → Option (List Snapshot) → List Entry → List (List ℕ) → List Ending → Result Woven Misfit
weave snapshots remote order inputs es = woven (known es) snapshots remote order inputs

-- the order keeps the rules of order files, and every entry fits
abbrev pub Fits : List Snapshot → Option (List Snapshot) → List Entry → List (List ℕ) → List Ending → Type 0
Fits snapshots remote order inputs es =
    IsTrue (keeps_rules (length inputs) order) × IsOk (weave snapshots remote order inputs es)
