-- What an entry finds at a lane: a collector's act, or what its job and its input have next; and how jobs take want of memory.
use Rattle.std.proofs.Common.{◌≡◌, ℕ, ◌+◌, ◌-◌, length, Bool, true, false, List, [], ◌∷◌, ◌++◌, nat_lt, if◌then◌else◌, Option, None, Some, refl}
use Rattle.std.specs.Prelude.{◌==◌}
use Rattle.store_types.specs.declared.order.Entry.{Entry}
use Rattle.store_types.specs.declared.refusal.Refusal.TheVariants.{NoMemory}
use Rattle.store_types.specs.declared.order.TheConstants.{PART_KIND, START_KIND, STOP_KIND, REMOTE_FAULT_KIND}
use Rattle.wire_commands.specs.declared.command.Command.{Command}
use Rattle.wire_commands.specs.declared.command.Command.TheVariants.{Bye}
use Rattle.wire_commands.specs.declared.rows.FileRow.{FileRow}
use Rattle.wire_commands.specs.declared.rows.FileFault.{FileFault}
use Rattle.wire_commands.specs.declared.reply.Reply.TheVariants.{Part, Refused}
use Rattle.wire_commands.specs.Inputs.{InputFront}
use Rattle.wire_commands.specs.Inputs as inputs
use Rattle.wire_commands.specs.Inputs.{front}
use Rattle.store_types.specs.declared.piece.Piece.{Piece}
use Rattle.store_model.specs.SizeLimits.{size_limit}
use Rattle.store_model.specs.Job.{Visit, Asking, reading, closing, aborting, Job, over, asking}
use Rattle.store_model.specs.Jobs.{take, take_more}
use Rattle.store_model.specs.VerifyJob.{read_part, checked}
use Rattle.store_model.specs.VerifyJob as verify
use Rattle.store_model.specs.Lanes.{Lane, Collecting, Run, Next, job_step, plain, sync, collect, collecting, bye, broken, end, lane_at, collects, command_next, front_next, lane_next, next_beside, next_of}
use Rattle.store_model.specs.Weave.{passed, opens, closes, remote_failed, Endings, entered}

-- ---- what is next, by the open collector

beside_another : (o : Option Collecting) (k : ℕ) (lane : Lane) → collects k o ≡ false → next_beside o k lane ≡ lane_next lane
unfolding next_beside
beside_another None k lane h = refl
beside_another (Some c) k lane h = rw h refl

-- the open collector is not the lane's
pub next_apart : (r : Run) (k : ℕ) → collects k r.collecting ≡ false → next_of r k ≡ lane_next (lane_at r k)
unfolding next_of
next_apart r k h = beside_another r.collecting k (lane_at r k) h

beside_own : (o : Option Collecting) (k : ℕ) (lane : Lane) (c : Collecting) → o ≡ Some c → (c.lane == k) ≡ true → next_beside o k lane ≡ collecting c.is_out_of_memory
unfolding next_beside
beside_own o k lane c is h = rw (is, h) refl

-- it is the lane's
pub next_own : (r : Run) (k : ℕ) (c : Collecting) → r.collecting ≡ Some c → (c.lane == k) ≡ true → next_of r k ≡ collecting c.is_out_of_memory
unfolding next_of
next_own r k c is h = beside_own r.collecting k (lane_at r k) c is h

abbrev pub is_act : Next → Bool
is_act (collecting is_out_of_memory) = true
is_act _ = false

command_no_act : (c : Command) (left : List ℕ) → is_act (command_next c left) ≡ false
unfolding command_next
command_no_act Bye left = refl
command_no_act c left = refl

front_no_act : (offset : ℕ) (f : InputFront) → is_act (front_next offset f) ≡ false
unfolding front_next
front_no_act offset inputs.nothing = refl
front_no_act offset (inputs.next c left) = command_no_act c left
front_no_act offset (inputs.over_limit n) = refl
front_no_act offset inputs.no_command = refl

-- neither a job nor the input has an act of a collector
pub lane_no_act : (lane : Lane) → is_act (lane_next lane) ≡ false
unfolding lane_next
lane_no_act lane = by_job lane lane.job refl
  where
    by_job : (lane : Lane) (o : Option Asking) → lane.job ≡ o → is_act (lane_next lane) ≡ false
    by_job lane None is = rw is (front_no_act (lane.size - length lane.left) (front lane.left))
    by_job lane (Some j) is = rw is refl

-- so nothing else is closed
pub closes_act : (r : Run) (k : ℕ) (n : Next) → is_act n ≡ false → closes r k n ≡ None
unfolding closes
closes_act r k (collecting is_out_of_memory) h = cc
closes_act r k (job_step j left) h = refl
closes_act r k (plain c left) h = refl
closes_act r k (sync group left) h = refl
closes_act r k (collect left) h = refl
closes_act r k bye h = refl
closes_act r k (broken refusal) h = refl
closes_act r k end h = refl

-- ---- an entry, by its kind

module _ (E : Endings) (r : Run) (place : ℕ) (e : Entry) (later : List Entry) where
  pub entered_1 : e.kind ≡ PART_KIND → entered E r place e later ≡ passed r (next_of r e.lane)
  unfolding entered
  entered_1 h = rw h refl

  pub entered_3 : e.kind ≡ START_KIND → entered E r place e later ≡ opens r e.lane (next_of r e.lane)
  unfolding entered
  entered_3 h = rw h refl

  pub entered_4 : e.kind ≡ STOP_KIND → entered E r place e later ≡ closes r e.lane (next_of r e.lane)
  unfolding entered
  entered_4 h = rw h refl

  pub entered_7 : e.kind ≡ REMOTE_FAULT_KIND → entered E r place e later ≡ remote_failed r e.lane (next_of r e.lane)
  unfolding entered
  entered_7 h = rw h refl

-- ---- a part of a file for which a VERIFY has no memory

-- a job that is asking, and has no refusal to report
abbrev pub GoesOn : Job → Type 0
GoesOn (over report) = ⊥
GoesOn (asking (closing (Refused refusal))) = ⊥
GoesOn (asking (aborting report)) = ⊥
GoesOn (asking j) = Unit {0}

-- Where memory is wanting then, it is all one whether the reply before was taken.
abbrev pub IsDropped : Job → Type 0
IsDropped j = GoesOn j × (take_more j (Refused NoMemory) ≡ asking (closing (Refused NoMemory)))

file_dropped : (v : Visit) (rows : List FileRow) → IsDropped (verify.next_file v rows)
unfolding verify.next_file take read_part
file_dropped v [] = (tt, refl)
file_dropped v (row ∷ later) = (tt, refl)

done_dropped : (v : Visit) (row : FileRow) (fault : Option FileFault) → IsDropped (verify.file_done v row fault)
unfolding verify.file_done
done_dropped v row fault = file_dropped (verify.with_fault row fault (record v { files = v.files + 1 })) v.later

chunk_dropped : (v : Visit) (row : FileRow) (fault : Option FileFault) (place : ℕ) (ps : List Piece) → IsDropped (verify.next_chunk v row fault place ps)
unfolding verify.next_chunk take checked
chunk_dropped v row fault place [] = done_dropped v row fault
chunk_dropped v row fault place (p ∷ ps) = (tt, refl)

pub part_dropped : (v : Visit) (row : FileRow) (bytes more : List ℕ) (total : ℕ) → IsDropped (take (reading v row bytes) (Part total more))
unfolding take read_part verify.part_read verify.file_read
part_dropped v row bytes more total = by_tests (nat_lt (size_limit row.file) total) (nat_lt (length (bytes ++ more)) total)
  where
    by_tests : (long goes_on : Bool) → IsDropped (
        if long then verify.file_done v row (Some (verify.too_long row total)) else
        if goes_on then asking (reading v row (bytes ++ more)) else
        verify.file_read v row (verify.judged v.snapshot row (bytes ++ more)))
    by_tests true goes_on = done_dropped v row (Some (verify.too_long row total))
    by_tests false true = (tt, refl)
    by_tests false false = let j = verify.judged v.snapshot row (bytes ++ more) in
        chunk_dropped (record v { entries = v.entries + length j.entries; bytes = v.bytes + j.bytes }) row j.fault 0 j.entries
