-- What stands next on a lane.
use Rattle.std.specs.Prelude.{ℕ, ◌-◌, Bool, false, List, [], ◌++◌, map, length, ◌==◌, if◌then◌else◌, Option, Some, None, slice_index_or, slice_set}
use Rattle.store_types.specs.declared.refusal.Refusal.{Refusal}
use Rattle.store_types.specs.declared.refusal.Refusal.TheVariants.{BadFrame, TooLong}
use Rattle.store_files.specs.Archive.{Snapshot}
use Rattle.wire_frames.specs.Frames.{frame}
use Rattle.wire_commands.specs.declared.command.Command.{Command}
use Rattle.wire_commands.specs.declared.command.Command.TheVariants.{Sync, Gc, Bye}
use Rattle.wire_commands.specs.declared.reply.Reply.{Reply}
use Rattle.wire_commands.specs.Inputs.{InputFront, nothing, next, over_limit, no_command, front}
use Rattle.wire_commands.specs.ReplyText.{reply_text}
use Rattle.store_model.specs.Store.{Store, store_of}
use Rattle.store_model.specs.Job.{Asking}
use Rattle.store_model.specs.Jobs.{job_of}

-- an input's size, what is left of it, the job that is open, and the replies so far
pub record Lane : Type 0 where
  pub size : ℕ
  pub left : List ℕ
  pub job : Option Asking
  pub told : List ℕ

-- the lane whose collector is open, and whether memory was wanting since it opened
pub record Collecting : Type 0 where
  pub lane : ℕ
  pub is_out_of_memory : Bool

-- the store, the remote's snapshots where there is one, the lanes, the open collector, and the place of the first fault
pub record Run : Type 0 where
  pub store : Store
  pub remote : Option (List Snapshot)
  pub lanes : List Lane
  pub collecting : Option Collecting
  pub fault : Option ℕ

abbrev pub new_lane : List ℕ → Lane
new_lane input = record { size = length input; left = input; job = None; told = [] }

abbrev pub new_run : List Snapshot → Option (List Snapshot) → List (List ℕ) → Run
new_run snapshots remote inputs =
    record { store = store_of snapshots; remote = remote; lanes = map new_lane inputs; collecting = None; fault = None }

abbrev pub lane_at : Run → ℕ → Lane
lane_at r k = slice_index_or r.lanes k (new_lane [])

abbrev pub with_lane : Run → ℕ → Lane → Run
with_lane r k lane = record r { lanes = slice_set r.lanes k lane }

-- one more reply
abbrev pub say : Reply → Lane → Lane
say reply lane = record lane { told = lane.told ++ frame (reply_text reply) }

-- ---- what is next

pub data Next : Type 0 where
  -- the step that an open job asks, and what is left behind its command
  job_step : Asking → List ℕ → Next
  -- a command that is no job's, and what is left behind it
  plain : Command → List ℕ → Next
  -- a SYNC of this group that has not begun, and what is left behind it
  sync : List ℕ → List ℕ → Next
  -- GC, and what is left behind it
  collect : List ℕ → Next
  -- an act of the lane's own collector, and whether memory was wanting since it opened
  collecting : Bool → Next
  -- the end: BYE, something that isn't a command, with its refusal, or nothing
  bye : Next
  broken : Refusal → Next
  end : Next

unfoldable pub command_next : Command → List ℕ → Next
command_next (Sync group) left = sync group left
command_next Gc left = collect left
command_next Bye left = bye
command_next c left = elim (job_of c) [ None ↦ plain c left | Some j ↦ job_step j left ]

-- what stands at this offset of the input
unfoldable pub front_next : ℕ → InputFront → Next
front_next offset nothing = end
front_next offset (next c left) = command_next c left
front_next offset (over_limit n) = broken (TooLong n)
front_next offset no_command = broken (BadFrame offset)

-- an open job goes on before the input does
unfoldable pub lane_next : Lane → Next
lane_next lane = elim lane.job [ None ↦ front_next (lane.size - length lane.left) (front lane.left) | Some j ↦ job_step j lane.left ]

-- the open collector is this lane's
abbrev pub collects : ℕ → Option Collecting → Bool
collects k None = false
collects k (Some c) = c.lane == k

-- a lane's collector goes on before its input does
unfoldable pub next_beside : Option Collecting → ℕ → Lane → Next
next_beside None k lane = lane_next lane
next_beside (Some c) k lane = if c.lane == k then collecting c.is_out_of_memory else lane_next lane

unfoldable pub next_of : Run → ℕ → Next
next_of r k = next_beside r.collecting k (lane_at r k)
