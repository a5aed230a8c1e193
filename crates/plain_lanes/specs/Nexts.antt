-- What stands next on a lane.
use Rattle.std.specs.Prelude.{◌≡◌, ℕ, Bool, true, false, List, Option, Some, None, option_map}
use Rattle.std.specs.Borrow.{Bor}
use Rattle.wire_frames.specs.Frames as frames
use Rattle.wire_commands.specs.declared.command.Command.{Command}
use Rattle.wire_commands.specs.declared.command.Command.TheVariants as commands
use Rattle.wire_commands.specs.HasText.{FitsRefusal}
use Rattle.store_model.specs.Job.{is_sync}
use Rattle.store_model.specs.Jobs.{job_of}
use Rattle.store_model.specs.Lanes as model
use Rattle.store_model.specs.Lanes.{Lane}
use Rattle.plain_lanes.specs.declared.next.Front.{Front}
use Rattle.plain_lanes.specs.declared.next.Front.TheVariants.{Short, TooLong, Whole}
use Rattle.plain_lanes.specs.declared.next.Ahead.{Ahead}
use Rattle.plain_lanes.specs.declared.next.Ahead.TheVariants as ahead
use Rattle.plain_lanes.specs.declared.next.Next.{Next}
use Rattle.plain_lanes.specs.declared.next.Next.TheVariants.{Job, Bye, Broken, End}
use Rattle.plain_lanes.specs.declared.next.Next.TheVariants as nexts

abbrev pub shown_front : Front → frames.Front
shown_front Short = frames.short
shown_front (TooLong n) = frames.too_long n
shown_front (Whole body rest) = frames.whole body.now rest.now

-- a command that asks for no step, with this left behind it
abbrev pub shown_ahead : Ahead → List ℕ → model.Next
shown_ahead (ahead.Plain c) left = model.plain c left
shown_ahead (ahead.Sync group) left = model.sync group left
shown_ahead ahead.Collect left = model.collect left

abbrev pub shown_next : Next → model.Next
shown_next (Job a left) = model.job_step a left.now
shown_next (nexts.Command a left) = shown_ahead a left.now
shown_next Bye = model.bye
shown_next (Broken refusal) = model.broken refusal
shown_next End = model.end

-- a command that is no job's and no BYE
abbrev pub IsStep : Command → Type 0
IsStep c = (job_of c ≡ None) × (c ≡ commands.Bye → ⊥)

abbrev pub IsFitAhead : Ahead → Type 0
IsFitAhead (ahead.Plain c) = IsStep c
IsFitAhead _ = Unit {0}

-- the command is no job's, and the refusal of what is no command has a text
abbrev pub IsFitNext : Next → Type 0
IsFitNext (nexts.Command a left) = IsFitAhead a
IsFitNext (Broken refusal) = FitsRefusal refusal
IsFitNext _ = Unit {0}

-- a job is taken out of the lane, and anything else is only looked at
abbrev pub left_by : Next → Lane → Lane
left_by (Job a left) lane = record lane { job = None }
left_by _ lane = lane

-- no job is open, and this is left
abbrev pub left_idle : List ℕ → Lane → Lane
left_idle left lane = record lane { left = left; job = None }

-- a SYNC stands next, begun or not
abbrev pub is_sync_next : model.Next → Bool
is_sync_next (model.job_step j left) = is_sync j
is_sync_next (model.sync group left) = true
is_sync_next _ = false

abbrev pub shown_left : Option (Bor (List ℕ)) → Option (List ℕ)
shown_left found = option_map (λ left. left.now) found

-- what is left behind a GC, where that stands next
abbrev pub left_of_collect : model.Next → Option (List ℕ)
left_of_collect (model.collect left) = Some left
left_of_collect _ = None
