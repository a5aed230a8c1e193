-- What stands at the front of what a lane took of its input.
use Rattle.std.specs.Prelude.{ℕ, ◌≡◌, ◌≢◌, ◌+◌, ◌<◌, Bool, true, false, List, length, Result, Err, IsOk, MatchResult}
use Rattle.wire_frames.specs.Frames.{Tail, short, cut, advanced, whole}
use Rattle.store_types.specs.declared.names.Digest32.{Digest32}
use Rattle.store_types.specs.declared.refusal.Refusal.{Refusal}
use Rattle.wire_commands.specs.HasText.{ReplyHasText}
use Rattle.wire_commands.specs.Inputs.{front}
use Rattle.wire_commands.specs.declared.command.Command.{Command}
use Rattle.wire_commands.specs.declared.command.Command.TheVariants as commands
use Rattle.wire_commands.specs.declared.reply.Reply.TheVariants.{Refused}
use Rattle.store_model.specs.ArchiveSteps.{check_chunk}
use Rattle.store_model.specs.Lanes.{Next, bye, broken, front_next, command_next}
use Rattle.store_history.specs.LaneRun.{may_want}
use Rattle.lane.specs.declared.commands.Ahead.{Ahead}
use Rattle.lane.specs.declared.commands.Ahead.TheVariants as aheads

-- ---- which commands a lane serves by more than one act

-- a PRUNE or a VERIFY, whose job has steps
abbrev pub is_job : Command → Bool
is_job (commands.Prune group keep dry) = true
is_job (commands.Verify snapshot) = true
is_job c = false

-- a GC
abbrev pub is_gc : Command → Bool
is_gc commands.Gc = true
is_gc c = false

-- a job's command
abbrev pub IsJobs : Command → Type 0
IsJobs (commands.Prune group keep dry) = Unit {0}
IsJobs (commands.Verify snapshot) = Unit {0}
IsJobs (commands.Sync group) = Unit {0}
IsJobs c = ⊥

-- ---- the front

-- what is next, by the bytes that aren't answered yet
abbrev pub next_in : Tail → Next
next_in t = front_next t.offset (front t.bytes)

-- A command other than BYE is next, and more may come behind its frame. For a job's memory may be wanting.
pub record IsCommandAhead (t : Tail) (c : Command) : Type 0 where
  pub next : next_in t ≡ command_next c (advanced t).bytes
  pub other : c ≢ commands.Bye
  pub wants : IsJobs c → may_want t.bytes ≡ true
  pub behind : t.offset < (advanced t).offset
  pub rest : (advanced t).offset + length (advanced t).bytes ≡ t.offset + length t.bytes

-- the last of a lane's input is next, without more of it being needed
pub record IsLastAhead (t : Tail) (n : Next) : Type 0 where
  pub next : next_in t ≡ n
  pub seen : cut t.bytes ≢ short

abbrev pub IsAhead : Tail → Ahead → Type 0
IsAhead t aheads.Part = cut t.bytes ≡ short
IsAhead t (aheads.Command c) = IsCommandAhead t c
IsAhead t aheads.Bye = IsLastAhead t bye
IsAhead t (aheads.Broken refusal) = IsLastAhead t (broken refusal) × ReplyHasText (Refused refusal)
IsAhead t aheads.NoMemory = may_want t.bytes ≡ true

-- what stands ahead is a frame at this offset with this body
abbrev pub IsAheadAs : ℕ → List ℕ → Ahead → Type 0
IsAheadAs offset body ahead = (t : Tail) (rest : List ℕ) → t.offset ≡ offset → cut t.bytes ≡ whole body rest → IsAhead t ahead

-- a command, with BYE told apart
abbrev pub ahead_of : Command → Ahead
ahead_of commands.Bye = aheads.Bye
ahead_of c = aheads.Command c

-- how far the front moves past the frame there
pub record IsFrontSize (t : Tail) (size : ℕ) : Type 0 where
  pub offset : (advanced t).offset ≡ t.offset + size
  pub rest : (advanced t).offset + length (advanced t).bytes ≡ t.offset + length t.bytes

-- the bytes are the blob of a piece with this digest, or the refusal of their check is told
abbrev pub TestsChunk : Digest32 → List ℕ → Result (Unit {0}) Refusal → Type 0
TestsChunk digest blob result =
    MatchResult result (λ _. IsOk (check_chunk digest blob)) (λ e. check_chunk digest blob ≡ Err e)
