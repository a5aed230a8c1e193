-- When the report of a job has a text, and what it is where memory was wanting for a reply.
use Rattle.std.specs.Prelude.{◌≡◌, ◌<◌, ◌+◌, length, All, ⊤, Result, IfErr, MatchResult}
use Rattle.wire_commands.specs.declared.reply.Reply.{Reply}
use Rattle.wire_commands.specs.HasText.{FitsPruneRow, IsText, ReplyHasText}
use Rattle.store_model.specs.Job.{Job, over, asking, grouping, forgetting, opening, listing, reading, checking, closing, next}
use Rattle.job_steps.specs.declared.job.State.{State}
use Rattle.job_steps.specs.States.{job_in}
use Rattle.job_steps.specs.Visits.{IsPartRead}

-- What is reported has a text, or will have one where all that is asked is done.
abbrev pub EndsInText : Job → Type 0
EndsInText (over report) = ReplyHasText report
EndsInText (asking (grouping c keep dry)) = ⊤
EndsInText (asking (forgetting before snapshot later)) =
    (length before + length later < 4096) × All FitsPruneRow before × IsText snapshot × All FitsPruneRow later
EndsInText (asking (opening snapshot)) = ⊤
EndsInText (asking (listing snapshot)) = ⊤
EndsInText (asking (reading v row bytes)) = ⊤
EndsInText (asking (checking v row fault place piece later)) = ⊤
EndsInText (asking (closing report)) = ReplyHasText report
-- there are no other jobs here
EndsInText _ = ⊥

-- the state after a reply, or the one before it, where memory was wanting
abbrev pub EitherEndsInText : Result State State → Type 0
EitherEndsInText result = MatchResult result (λ state. EndsInText (job_in state)) (λ state. EndsInText (job_in state))

-- where memory was wanting, a part of a file was read, and the job is as it was
abbrev pub WantsForPart : Job → Reply → Result State State → Type 0
WantsForPart job reply result = IfErr result (λ state. (job_in state ≡ job) × IsPartRead (next job) reply)
