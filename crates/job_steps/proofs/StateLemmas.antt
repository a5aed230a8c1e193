-- What a state asks and takes.
use Rattle.std.proofs.Common.{◌≡◌, Result, Ok, Err, refl, sym, ap, ◌∙◌}
use Rattle.std.specs.Prelude.{IfErr, IsNone, IsSome, OnErr, is_some}
use Rattle.std.proofs.lemmas.Bool.{true≢false}
use Rattle.wire_commands.specs.declared.reply.Reply.{Reply}
use Rattle.wire_commands.specs.declared.reply.Reply.TheVariants.{Part}
use Rattle.store_model.specs.Job.{next}
use Rattle.job_steps.specs.declared.job.State.{State}
use Rattle.job_steps.specs.declared.job.State.TheVariants as states
use Rattle.job_steps.specs.declared.stages.Checking.{Checking}
use Rattle.job_steps.specs.declared.stages.Reading.{Reading}
use Rattle.job_steps.specs.Checks.{IsPart, job_of, reading_of}
use Rattle.job_steps.specs.States.{job_in}
use Rattle.job_steps.specs.Visits.{IsPartRead}
use Rattle.job_steps.proofs.VerifyLemmas.{asks_chunk}

-- what holds on any reply holds on a fault
pub on_err : {A E P : Type 0} (result : Result A E) → P → OnErr result P
on_err (Ok x) p = tt
on_err (Err e) p = p

pub chunk_asked : (c : Checking) → IsSome (next (job_of c))
chunk_asked c = ap is_some (asks_chunk c)

-- only a job that is over asks nothing
pub over_only : (s : State) → IsNone (next (job_in s)) → (report : Reply) × (s ≡ states.Over report)
over_only (states.Over report) h = (report, refl)
over_only (states.Grouping x) h = absurd (true≢false h)
over_only (states.Forgetting x) h = absurd (true≢false h)
over_only (states.Opening x) h = absurd (true≢false h)
over_only (states.Listing x) h = absurd (true≢false h)
over_only (states.Reading x) h = absurd (true≢false h)
over_only (states.Checking c) h = absurd (true≢false (sym (chunk_asked c) ∙ h))
over_only (states.Closing x) h = absurd (true≢false h)

part_read : (r : Reading) (reply : Reply) → IsPart reply → IsPartRead (next (reading_of r)) reply
part_read r (Part total bytes) h = tt
part_read r reply h = absurd h

-- the state before is kept where memory is wanting for a part
pub kept_reading : (r : Reading) (reply : Reply) (result : Result State State) → IfErr result (λ s. (job_in s ≡ reading_of r) × IsPart reply)
    → IfErr result (λ s. (job_in s ≡ reading_of r) × IsPartRead (next (reading_of r)) reply)
kept_reading r reply (Ok s) h = tt
kept_reading r reply (Err s) h = (h.0, part_read r reply h.1)
