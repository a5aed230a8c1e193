-- What a step leaves, by what it answers.
use Rattle.std.specs.Prelude.{◌≡◌, ℕ, List, Option, option_map, Result, Ok, Err, Vec}
use Rattle.std.specs.declared.alloc.Global.{Global}
use Rattle.store_types.specs.declared.names.Digest32.{Digest32}
use Rattle.store_types.specs.declared.refusal.Refusal.{Refusal}
use Rattle.store_files.specs.Archive.{Snapshot}
use Rattle.wire_commands.specs.declared.reply.Reply.{Reply}
use Rattle.wire_commands.specs.HasText.{ReplyHasText}
use Rattle.store_model.specs.declared.step.Step.{Step}
use Rattle.store_model.specs.ArchiveSteps.{new_fixed, close_index}
use Rattle.store_model.specs.Job.{Asking, step_of}
use Rattle.store_model.specs.JobSteps.{step_outcome}
use Rattle.store_model.specs.Steps.{answered}
use Rattle.store_model.specs.SyncJob.{to_pull}
use Rattle.store_model.specs.Store.{Store, Outcome, session, with_session}
use Rattle.plain_sessions.specs.declared.changes.Change.{Change}
use Rattle.plain_sessions.specs.Changes.{changed_in}
use Rattle.plain_sessions.specs.declared.stop.Stop.{Stop}
use Rattle.plain_sessions.specs.declared.stop.Stop.TheVariants.{Refused, NoMemory}
use Rattle.plain_sessions.specs.Outcomes.{GivesItems, IsFitRefusal}

-- the reply and the store after are the outcome's; a refusal is the outcome's and changes nothing, and so does want of memory
abbrev pub Does : Store → Store → Result Reply Stop → Outcome → Type 0
Does old new (Ok reply) outcome = outcome ≡ Ok (new, reply)
Does old new (Err (Refused refusal)) outcome = (outcome ≡ Err refusal) × (new ≡ old)
Does old new (Err NoMemory) outcome = new ≡ old

-- what is answered has a text
abbrev pub IsSpelled : Result Reply Stop → Type 0
IsSpelled (Ok reply) = ReplyHasText reply
IsSpelled (Err stop) = IsFitRefusal {A = Reply} (Err stop)

-- the same of a step that changes nothing
abbrev pub Answers : Store → Result Reply Stop → Outcome → Type 0
Answers s result outcome = Does s s result outcome

-- ---- commands of many words

abbrev pub BeginsFixed : Store → Store → ℕ → ℕ → List ℕ → ℕ → ℕ → Result Reply Stop → Type 0
BeginsFixed old new lane moment name size chunk_size result = Does old new result (new_fixed old lane moment name size chunk_size)

abbrev pub Closes : Store → Store → ℕ → ℕ → ℕ → ℕ → Digest32 → Result Reply Stop → Type 0
Closes old new lane number count size csum result = Does old new result (close_index old lane number count size csum)

-- ---- steps

-- the lane's session is changed
abbrev pub with_change : Store → ℕ → Change → Store
with_change s lane change = with_session s lane (changed_in change (session s lane))

-- the store after a step, and its reply
abbrev pub step_done : Store → ℕ → ℕ → Step → Store × Reply
step_done s lane moment asked = answered s (step_outcome s lane moment asked)

-- the same of the step that a job asks
abbrev pub job_done : Store → ℕ → ℕ → Asking → Store × Reply
job_done s lane moment job = step_done s lane moment (step_of job)

-- what a SYNC pulls from another store, where there is one
abbrev pub Pulls : {R : Type 0} → Option R → (R → Store) → Store → ℕ → List ℕ → Result (Vec Snapshot Global) Stop → Type 0
Pulls remote shown s lane group result = GivesItems result (to_pull (option_map (λ p. (shown p).snapshots) remote) s lane group)
