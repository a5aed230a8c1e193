-- What the steps of jobs are replied.
use Rattle.std.proofs.Common.{◌≡◌, ℕ, Bool, List, Result, Ok, Err, refl, sym, ap, subst}
use Rattle.std.specs.Prelude.{IfOk}
use Rattle.store_types.specs.declared.names.GroupKey.{GroupKey}
use Rattle.store_types.specs.declared.names.Keep.{Keep}
use Rattle.store_types.specs.declared.refusal.Refusal.{Refusal}
use Rattle.store_types.specs.declared.refusal.Refusal.TheVariants.{TooMany}
use Rattle.store_types.specs.Chain.Refusing.{◌>>=◌, unless}
use Rattle.wire_commands.specs.declared.command.Command.{Command}
use Rattle.wire_commands.specs.declared.command.Command.TheVariants.{Prune}
use Rattle.wire_commands.specs.declared.reply.Reply.{Reply}
use Rattle.wire_commands.specs.declared.reply.Reply.TheVariants.{Keys, Refused}
use Rattle.wire_commands.specs.HasText.{ReplyHasText}
use Rattle.store_model.specs.Store.{Store, Outcome}
use Rattle.store_model.specs.Heads.{idle_group}
use Rattle.store_model.specs.AdminSteps.{group_texts, counts_fit, prune_group}
use Rattle.store_model.specs.Job.{Asking, grouping, step_of}
use Rattle.store_model.specs.JobSteps.{step_outcome}
use Rattle.store_model.specs.Steps.{answered, outcome}
use Rattle.plain_snapshots.proofs.Telling.{few_texts}
use Rattle.plain_lanes.specs.Jobs.{IsFew, FitsAsked}

module _ (s : Store) where
  few_keys : (b : Result GroupKey Refusal) (c : Result (Unit {0}) Refusal) → IsFew (answered s (b >>= λ g. c >>= λ _. Ok (s, Keys (group_texts g s.snapshots)))).1
  few_keys (Err r) c = tt
  few_keys (Ok g) (Err r) = tt
  few_keys (Ok g) (Ok u) = few_texts g s.snapshots

  -- a PRUNE's own command is told no more snapshots than a group has
  few_told : (lane moment : ℕ) (group : List ℕ) (keep : Keep) (dry : Bool) → IsFew (answered s (outcome s lane moment (Prune group keep dry))).1
  unfolding outcome prune_group
  few_told lane moment group keep dry = few_keys (idle_group s lane group) (unless (TooMany 1000) (counts_fit keep))

  module _ (after : Store) (lane moment : ℕ) (reply : Reply) (spelled : ReplyHasText reply) where
    by_command : (c : Command) (counts : Keep) (whole : Bool) → (after, reply) ≡ answered s (outcome s lane moment c) → FitsAsked (grouping c counts whole) reply
    by_command (Prune group keep dry) counts whole is = (spelled, subst IsFew (sym (ap (λ x. x.1) is)) (few_told lane moment group keep dry))
    by_command c counts whole is = spelled

    by_asking : (a : Asking) → (after, reply) ≡ answered s (step_outcome s lane moment (step_of a)) → FitsAsked a reply
    by_asking (grouping c counts whole) is = by_command c counts whole is
    by_asking a is = spelled

-- what a job's step is told by fits the job
pub fits_by : {E : Type 0} (result : Result Reply E) (s after : Store) (lane moment : ℕ) (a : Asking) → IfOk result ReplyHasText
    → IfOk result (λ reply. (after, reply) ≡ answered s (step_outcome s lane moment (step_of a))) → IfOk result (FitsAsked a)
fits_by (Ok reply) s after lane moment a spelled is = by_asking s after lane moment reply spelled a is
fits_by (Err e) s after lane moment a spelled is = tt

-- and so does a refusal
pub fits_refused : (a : Asking) (refusal : Refusal) → ReplyHasText (Refused refusal) → FitsAsked a (Refused refusal)
fits_refused (grouping (Prune group keep dry) counts whole) refusal spelled = (spelled, tt)
fits_refused (grouping c counts whole) refusal spelled = spelled
fits_refused a refusal spelled = spelled

-- ---- a step's answer is its outcome

pub outcome_told : (s after : Store) (o : Outcome) (reply : Reply) → o ≡ Ok (after, reply) → (after, reply) ≡ answered s o
outcome_told s after o reply e = rw e refl

pub outcome_refused : (s after : Store) (o : Outcome) (r : Refusal) → o ≡ Err r → after ≡ s → (after, Refused r) ≡ answered s o
outcome_refused s after o r e same = rw (e, same) refl
