-- A step's answer is its outcome.
use Rattle.std.proofs.Common.{◌≡◌, ℕ, Ok, Err, refl}
use Rattle.store_types.specs.declared.refusal.Refusal.{Refusal}
use Rattle.wire_commands.specs.declared.command.Command.{Command}
use Rattle.wire_commands.specs.declared.reply.Reply.{Reply}
use Rattle.wire_commands.specs.declared.reply.Reply.TheVariants.{Refused}
use Rattle.store_model.specs.Store.{Store}
use Rattle.store_model.specs.Steps.{outcome, step}

module _ (s after : Store) (lane moment : ℕ) (c : Command) where
  pub step_done : (reply : Reply) → outcome s lane moment c ≡ Ok (after, reply) → (after, reply) ≡ step s lane moment c
  unfolding step
  step_done reply e = rw e refl

  pub step_refused : (r : Refusal) → outcome s lane moment c ≡ Err r → after ≡ s → (after, Refused r) ≡ step s lane moment c
  unfolding step
  step_refused r e same = rw (e, same) refl
