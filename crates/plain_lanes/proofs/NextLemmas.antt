-- What a command is, as the next of a lane.
use Rattle.std.proofs.Common.{◌≡◌, ℕ, List, None, Some, refl}
use Rattle.wire_commands.specs.declared.command.Command.{Command}
use Rattle.wire_commands.specs.declared.command.Command.TheVariants.{Prune, Verify, Sync, Gc, Bye}
use Rattle.store_model.specs.Job.{Asking}
use Rattle.store_model.specs.Jobs.{job_of}
use Rattle.store_model.specs.Lanes.{job_step, plain, command_next}

pub starts_job : (c : Command) (left : List ℕ) (a : Asking) → job_of c ≡ Some a → job_step a left ≡ command_next c left
unfolding command_next
starts_job (Prune group keep dry) left a h = cc
starts_job (Verify snapshot) left a h = cc
starts_job c left a h = cc

pub no_job : (c : Command) (left : List ℕ) → ((group : List ℕ) → c ≡ Sync group → ⊥) → (c ≡ Gc → ⊥) → (c ≡ Bye → ⊥) → job_of c ≡ None → plain c left ≡ command_next c left
unfolding command_next
no_job (Prune group keep dry) left s g b h = cc
no_job (Verify snapshot) left s g b h = cc
no_job (Sync group) left s g b h = absurd (s group refl)
no_job Gc left s g b h = absurd (g refl)
no_job Bye left s g b h = absurd (b refl)
no_job c left s g b h = refl
