-- CLOSE_READER is the store's.
use Rattle.std.proofs.Common.{◌≡◌, ℕ, Err, Ok, refl}
use Rattle.store_types.specs.declared.refusal.Refusal.{Refusal}
use Rattle.wire_commands.specs.declared.command.Command.TheVariants.{CloseReader}
use Rattle.wire_commands.specs.declared.reply.Reply.TheVariants.{Done}
use Rattle.store_model.specs.Store as model
use Rattle.store_model.specs.Store.{Store, session, ended, reader, want_reader}
use Rattle.store_model.specs.ReaderSteps.{close_reader}
use Rattle.store_model.specs.Steps.{outcome}

pub close_unread : (s : Store) (lane m : ℕ) (refusal : Refusal) → want_reader (session s lane) ≡ Err refusal → outcome s lane m CloseReader ≡ Err refusal
unfolding outcome close_reader
close_unread s lane m refusal no_reader = rw no_reader refl

pub closes : (s : Store) (lane m : ℕ) (r : model.Reader) → session s lane ≡ reader r → outcome s lane m CloseReader ≡ Ok (ended s lane, Done)
unfolding outcome close_reader
closes s lane m r at = rw at refl
