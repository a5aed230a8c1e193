-- What a call of the backup's session told, and what its caller answers by it.
use Rattle.std.proofs.Common.{Result, Ok, Err}
use Rattle.store_types.specs.declared.refusal.Refusal.{Refusal}
use Rattle.store_types.specs.declared.refusal.Refusal.TheVariants.{NoMemory}
use Rattle.store_model.specs.Store.{Writer}
use Rattle.backup_session.specs.Answers as backups
use Rattle.backup_session.specs.Session.{Writing, Session}
use Rattle.store_stops.specs.Stops.{answered_of}
use Rattle.core_writer.specs.Does.{DoesPlainly}

pub answered_plainly : {A B : Type 0} (show : A → B) (leave : Writing → Session) (old new : Session) (told : Result A Refusal) (step : Writer → Result (Writer × B) Refusal)
    → backups.DoesPlainly show leave old new told step → DoesPlainly show leave old new (answered_of told) step
answered_plainly show leave old new (Ok a) step does = does
answered_plainly show leave old new (Err NoMemory) step does = λ w shows. tt
answered_plainly show leave old new (Err cause) step does = does
