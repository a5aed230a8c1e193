-- What a call of the backup's session does, by what came of it.
use Rattle.std.specs.Prelude.{◌≡◌, Result, Ok, Err}
use Rattle.store_types.specs.declared.refusal.Refusal.{Refusal}
use Rattle.store_model.specs.Store.{Writer}
use Rattle.backup_session.specs.Answers.{Leaves, LeavesShown}
use Rattle.backup_session.specs.Session.{Writing, Session}
use Rattle.backup_session.specs.Shown.{Shows}
use Rattle.store_stops.specs.declared.stop.Stop.{Stop}
use Rattle.store_stops.specs.declared.stop.Stop.TheVariants.{Refused, NoMemory, DiskFailed}

-- The answer is the step's, or its refusal. Where it is refused, and where memory is wanting, all is as it was.
abbrev pub Does : {S A B : Type 0} → (A → B) → (Writing → S) → S → S → Result A Stop → Result (Writing × B) Refusal → Type 0
Does show leave old new (Ok a) step = Leaves leave new step (show a)
Does show leave old new (Err (Refused refusal)) step = (step ≡ Err refusal) × (new ≡ old)
Does show leave old new (Err NoMemory) step = new ≡ old
Does show leave old new (Err DiskFailed) step = new ≡ old

-- the answer is the plain step's, and what is left shows the plain writer afterwards; or it is its refusal
abbrev pub TellsPlainly : {A B : Type 0} → (A → B) → (Writing → Session) → Session → Result (Writer × B) Refusal → Result A Stop → Type 0
TellsPlainly show leave new step (Ok a) = LeavesShown leave new step (show a)
TellsPlainly show leave new step (Err (Refused refusal)) = step ≡ Err refusal
TellsPlainly show leave new step (Err NoMemory) = Unit {0}
TellsPlainly show leave new step (Err DiskFailed) = Unit {0}

-- so it is of each plain writer that the session shows
abbrev pub DoesPlainly : {A B : Type 0} → (A → B) → (Writing → Session) → Session → Session → Result A Stop → (Writer → Result (Writer × B) Refusal) → Type 0
DoesPlainly show leave old new result step = (w : Writer) → Shows old.writer w → TellsPlainly show leave new (step w) result
