-- What a command that makes no call of the disk does to its lane's session.
use Rattle.std.specs.Prelude.{◌≡◌, ℕ, List, Bool, true, Result, Ok, Err, IfOk, OnErr, IsTrue}
use Rattle.std.specs.List.{Contains}
use Rattle.disk_trait.specs.Files.{Files}
use Rattle.wire_commands.specs.HasText.{ReplyHasText}
use Rattle.wire_commands.specs.declared.reply.Reply.{Reply}
use Rattle.store_model.specs.Store.{Store, Writer, Outcome, writer, session, with_session}
use Rattle.core_state.specs.declared.kept.Session.{Session}
use Rattle.core_state.specs.declared.kept.Session.TheVariants as kept
use Rattle.store_stops.specs.declared.stop.Stop.{Stop}
use Rattle.store_stops.specs.declared.stop.Stop.TheVariants.{Refused, NoMemory, DiskFailed}
use Rattle.core_state.specs.Closing.{is_writer as is_writers}
use Rattle.core_state.specs.Commands.{IsNoRefusal}
use Rattle.core_state.specs.Holds.{IsSound, IsWriter, HasUploads}
use Rattle.core_state.specs.Named.{is_named}
use Rattle.core_state.specs.Shown.{shown_session, shown_writer}
use Rattle.core_state.specs.Stops.{told}

-- The store's step makes another of the lane's writer, and that one is kept. What stands on the disk for it is the same.
pub record GoesOn (s : Store) (lane : ℕ) (new : Session) (o : Outcome) (reply : Reply) : Type 0 where
  pub before : Writer
  pub after : Writer
  pub at : session s lane ≡ writer before
  pub step : o ≡ Ok (with_session s lane (writer after), reply)
  pub shown : new ≡ kept.Writer (shown_writer after)
  pub key : after.key ≡ before.key
  pub base : after.base ≡ before.base
  pub pool : (p : List ℕ) → Contains before.pool p → Contains after.pool p
  pub is_writer : IsWriter s.snapshots after
  pub uploads : (m : Files) → HasUploads m before → HasUploads m after

-- For every sound store that has the session at a lane: its step is done, or refused so. The disk is not called, so it doesn't fail.
abbrev pub IsStepOf : Session → Session → (Store → ℕ → Outcome) → Result Reply Stop → Type 0
IsStepOf old new outcome_at (Ok reply) =
    (s : Store) (lane : ℕ) → IsSound s → old ≡ shown_session s.snapshots (session s lane) → GoesOn s lane new (outcome_at s lane) reply
IsStepOf old new outcome_at (Err (Refused refusal)) =
    (s : Store) (lane : ℕ) → IsSound s → old ≡ shown_session s.snapshots (session s lane) → outcome_at s lane ≡ Err refusal
IsStepOf old new outcome_at (Err NoMemory) = Unit {0}
IsStepOf old new outcome_at (Err DiskFailed) = ⊥

-- It does the store's step, and is answered by one of these replies. The session is a writer's then too, and where it stops it is as before.
pub record StepsQuietly (old new : Session) (outcome_at : Store → ℕ → Outcome) (may_be : Reply → Bool) (result : Result Reply Stop) : Type 0 where
  pub text : IfOk (told result) ReplyHasText
  pub answers : IfOk (told result) (λ reply. IsTrue (may_be reply))
  pub plain : IfOk result IsNoRefusal
  pub named : IsTrue (is_named new)
  pub writes : is_writers new ≡ true
  pub same : OnErr result (new ≡ old)
  pub step : IsStepOf old new outcome_at result
