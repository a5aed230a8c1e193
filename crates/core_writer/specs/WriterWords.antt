-- What the acts of writers tell.
use Rattle.std.specs.Prelude.{◌≡◌, ℕ, Result, IfOk}
use Rattle.store_types.specs.Names.{group_of_key}
use Rattle.lock_book.specs.Locks.{TakesWriter}
use Rattle.wire_commands.specs.declared.command.Command.TheVariants.{OpenWriter, Previous}
use Rattle.wire_commands.specs.declared.reply.Reply.{Reply}
use Rattle.store_history.specs.declared.act.Act.{Act}
use Rattle.store_history.specs.declared.act.Act.TheVariants.{Plain}
use Rattle.store_stops.specs.declared.stop.Stop.{Stop}
use Rattle.core_state.specs.declared.kept.Session.TheVariants.{Writer}
use Rattle.core_state.specs.declared.kept.Writing.{Writing}
use Rattle.core_state.specs.declared.parts.Parts.{Parts}
use Rattle.core_state.specs.Tells.{Words, asked_calls, by_state, plain_words, untold}
use Rattle.core_state.specs.Wanted.{session_at}
use Rattle.core_writer.specs.AnsweredBy.{writer_told}
use Rattle.core_writer.specs.Previous.{NotesPooled, asked_of_base}

-- once OPEN_WRITER is done the lane has the group of its writer's snapshot, and holds the base, on any disk
abbrev pub TakesLocks : {D : Type 0} → Parts D → Parts D → ℕ → Result Reply Stop → Type 0
TakesLocks old new lane result =
    IfOk result (λ reply. (w : Writing) × (session_at new lane ≡ Writer w) × TakesWriter old.locks new.locks lane (group_of_key ((w.session).writer).key) ((w.session).writer).base)

-- OPEN_WRITER is answered by what it finds; PREVIOUS asks for a file of the base of its writer
abbrev pub writer_words : {D : Type 0} → Act → Words D
writer_words (Plain (OpenWriter snapshot)) = record (plain_words (by_state (writer_told snapshot))) { notes = λ d old new lane result. TakesLocks old new lane result }
writer_words (Plain (Previous file offset)) = record (plain_words untold) {
  asked = asked_of_base file offset;
  calls = λ k files. asked_calls (asked_of_base file offset k) files;
  notes = λ d old new lane result. NotesPooled d old new lane file offset result;
}
writer_words act = plain_words untold
