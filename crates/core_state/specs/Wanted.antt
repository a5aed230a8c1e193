-- What a command wants of its lane.
use Rattle.std.specs.Prelude.{ℕ, Result, Ok, Err, slice_index_or}
use Rattle.store_types.specs.declared.refusal.Refusal.{Refusal}
use Rattle.store_types.specs.declared.refusal.Refusal.TheVariants.{WrongState}
use Rattle.restore_reader.specs.Session.{Reading}
use Rattle.core_state.specs.declared.parts.Parts.{Parts}
use Rattle.core_state.specs.declared.kept.Session.{Session}
use Rattle.core_state.specs.declared.kept.Session.TheVariants.{Idle, Writer, Reader}
use Rattle.core_state.specs.declared.kept.Writing.{Writing}
use Rattle.core_state.specs.States.{state_of}

abbrev pub session_at : {D : Type 0} → Parts D → ℕ → Session
session_at parts lane = slice_index_or parts.sessions.items lane Idle

-- the lane's reader, or what it has instead
abbrev pub reader_in : Session → Result Reading Refusal
reader_in (Reader r) = Ok r
reader_in session = Err (WrongState (state_of session))

-- the lane's writer
abbrev pub want_writer : Session → Result Writing Refusal
want_writer Idle = Err (WrongState (state_of Idle))
want_writer (Writer w) = Ok w
want_writer (Reader r) = Err (WrongState (state_of (Reader r)))

-- neither
abbrev pub want_idle : Session → Result (Unit {0}) Refusal
want_idle Idle = Ok tt
want_idle (Writer w) = Err (WrongState (state_of (Writer w)))
want_idle (Reader r) = Err (WrongState (state_of (Reader r)))
