-- Which session a lane has.
use Rattle.store_types.specs.declared.refusal.SessionState.{SessionState}
use Rattle.store_types.specs.declared.refusal.SessionState.TheVariants as states
use Rattle.core_state.specs.declared.kept.Session.{Session}
use Rattle.core_state.specs.declared.kept.Session.TheVariants.{Idle, Writer, Reader}

abbrev pub state_of : Session → SessionState
state_of Idle = states.Idle
state_of (Writer w) = states.Writer
state_of (Reader r) = states.Reader
