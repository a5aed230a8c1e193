-- What a lane's session means.
use Rattle.std.specs.Prelude.{ℕ, List, Option, position}
use Rattle.store_types.specs.declared.names.SnapshotKey.{SnapshotKey}
use Rattle.store_types.specs.declared.refusal.SessionState.{SessionState}
use Rattle.store_types.specs.declared.refusal.SessionState.TheVariants as states
use Rattle.store_types.specs.Names.{group_of_key}
use Rattle.store_model.specs.Store as model
use Rattle.plain_sessions.specs.declared.session.Held.{Held}
use Rattle.plain_sessions.specs.declared.session.Held.TheVariants as held

abbrev pub shown_held : Held → model.Session
shown_held held.Nothing = model.none
shown_held (held.Writing w) = model.writer w
shown_held (held.Reading r) = model.reader r

abbrev pub state_of : Held → SessionState
state_of held.Nothing = states.Idle
state_of (held.Writing w) = states.Writer
state_of (held.Reading r) = states.Reader

-- the lane whose writer has the snapshot's group
abbrev pub group_writer : SnapshotKey → List model.Session → Option ℕ
group_writer key sessions = position (model.writes_group (group_of_key key)) sessions
