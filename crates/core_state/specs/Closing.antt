-- Acts that end a session, and how many entries of the order a lane's end may still make.
use Rattle.std.specs.Prelude.{◌≡◌, ℕ, Bool, true, false, Option, Some, None, Result, Ok, Err, slice_index_or}
use Rattle.std.specs.List.{Contains}
use Rattle.disk_trait.specs.declared.disk.DiskError.{DiskError}
use Rattle.disk_trait.specs.declared.disk.DiskError.TheVariants.{NoMemory, Failed}
use Rattle.store_types.specs.declared.names.GroupKey.{GroupKey}
use Rattle.store_types.specs.declared.names.SnapshotKey.{SnapshotKey}
use Rattle.lock_book.specs.Locks.{group_holder, sharers}
use Rattle.wire_commands.specs.declared.reply.Reply.{Reply}
use Rattle.store_history.specs.declared.act.Act.{Act}
use Rattle.store_history.specs.Profile.{OnSessions, ends_writer, ends_reader, profile}
use Rattle.core_state.specs.declared.parts.Parts.{Parts}
use Rattle.core_state.specs.declared.state.Core.{Core}
use Rattle.core_state.specs.Indexed.{row_at}
use Rattle.core_state.specs.Wanted.{session_at}
use Rattle.core_state.specs.declared.indexes.Indexes.TheVariants.{Unread}
use Rattle.core_state.specs.declared.kept.Session.{Session}
use Rattle.core_state.specs.declared.kept.Session.TheVariants.{Idle, Writer, Reader}

abbrev pub is_writer : Session → Bool
is_writer Idle = false
is_writer (Writer w) = true
is_writer (Reader r) = false

abbrev pub is_reader : Session → Bool
is_reader Idle = false
is_reader (Writer w) = false
is_reader (Reader r) = true

-- an ABORT ends a writer, a CLOSE_READER a reader
abbrev pub is_ended : OnSessions → Session → Bool
is_ended ends_writer session = is_writer session
is_ended ends_reader session = is_reader session
is_ended sessions session = false

abbrev pub closes : Act → Session → Bool
closes act session = is_ended (profile act).sessions session

-- after a fault of the disk an act that would end a session is refused
abbrev pub closes_by : Option ℕ → Act → Session → Bool
closes_by None act session = closes act session
closes_by (Some first) act session = false

abbrev pub is_closing : {D E C : Type 0} → Core D E C → ℕ → Act → Bool
is_closing core lane act = closes_by core.fault act (session_at core.parts lane)

-- The entries that the lane's end may still make: 1, the end's own; 2 where the lane has a session and the disk has not failed, as the
-- end may then meet a fault, which is entered too, and come again. An act that ends the session may use one of the two: after it
-- the end meets no fault.
abbrev pub end_entries : Option ℕ → Session → ℕ
end_entries None Idle = 1
end_entries None (Writer w) = 2
end_entries None (Reader r) = 2
end_entries (Some first) session = 1

abbrev pub ends_by : {D E C : Type 0} → Core D E C → ℕ → ℕ
ends_by core lane = end_entries core.fault (session_at core.parts lane)

-- What an act that ends the lane's session leaves: no session, or a fault of the disk.
abbrev pub HasClosed : {D : Type 0} → Parts D → ℕ → Result Reply DiskError → Type 0
HasClosed parts lane (Ok reply) = slice_index_or parts.sessions.items lane Idle ≡ Idle
HasClosed parts lane (Err NoMemory) = ⊥
HasClosed parts lane (Err Failed) = Unit {0}

-- A lane whose session has ended: it has none, nothing is kept of indexes for it, and it holds no group and no snapshot.
pub record HasEnded {D : Type 0} (parts : Parts D) (lane : ℕ) : Type 0 where
  pub session : session_at parts lane ≡ Idle
  pub row : row_at parts lane ≡ Unread
  pub group : (group : GroupKey) → group_holder parts.locks group ≡ Some lane → ⊥
  pub shared : (key : SnapshotKey) → Contains (sharers parts.locks key) lane → ⊥
