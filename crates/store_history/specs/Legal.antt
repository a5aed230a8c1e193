-- Which histories are legal: each answer is the plain store's at that point.
use Rattle.std.specs.Prelude.{ℕ, ◌≡◌, ◌<◌, ◌≤◌, Bool, true, false, List, [], ◌∷◌, Option, Some, None, Result, Ok, Err, min, max}
use Rattle.store_types.specs.Times.{last_moment}
use Rattle.store_types.specs.declared.refusal.SessionState.{SessionState}
use Rattle.store_types.specs.declared.refusal.SessionState.TheVariants as states
use Rattle.store_types.specs.declared.refusal.Refusal.{Refusal}
use Rattle.store_types.specs.declared.refusal.Refusal.TheVariants.{NoMemory, RemoteFault, WrongState}
use Rattle.store_types.specs.declared.order.TheConstants.{MEMORY_KIND}
use Rattle.port_traits.specs.Readings.{Readings, reading_at, readings_after}
use Rattle.store_files.specs.Archive.{Snapshot}
use Rattle.wire_commands.specs.declared.reply.Reply.{Reply}
use Rattle.wire_commands.specs.declared.reply.Reply.TheVariants.{Collected, Refused}
use Rattle.store_model.specs.Store.{Session, none, writer, reader, session, lane_count}
use Rattle.store_model.specs.Steps.{answered}
use Rattle.store_model.specs.Lanes.{Run}
use Rattle.store_model.specs.Weave.{want_collector, fault_refusal}
use Rattle.store_history.specs.declared.act.Act.{Act}
use Rattle.store_history.specs.declared.act.Event.{Event}
use Rattle.store_history.specs.Acts.{IsWellFormed, Class, stepping, reaching, starting, sweeping, wanting, ending, class_of}
use Rattle.store_history.specs.History.{World, open_on, act_outcome, after, lane, moment, kind, reply, EntryKind, kind_of, step_kind, pass_kind, short_kind, start_kind, close_kind, fault_kind, end_kind, remote_kind}
use Rattle.store_history.specs.Profile.{OnSessions, ends_writer, ends_reader, profile}
use Rattle.store_history.specs.Remote.{may_read, ReadsIn}

abbrev pub Says : Option (List Snapshot) → World → ℕ → ℕ → Act → Option Reply → Type 0
Says remote w k m a r = r ≡ Some (answered w.store (act_outcome remote w k m a)).1

-- an ABORT ends a writer, a CLOSE_READER a reader
abbrev pub is_ended : OnSessions → Session → Bool
is_ended ends_writer (writer w) = true
is_ended ends_reader (reader r) = true
is_ended sessions session = false

abbrev pub closes : Act → Session → Bool
closes act session = is_ended (profile act).sessions session

-- A command ends the lane's session, and no fault was before. Its entry is in reserve, so it is not answered by want of memory.
abbrev pub IsClosing : World → ℕ → Act → Type 0
IsClosing w k a = (w.fault ≡ None) × (closes a (session w.store k) ≡ true)

-- ---- the collector

-- the world as `weave` has it, but for its lanes
abbrev pub without_lanes : World → Run
without_lanes w = record { store = w.store; remote = None; lanes = []; collecting = w.collecting; fault = w.fault }

-- a collector may open on the lane, or what refuses it
abbrev pub may_open : World → ℕ → Result (Unit {0}) Refusal
may_open w k = want_collector (without_lanes w) k

abbrev pub Refuses : Result (Unit {0}) Refusal → Option Reply → Type 0
Refuses (Ok may) r = ⊥
Refuses (Err refusal) r = r ≡ Some (Refused refusal)

-- the lane's collector, as far as it has come
abbrev pub collecting_on : World → ℕ → Option Bool
collecting_on w k = open_on k w.collecting

abbrev pub state_of : Session → SessionState
state_of none = states.Idle
state_of (writer w) = states.Writer
state_of (reader r) = states.Reader

-- What a collector replies as it closes: that memory was wanting since it opened, or else its report. What this counts is not said here.
abbrev pub Reports : Option Bool → Option Reply → Type 0
Reports (Some true) r = r ≡ Some (Refused NoMemory)
Reports (Some false) (Some (Collected start cutoff used pending removed)) = Unit {0}
Reports _ _ = ⊥

-- ---- the answers

-- what an act is answered whose entry is of this kind
abbrev pub Right : Option (List Snapshot) → World → ℕ → ℕ → Act → Option Reply → Class → EntryKind → Type 0
-- a command or a step of a job, done: only where no fault was before
Right remote w k m a r stepping step_kind = (w.fault ≡ None) × Says remote w k m a r
-- a command or a step that memory was wanting for: none that ends a session
Right remote w k m a r stepping short_kind = (r ≡ Some (Refused NoMemory)) × (IsClosing w k a → ⊥)
-- a read of the remote that is refused, that memory was wanting for, that gave what the remote has, or that failed
Right remote w k m a r reaching step_kind = (w.fault ≡ None) × Refuses (may_read remote w.store k a) r
Right remote w k m a r reaching short_kind = r ≡ Some (Refused NoMemory)
Right remote w k m a r reaching pass_kind = (w.fault ≡ None) × (may_read remote w.store k a ≡ Ok tt) × ReadsIn remote a r
Right remote w k m a r reaching remote_kind = (w.fault ≡ None) × (may_read remote w.store k a ≡ Ok tt) × (r ≡ Some (Refused RemoteFault))
-- a GC that is refused, that memory was wanting for, or whose collector opens, without a reply
Right remote w k m a r starting step_kind = (w.fault ≡ None) × Refuses (may_open w k) r
Right remote w k m a r starting short_kind = r ≡ Some (Refused NoMemory)
Right remote w k m a r starting start_kind = (w.fault ≡ None) × (may_open w k ≡ Ok tt) × (r ≡ None)
-- a collector's act where the lane's is not open
Right remote w k m a r sweeping step_kind =
    (w.fault ≡ None) × (collecting_on w k ≡ None) × (r ≡ Some (Refused (WrongState (state_of (session w.store k)))))
-- a mark or a visit, without a reply; none once memory was wanting
Right remote w k m a r sweeping pass_kind = (w.fault ≡ None) × (collecting_on w k ≡ Some false) × (r ≡ None)
-- one that memory was wanting for; then the collector's end comes next, which takes none
Right remote w k m a r sweeping short_kind = (r ≡ Some (Refused NoMemory)) × (collecting_on w k ≡ Some true → ⊥)
-- the collector's end
Right remote w k m a r sweeping close_kind = (w.fault ≡ None) × Reports (collecting_on w k) r
-- want of memory outside the turn, which has no other kind
Right remote w k m a r wanting short_kind = r ≡ Some (Refused NoMemory)
Right remote w k m a r wanting fault_kind = ⊥
-- a lane's end takes no memory
Right remote w k m a r ending short_kind = ⊥
-- a lane's end that met the first fault: it is not refused for an earlier one
Right remote w k m a r ending fault_kind = (w.fault ≡ None) × (r ≡ Some (Refused (fault_refusal w.fault)))
-- a command, a step, a read or a collector's act that met the first fault, or is refused for it
Right remote w k m a r stepping fault_kind = r ≡ Some (Refused (fault_refusal w.fault))
Right remote w k m a r reaching fault_kind = r ≡ Some (Refused (fault_refusal w.fault))
Right remote w k m a r starting fault_kind = r ≡ Some (Refused (fault_refusal w.fault))
Right remote w k m a r sweeping fault_kind = r ≡ Some (Refused (fault_refusal w.fault))
-- a lane's end, after a fault too
Right remote w k m a r ending end_kind = r ≡ None
Right remote w k m a r _ _ = ⊥

-- the answer is the plain store's
pub record IsRight (remote : Option (List Snapshot)) (w : World) (e : Event) : Type 0 where
  pub says : Right remote w (lane e) (moment e) e.act (reply e) (class_of e.act) (kind_of (kind e))
  pub formed : IsWellFormed e.act
  pub inside : lane e < lane_count
  -- its entry's number is that of the events before
  pub place : (e.answer).place ≡ w.events
  -- an entry of the reserve is one of want of memory
  pub last : (e.answer).last ≡ true → kind e ≡ MEMORY_KIND
  -- moments and calls never fall
  pub risen : w.moment ≤ moment e
  pub in_time : moment e ≤ last_moment
  pub counted : w.calls ≤ e.calls

-- the answers from this world on
abbrev pub IsLegal : Option (List Snapshot) → World → List Event → Type 0
IsLegal remote w [] = Unit {0}
IsLegal remote w (e ∷ es) = IsRight remote w e × IsLegal remote (after remote w e) es

-- ---- moments

-- the readings without the first
abbrev pub later : Readings → Readings
later c = readings_after 1 c

-- the moment of an act: the reading, at least the moment before and at most the last of all
abbrev pub moment_at : Readings → ℕ → ℕ
moment_at c before = min (max (reading_at c 0) before) last_moment

-- each event's moment is by the clock's next reading
abbrev pub IsTimed : Readings → ℕ → List Event → Type 0
IsTimed c before [] = Unit {0}
IsTimed c before (e ∷ es) = (moment e ≡ moment_at c before) × IsTimed (later c) (moment e) es

-- the readings that are left after a history, and its last moment
abbrev pub readings_left : Readings → List Event → Readings
readings_left c [] = c
readings_left c (e ∷ es) = readings_left (later c) es

abbrev pub moment_after : ℕ → List Event → ℕ
moment_after before [] = before
moment_after before (e ∷ es) = moment_after (moment e) es
