-- What opening a crashed disk gives of the snapshots that were acknowledged.
use Rattle.std.specs.Prelude.{ℕ, ◌≡◌, ◌≤◌, ◌+◌, List, ◌∷◌, ◌++◌, All, take, Option, Some, IsTrue}
use Rattle.store_types.specs.Names.{key_of}
use Rattle.store_types.specs.declared.names.SnapshotKey.{SnapshotKey}
use Rattle.store_files.specs.Archive.{Snapshot}
use Rattle.wire_commands.specs.declared.command.Command.TheVariants.{Finish, Forget}
use Rattle.wire_commands.specs.declared.reply.Reply.TheVariants.{Done}
use Rattle.store_model.specs.Stands.{keys_rise}
use Rattle.store_model.specs.Store.{Writer, writer, session, snapshot_named}
use Rattle.store_model.specs.WriterSteps.{snapshot_of}
use Rattle.store_history.specs.declared.act.Act.{Act}
use Rattle.store_history.specs.declared.act.Act.TheVariants.{Plain}
use Rattle.store_history.specs.declared.act.Event.{Event}
use Rattle.store_history.specs.CrashPoints.{answered_by, Reopens}
use Rattle.store_history.specs.History.{Opening, opened, lane, reply, after_all}
use Rattle.store_history.specs.Legal.{IsLegal}

-- a FORGET of the snapshot, also one that PRUNE asks for
pub record IsForgetOf (key : SnapshotKey) (act : Act) : Type 0 where
  pub text : List ℕ
  pub asks : act ≡ Plain (Forget text)
  pub names : key_of text ≡ Some key

-- no FORGET of it is among the events that were answered by this count of the disk's calls, and the next event is none
abbrev pub Spares : SnapshotKey → ℕ → List Event → Type 0
Spares key t events = All (λ e. IsForgetOf key e.act → ⊥) (take (answered_by t events + 1) events)

-- By this count of the disk's calls a FINISH of the snapshot was answered Done, and since then no FORGET of it was entered or is the next event.
pub record IsAcknowledged (remote : Option (List Snapshot)) (o : Opening) (events : List Event) (t : ℕ) (x : Snapshot) : Type 0 where
  pub before : List Event
  pub finish : Event
  pub since : List Event
  pub split : events ≡ before ++ finish ∷ since
  pub asks : finish.act ≡ Plain Finish
  pub done : reply finish ≡ Some Done
  pub by_then : finish.calls ≤ t
  -- it is that of the lane's writer then, with all that this had uploaded
  pub its : Writer
  pub session_is : session (after_all remote (opened o) before).store (lane finish) ≡ writer its
  pub is : x ≡ snapshot_of its
  pub spared : Spares x.key t since

-- the snapshot stands among these, whole, by its key
abbrev pub Stands : Snapshot → List Snapshot → Type 0
Stands x snapshots = snapshot_named x.key snapshots ≡ Some x

-- what a crash at that count leaves, opened, has the snapshot whole
abbrev pub AcknowledgedStay : Type 0
AcknowledgedStay = (remote : Option (List Snapshot)) (o : Opening) (events : List Event) (t : ℕ) (x : Snapshot) (found : List Snapshot)
    → IsTrue (keys_rise o.snapshots) → IsLegal remote (opened o) events → IsAcknowledged remote o events t x → Reopens remote (opened o) events t found
    → Stands x found

-- so too one that was there at opening, where no FORGET of it was entered by then or is the next event
abbrev pub FoundStay : Type 0
FoundStay = (remote : Option (List Snapshot)) (o : Opening) (events : List Event) (t : ℕ) (x : Snapshot) (found : List Snapshot)
    → IsTrue (keys_rise o.snapshots) → IsLegal remote (opened o) events → Stands x o.snapshots → Spares x.key t events → Reopens remote (opened o) events t found
    → Stands x found

-- What a crash at that count leaves, opened: the plain store's snapshots after the events that were answered by then, or after one more.
-- Each snapshot stands among them, whole, that was acknowledged by then, and each that was there at opening and of which no FORGET was entered
-- by then or is the next event.
pub record FoundAfter (remote : Option (List Snapshot)) (o : Opening) (events : List Event) (t : ℕ) (found : List Snapshot) : Type 0 where
  pub reopens : Reopens remote (opened o) events t found
  pub acknowledged : (x : Snapshot) → IsAcknowledged remote o events t x → Stands x found
  pub spared : (x : Snapshot) → Stands x o.snapshots → Spares x.key t events → Stands x found
