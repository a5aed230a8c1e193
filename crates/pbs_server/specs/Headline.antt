-- What a run leaves, and that its sessions are answered as the plain store answers them.
use Rattle.disk_trait.specs.declared.disk.Disk.{Ghosts}
use Rattle.disk_trait.specs.declared.disk.DiskError.{DiskError}
use Rattle.disk_trait.specs.Disk.{Serves}
use Rattle.std.specs.Prelude.{◌≡◌, ◌≢◌, ◌≤◌, ◌⊎◌, ℕ, false, List, [], ◌∷◌, ◌++◌, map, length, Option, Some, None, is_some, IfSome, IsTrue, Ok, ◌↔◌}
use Rattle.port_traits.specs.declared.sink.Sink as sinks
use Rattle.port_traits.specs.declared.source.Source as sources
use Rattle.port_traits.specs.Readings.{Readings}
use Rattle.disk_trait.specs.Files.{Files}
use Rattle.store_types.specs.declared.order.Entry.{Entry}
use Rattle.wire_commands.specs.declared.reply.Reply.{Reply}
use Rattle.store_files.specs.Archive.{Snapshot}
use Rattle.store_files.specs.Order.{keeps_rules}
use Rattle.store_model.specs.Clash.{NoClash, chunk_pieces}
use Rattle.store_model.specs.Load.{load}
use Rattle.store_model.specs.Store.{Store}
use Rattle.store_model.specs.Stands.{StandsFor}
use Rattle.store_model.specs.Weave.{weave}
use Rattle.store_history.specs.declared.act.Event.{Event}
use Rattle.store_history.specs.History.{Opening, opened, after_all, entries, sent}
use Rattle.store_history.specs.LaneRun.{plain_text}
use Rattle.store_history.specs.LastTouches.{LastTouches}
use Rattle.store_history.specs.Legal.{IsLegal, IsTimed, moment_after}
use Rattle.store_history.specs.Remote.{IsRemote}
use Rattle.store_history.specs.Saved.{HoldsBook, saved_book}
use Rattle.store_history.specs.Sweeping.{IsSwept, swept, swept_at}
use Rattle.store_history.specs.Woven.{AreLanes}
use Rattle.store_history.specs.Answered.{AreKept}
use Rattle.store_history.specs.RemoteDisk.{ReadNoRemote, RemoteStays, ShowsRemote, faults_of}
use Rattle.snapshot_files.specs.Leaving.{MayClean, Cleans}
use Rattle.snapshot_files.specs.Opened.{Opens}
use Rattle.core_opening.specs.declared.opening.OpenFault.{OpenFault}
use Rattle.core_opening.specs.Stops.{StopsOpening}
use Rattle.store_history.specs.Opened.{opening_of}
use Rattle.store_history.specs.declared.port.LaneReport.{LaneReport}
use Rattle.store_history.specs.declared.port.Port.{Port}
use Rattle.lane.specs.Entries.{has_kind}
use Rattle.lane.specs.Served.{EachRan, RanAs, Run}
use Rattle.pbs_server.specs.declared.status.Status.{Status}
use Rattle.pbs_server.specs.declared.served.Served.{Served}
use Rattle.pbs_server.specs.declared.status.Status.TheVariants as statuses
use Rattle.pbs_server.specs.Acknowledged.{FoundAfter}
use Rattle.pbs_server.specs.Causes.{IsOrder, SaveIsTold, NoDiskFault, HasCause}
use Rattle.pbs_server.specs.AtRest.{ActsLeave, HoldsStore, SaveLeaves}
use Rattle.pbs_server.specs.Statuses.{endings_of, first_of, run_facts, status_of_opening}

-- the inputs of lanes, and what each told
abbrev pub inputs_of : List Run → List (List ℕ)
inputs_of runs = map (λ x. x.input) runs

abbrev pub told_by : List Run → List (List Reply)
told_by runs = map (λ x. x.told) runs

-- What the sessions did, on any disk: there is one history, of whose acts each lane's own are a run of its program on the bytes that its source
-- gave (`RanAs`), its sink was given the replies (a front of them where it failed), the order is that of the acts, and their moments are by the
-- clock's readings, from a last moment on.
pub record HasTold {S K : Type 0} (readings : Option Readings) (source : sources.Ghosts S) (sink : sinks.Ghosts K) (old new : List (Port S K)) (order : List Entry) (calls : List ℕ)
    (reports : List LaneReport) : Type 0 where
  -- the bytes that each session's source gave, and all its replies
  pub runs : List Run
  -- the acts of all lanes with their answers, in the order in which they were done
  pub events : List Event
  -- Each lane's own acts, in this order, are a run of its program on its input, to the ending that is reported: Clean only at BYE or at
  -- the input's end between two frames, Broken only where no command stands, at that place. One that ends so was read to there, and one
  -- whose sink failed made no act more but its end.
  pub each : EachRan (RanAs source sink) 0 old new reports runs events
  -- every act is of one of these lanes
  pub lanes : AreLanes (length old) events
  pub rules : IsTrue (keeps_rules (length old) order)
  -- the last moment as the first command came
  pub since : ℕ
  pub times : IfSome readings (λ c. IsTimed c since events)
  -- each act's kind is one that it may have, and its answer has its place in the order
  pub kept : AreKept 0 None since events
  pub order_is : order ≡ entries events
  pub calls_are : calls ≡ map (λ e. e.calls) events

-- What opening did to a disk, which did not fail in it: up to a moment a crash leaves what it could before, and from it on only files that
-- opening takes away are gone. An honest disk lacks them all, and else it reads as before.
pub record WasOpened {D : Type 0} (d : Ghosts D) (disk opened : D) : Type 0 where
  pub serves : Serves d.honest d.faults disk opened ⊥
  pub opens : Opens d disk opened
  pub cleaned : d.honest disk → Cleans (d.content disk) (d.content opened)

-- The plain store of whole archives, opened with what the disk is loaded as and asked by the sessions' commands in the returned order, each
-- session's in its own, gives the bytes of the replies to each, but for the numbers in the reports of collections, and this last store. The
-- answers are the plain store's, and a collection is a sweep and reports what it did. The disk is honest still, its count of calls is not below
-- the last entry's. Where it did not fail, it holds the last store, once the last act was answered and at the end. Where the book was saved, it
-- is of the last moment, and has the last touch of each chunk that is there.
pub record IsPlain (opening : Opening) (remote : Option (List Snapshot)) (since now : ℕ) (is_honest : Type 0) (runs : List Run) (events : List Event)
    (order : List Entry) (not_saved : Option DiskError) (reports : List LaneReport) (before at_rest files : Files) : Type 0 where
  pub store : Store
  pub woven : weave (load before) remote order (inputs_of runs) (endings_of reports) ≡ Ok (record { store = store; replies = map plain_text (told_by runs) })
  pub legal : IsLegal remote (opened opening) events
  -- Each collection is a sweep, which began at its start. It marks and visits until the sweep is over, or memory was wanting, and then ends.
  -- Where memory was not wanting, its reply is the report of the sweep: its start, its cutoff, how many chunks are used and how many pending,
  -- and how many it took out.
  pub collected : IsSwept remote (opened opening) (swept_at opening) events
  -- the last moment of the book that was saved before
  pub since_is : since ≡ (saved_book before).moment
  pub reached : (after_all remote (opened opening) events).calls ≤ now
  pub honest : is_honest
  -- what it holds, also where it failed in the save of the book
  pub rested : has_kind 5 order ≡ false → HoldsStore store (chunk_pieces before ++ sent events) (swept remote opening events).touches before at_rest
  pub holds : NoDiskFault order not_saved → HoldsStore store (chunk_pieces before ++ sent events) (swept remote opening events).touches before files
  pub book : has_kind 5 order ≡ false → not_saved ≡ None → HoldsBook files (moment_after since events) (swept remote opening events).touches

-- What a crash leaves of a moment since this one stands for the plain store's snapshots after the events that were answered by then, or after
-- one more: of a moment without a fault before it, a front of the events with each that was answered. Among these each stands whole that was
-- acknowledged by then, or was there at opening and not forgotten.
abbrev pub StopsLeave : {D : Type 0} → Ghosts D → ℕ → D → Option (List Snapshot) → Opening → List Event → Type 0
StopsLeave d start disk remote opening events =
    (t : ℕ) (c : Files) → start ≤ t → d.images disk t c → (found : List Snapshot) × StandsFor c found × FoundAfter remote opening events t found

-- What R says of the remote: an honest one stands for it. Of sessions that read none R is any list that a disk can stand for, where there is one.
abbrev pub IsBeside : {E : Type 0} → Ghosts E → Option E → Option (List Snapshot) → List Event → Type 0
IsBeside e remote R events = ShowsRemote e remote R ⊎ (ReadNoRemote events × (is_some remote ≡ is_some R) × IsRemote R)

-- The sessions of these ports were served at once.
pub record HasServed {D E S K : Type 0} (d : Ghosts D) (e : Ghosts E) (source : sources.Ghosts S) (sink : sinks.Ghosts K) (readings : Option Readings) (disk : D) (remote : Option E)
    (old new : List (Port S K)) (reports : List LaneReport) (result : Served D E) : Type 0 where
  -- on any disk
  pub told : HasTold readings source sink old new (result.order).items ((result.report).calls).items reports
  -- the disk once it was opened, before the first command
  pub opened : D
  pub was_opened : WasOpened d disk opened
  -- once the last act was answered, before the book was saved, with the last touches of its chunks then; and what was saved
  pub at_rest : D
  pub touches : LastTouches
  pub rests : ActsLeave d opened told.events (result.order).items ((result.report).calls).items at_rest touches
  pub saves : SaveLeaves d (result.order).items (result.report).not_saved (moment_after told.since told.events) touches at_rest result.disk
  -- the last moment before the first command, whatever an honest disk holds: that of the saved book
  pub since_is : d.honest disk → told.since ≡ (saved_book (d.content opened)).moment
  -- on an honest disk that stands for any list of snapshots, beside an honest remote that stands for any list, where there is one, or that no act
  -- reads; and where no two unequal pieces have one digest of those in the chunk files at opening and those that the sessions sent
  pub plain : (L : List Snapshot) (R : Option (List Snapshot)) → IsBeside e remote R told.events → d.honest disk → StandsFor (d.content disk) L → NoClash (chunk_pieces (d.content disk) ++ sent told.events)
      → IsPlain (opening_of d disk opened L) R told.since (d.calls result.disk) (d.honest result.disk) told.runs told.events
      (result.order).items (result.report).not_saved reports (d.content disk) (d.content at_rest) (d.content result.disk)
  -- under the same premises, what a crash leaves from that moment of opening on, also as the book was saved
  pub stops : (L : List Snapshot) (R : Option (List Snapshot)) → IsBeside e remote R told.events → d.honest disk → StandsFor (d.content disk) L → NoClash (chunk_pieces (d.content disk) ++ sent told.events)
      → StopsLeave d ((was_opened.opens).start) result.disk R (opening_of d disk opened L) told.events
  -- on any disk
  pub status : result.status ≡ first_of (run_facts (result.order).items (endings_of reports) (result.report).not_saved (result.report).journal_failed)
  pub why : HasCause source sink result.status (result.order).items (result.report).not_saved (result.report).journal_failed old new reports told.runs told.events
      (d.faults disk) (d.faults result.disk) (faults_of e remote) (faults_of e result.remote)
  -- the remote is there where it was, honest where it was; an honest one reads as before, and a crash leaves of it what it left
  pub stays : RemoteStays e remote result.remote
  -- and where no act reads it, it is handed back as it was
  pub unread : ReadNoRemote told.events → result.remote ≡ remote
  pub order : IsOrder (length old) (result.order).items ((result.report).calls).items (d.faults disk) (d.faults result.disk) (faults_of e remote) (faults_of e result.remote)
  pub save : SaveIsTold (result.order).items (result.report).not_saved (d.faults disk) (d.faults result.disk)
  pub faults : d.faults disk ≤ d.faults result.disk
  -- whatever it holds, a disk is honest still where it was
  pub kept : d.honest disk ↔ d.honest result.disk
  pub not_opened : (result.report).not_opened ≡ None

-- Where the run did not come to open the datastore, the disk was not called; else by why it was not opened.
abbrev pub StopsUnserved : {D : Type 0} → Ghosts D → D → D → Option OpenFault → Type 0
StopsUnserved d disk left None = left ≡ disk
StopsUnserved d disk left (Some fault) = StopsOpening d disk left fault

-- the words or the number of sessions are the cause
abbrev pub AsksNone : Status → Type 0
AsksNone status = (status ≡ statuses.Usage) ⊎ (status ≡ statuses.TooManyLanes)

-- No session was served, and none was read: the words ask for none, or for too many, or the datastore was not opened.
pub record HasNotServed {D E P : Type 0} (d : Ghosts D) (disk : D) (remote : Option E) (old new : List P) (result : Served D E) : Type 0 where
  pub status : AsksNone result.status ⊎ ((result.status ≡ statuses.NoMemory) ⊎ (result.status ≡ statuses.DiskFault))
  pub order : (result.order).items ≡ []
  pub calls : ((result.report).calls).items ≡ []
  pub not_saved : (result.report).not_saved ≡ None
  pub ports : new ≡ old
  pub remote_is : result.remote ≡ remote
  -- where the words ask for none, or for too many, nothing was done
  pub disk_is : AsksNone result.status → result.disk ≡ disk
  -- on any disk, which is said to have failed only where its count of faults rose
  pub serves : Serves d.honest d.faults disk result.disk (result.status ≡ statuses.DiskFault)
  -- what a crash leaves
  pub stops : StopsUnserved d disk result.disk (result.report).not_opened
  pub why : IfSome (result.report).not_opened (λ fault. result.status ≡ status_of_opening fault)
  -- an honest disk that did not fail reads as before, without some of these files
  pub left : d.honest disk → result.status ≢ statuses.DiskFault → MayClean (d.content disk) (d.content disk) (d.content result.disk)

-- what was served is told by the reports, one of each port
abbrev pub Leaves : {D E S K : Type 0} → Ghosts D → Ghosts E → sources.Ghosts S → sinks.Ghosts K → Option Readings → D → Option E → Served D E
    → List (Port S K) → List (Port S K) → List LaneReport → Type 0
Leaves d e source sink readings disk remote result old new [] = HasNotServed d disk remote old new result
Leaves d e source sink readings disk remote result old new (report ∷ reports) = HasServed d e source sink readings disk remote old new (report ∷ reports) result
