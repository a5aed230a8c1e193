-- What a run leaves: of sessions that were served, or of none.
use Rattle.disk_trait.specs.declared.disk.Disk.{Ghosts}
use Rattle.disk_trait.specs.Disk.{Rose, Serves}
use Rattle.std.proofs.Common.{◌≡◌, ◌≤◌, ◌↔◌, ◌⊎◌, inl, inr, List, [], ◌∷◌, length, Option, None, Some, IfSome, refl, sym, subst, ◌∙◌, arith}
use Rattle.port_traits.specs.declared.sink.Sink as sinks
use Rattle.port_traits.specs.declared.source.Source as sources
use Rattle.port_traits.specs.Readings.{Readings}
use Rattle.store_history.specs.declared.port.LaneReport.{LaneReport}
use Rattle.store_history.specs.declared.port.Port.{Port}
use Rattle.store_model.specs.Stands.{StandsFor as Stands}
use Rattle.snapshot_files.specs.Leaving.{Cleans, MayClean}
use Rattle.core_opening.specs.declared.opening.NotOpened.{NotOpened}
use Rattle.core_opening.specs.declared.opening.OpenFault.{OpenFault}
use Rattle.core_opening.specs.declared.opening.OpenFault.TheVariants as openings
use Rattle.core_opening.specs.Opening.{IsGivenBack, RecoversOpened, TellsDisk}
use Rattle.core_opening.specs.Stops.{StopsOpening, StopsSynced}
use Rattle.core_state.specs.declared.state.Core.{Core}
use Rattle.pbs_server.specs.declared.served.Served.{Served}
use Rattle.pbs_server.specs.declared.status.Status.TheVariants as statuses
use Rattle.pbs_server.specs.declared.status.Status.{Status}
use Rattle.pbs_server.specs.Headline.{AsksNone, HasNotServed, HasServed, Leaves, StopsUnserved}
use Rattle.pbs_server.specs.Statuses.{status_of_opening}

-- where sessions were served, there is a report of each
pub leaves_served : {D E S K : Type 0} (d : Ghosts D) (e : Ghosts E) (source : sources.Ghosts S) (sink : sinks.Ghosts K) (readings : Option Readings) (disk : D) (remote : Option E) (result : Served D E)
    (old new : List (Port S K)) (reports : List LaneReport) → 1 ≤ length reports → HasServed d e source sink readings disk remote old new reports result
    → Leaves d e source sink readings disk remote result old new reports
leaves_served d e source sink readings disk remote result old new [] some served = absurd (omega arith)
leaves_served d e source sink readings disk remote result old new (r ∷ rs) some served = served

-- and where none was, there are none
pub leaves_none : {D E S K : Type 0} (d : Ghosts D) (e : Ghosts E) (source : sources.Ghosts S) (sink : sinks.Ghosts K) (readings : Option Readings) (disk : D) (remote : Option E) (result : Served D E)
    (ports : List (Port S K)) (reports : List LaneReport) → reports ≡ [] → HasNotServed d disk remote ports ports result
    → Leaves d e source sink readings disk remote result ports ports reports
leaves_none d e source sink readings disk remote result ports reports none not_served =
    subst (λ xs. Leaves d e source sink readings disk remote result ports ports xs) (sym none) not_served

-- ---- where none was, the words are not the cause

not_asked : (cause : OpenFault) → AsksNone (status_of_opening cause) → ⊥
not_asked openings.NotSynced (inl is) = cc
not_asked openings.NotSynced (inr is) = cc
not_asked openings.DiskFault (inl is) = cc
not_asked openings.DiskFault (inr is) = cc
not_asked openings.NoMemory (inl is) = cc
not_asked openings.NoMemory (inr is) = cc

-- a status by the opening is not one by the words
pub opening_asks : (status : Status) (cause : OpenFault) → status ≡ status_of_opening cause → AsksNone status → ⊥
opening_asks status cause is asks = not_asked cause (subst AsksNone is asks)

pub memory_asks : (status : Status) → status ≡ statuses.NoMemory → AsksNone status → ⊥
memory_asks status is asks = opening_asks status openings.NoMemory is asks

-- the datastore was not opened
pub unopened : {D E C P : Type 0} (d : Ghosts D) (disk : D) (remote : Option E) (clock : C) (ports : List P) (e : NotOpened D E C) (result : Served D E)
    → result.status ≡ status_of_opening e.cause → (result.report).not_opened ≡ Some e.cause → (result.report).not_saved ≡ None → (result.order).items ≡ [] → ((result.report).calls).items ≡ []
    → result.disk ≡ e.disk → result.remote ≡ e.remote
    → Serves d.honest d.faults disk e.disk (TellsDisk e.cause) → StopsOpening d disk e.disk e.cause → IsGivenBack d disk remote clock e
    → HasNotServed d disk remote ports ports result
unopened d disk remote clock ports e result status cause unsaved order calls disk_is remote_is serves crash back = record {
  status = by_cause e.cause status;
  order = order;
  calls = calls;
  not_saved = unsaved;
  ports = refl;
  remote_is = remote_is ∙ back.remote_is;
  disk_is = λ is. absurd (opening_asks result.status e.cause status is);
  serves = record {
    kept = subst (λ x. d.honest disk ↔ d.honest x) (sym disk_is) serves.kept;
    count = subst (λ x. d.faults disk ≤ d.faults x) (sym disk_is) serves.count;
    cause = λ is. subst (λ x. Rose (d.faults disk) (d.faults x)) (sym disk_is) (serves.cause (is_fault e.cause (sym status ∙ is)));
  };
  stops =
      subst (StopsUnserved d disk result.disk) (sym cause)
      (subst (λ x. StopsOpening d disk x e.cause) (sym disk_is) crash);
  why = subst (λ (o : Option OpenFault). IfSome o (λ fault. result.status ≡ status_of_opening fault)) (sym cause) status;
  left = λ honest calm. subst (λ x. MayClean (d.content disk) (d.content disk) (d.content x)) (sym disk_is) (back.want honest (is_want e.cause (λ is. calm (status ∙ is))));
}
  where
    by_cause : (cause : OpenFault) → result.status ≡ status_of_opening cause
        → AsksNone result.status ⊎ ((result.status ≡ statuses.NoMemory) ⊎ (result.status ≡ statuses.DiskFault))
    by_cause openings.NotSynced is = inr (inr is)
    by_cause openings.DiskFault is = inr (inr is)
    by_cause openings.NoMemory is = inr (inl is)

    is_fault : (cause : OpenFault) → status_of_opening cause ≡ statuses.DiskFault → TellsDisk cause
    is_fault openings.NotSynced is = tt
    is_fault openings.DiskFault is = tt
    is_fault openings.NoMemory is = cc

    is_want : (cause : OpenFault) → (status_of_opening cause ≡ statuses.DiskFault → ⊥) → cause ≡ openings.NoMemory
    is_want openings.NotSynced calm = absurd (calm refl)
    is_want openings.DiskFault calm = absurd (calm refl)
    is_want openings.NoMemory calm = refl

-- it was opened, and then there was no memory for a turn
stops_synced : {D E C : Type 0} (d : Ghosts D) (readings : C → Option Readings) (disk : D) (clock : C) (core : Core D E C) → RecoversOpened d readings disk clock core → StopsSynced d disk (core.parts).disk
stops_synced d readings disk clock core r = record {
  opens = r.opens;
  stops = λ L stands t c from image. let found = (r.recovers L None stands).each t c from image in subst (Stands c) found.2 found.1;
}

pub unturned : {D E C P : Type 0} (d : Ghosts D) (readings : C → Option Readings) (disk : D) (remote : Option E) (clock : C) (ports : List P) (core : Core D E C) (result : Served D E)
    → result.status ≡ statuses.NoMemory → (result.report).not_opened ≡ Some openings.NoMemory → (result.report).not_saved ≡ None → (result.order).items ≡ [] → ((result.report).calls).items ≡ []
    → result.disk ≡ (core.parts).disk → result.remote ≡ core.remote → (core.remote ≡ remote) × (core.clock ≡ clock)
    → Serves d.honest d.faults disk (core.parts).disk ⊥ → RecoversOpened d readings disk clock core → (d.honest disk → Cleans (d.content disk) (d.content (core.parts).disk))
    → HasNotServed d disk remote ports ports result
unturned {D} {E} {C} d readings disk remote clock ports core result status cause unsaved order calls disk_is remote_is handed serves recovers cleaned =
    let e : NotOpened D E C = record { cause = openings.NoMemory; disk = (core.parts).disk; remote = core.remote; clock = core.clock } in
    unopened d disk remote clock ports e result status cause unsaved order calls disk_is remote_is serves (stops_synced d readings disk clock core recovers)
    (record { remote_is = handed.0; clock_is = handed.1; want = λ honest is. (cleaned honest).only })
