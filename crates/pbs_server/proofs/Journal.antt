-- A run whose journal failed too.
use Rattle.disk_trait.specs.declared.disk.Disk.{Ghosts}
use Rattle.std.proofs.Common.{◌≡◌, ◌⊎◌, inl, inr, ℕ, Bool, true, false, List, [], ◌∷◌, Option, Result, Ok, Err, sym, ap, subst, ◌∙◌}
use Rattle.std.specs.Prelude.{is_ok}
use Rattle.std.specs.Result.{is_err}
use Rattle.port_traits.specs.declared.sink.Sink as sinks
use Rattle.port_traits.specs.declared.source.Source as sources
use Rattle.port_traits.specs.Bytes.{Writes}
use Rattle.port_traits.specs.Faults.{HasCause as Caused}
use Rattle.port_traits.specs.Readings.{Readings}
use Rattle.store_history.specs.declared.port.LaneReport.{LaneReport}
use Rattle.store_history.specs.declared.port.Port.{Port}
use Rattle.store_history.specs.RemoteDisk.{faults_of}
use Rattle.pbs_server.specs.declared.served.Served.{Served}
use Rattle.pbs_server.specs.declared.status.Status.{Status}
use Rattle.pbs_server.specs.declared.status.Status.TheVariants as statuses
use Rattle.pbs_server.specs.Causes.{HasCause}
use Rattle.pbs_server.specs.Headline.{AsksNone, HasNotServed, HasServed, Leaves}
use Rattle.pbs_server.specs.Journal.{TakesText, told_with}
use Rattle.pbs_server.specs.Statuses.{beside_sink, endings_of, first_of, run_facts}
use Rattle.pbs_server.proofs.Causes.{caused_beside}
use Rattle.pbs_server.proofs.Statuses.{beside_failed}

-- ---- a text that is written

takes_by : {J T E : Type 0} (sink : sinks.Ghosts J) (old new : J) (text : List ℕ) (result : Result T E) → Writes (sink.taken old) (sink.taken new) text (is_ok result)
    → Caused (sink.faults old) (sink.faults new) result → TakesText sink old new text (is_err result)
takes_by sink old new text (Ok done) writes cause = record { bytes = writes; cause = λ fails. cc; later = cause.later }
takes_by sink old new text (Err fault) writes cause = record { bytes = writes; cause = λ fails. cause.failed; later = cause.later }

pub takes_text : {J T E : Type 0} (sink : sinks.Ghosts J) (old new : J) (text bytes : List ℕ) (result : Result T E) (failed : Bool) → bytes ≡ text → failed ≡ is_err result
    → Writes (sink.taken old) (sink.taken new) bytes (is_ok result) → Caused (sink.faults old) (sink.faults new) result → TakesText sink old new text failed
takes_text sink old new text bytes result failed is told writes cause =
    subst (λ f. TakesText sink old new text f) (sym told)
    (takes_by sink old new text result (subst (λ xs. Writes (sink.taken old) (sink.taken new) xs (is_ok result)) is writes) cause)

-- ---- no session was served

-- such a status comes before a fault of the journal
stays : (s : Status) → (AsksNone s → ⊥) → AsksNone s ⊎ ((s ≡ statuses.NoMemory) ⊎ (s ≡ statuses.DiskFault)) → beside_sink s ≡ s
stays s asks (inl is) = absurd (asks is)
stays s asks (inr (inl is)) = ap beside_sink is ∙ sym is
stays s asks (inr (inr is)) = ap beside_sink is ∙ sym is

module _ {D E : Type 0} (d : Ghosts D) (e : Ghosts E) (disk : D) (remote : Option E) (result : Served D E) (unfailed : (result.report).journal_failed ≡ false) where
  -- of another status, where the journal failed
  abbrev with_status : Status → Served D E
  with_status s = record result { status = s; report = record result.report { journal_failed = true } }

  unserved : {P : Type 0} (old new : List P) → HasNotServed d disk remote old new result → HasNotServed d disk remote old new (with_status result.status)
  unserved old new h = record {
    status = h.status;
    order = h.order;
    calls = h.calls;
    not_saved = h.not_saved;
    ports = h.ports;
    remote_is = h.remote_is;
    disk_is = h.disk_is;
    serves = h.serves;
    stops = h.stops;
    why = h.why;
    left = h.left;
  }

  pub unserved_told : {P : Type 0} (old new : List P) → (AsksNone result.status → ⊥) → HasNotServed d disk remote old new result → HasNotServed d disk remote old new (told_with true result)
  unserved_told old new asks h =
      subst (λ s. HasNotServed d disk remote old new (with_status s)) (sym (stays result.status asks h.status)) (unserved old new h)

  -- ---- sessions were served

  module _ {S K : Type 0} (source : sources.Ghosts S) (sink : sinks.Ghosts K) (readings : Option Readings) (old new : List (Port S K)) where
    pub served_told : (reports : List LaneReport) → HasServed d e source sink readings disk remote old new reports result → HasServed d e source sink readings disk remote old new reports (told_with true result)
    served_told reports h =
        let runs = (h.told).runs in
        let events = (h.told).events in
        record {
          told = h.told;
          opened = h.opened;
          was_opened = h.was_opened;
          at_rest = h.at_rest;
          touches = h.touches;
          rests = h.rests;
          saves = h.saves;
          since_is = h.since_is;
          plain = h.plain;
          stops = h.stops;
          status =
              ap beside_sink (h.status ∙ ap (λ b. first_of (run_facts (result.order).items (endings_of reports) (result.report).not_saved b)) unfailed)
              ∙ sym (beside_failed (result.order).items (endings_of reports) (result.report).not_saved);
          why = caused_beside source sink result.status (result.order).items (result.report).not_saved old new reports runs events
              (d.faults disk) (d.faults result.disk) (faults_of e remote) (faults_of e result.remote)
              (subst (λ b. HasCause source sink result.status (result.order).items (result.report).not_saved b old new reports runs events
              (d.faults disk) (d.faults result.disk) (faults_of e remote) (faults_of e result.remote)) unfailed h.why);
          stays = h.stays;
          unread = h.unread;
          order = h.order;
          save = h.save;
          faults = h.faults;
          kept = h.kept;
          not_opened = h.not_opened;
        }

    -- ---- the whole

    leaves_failed : (reports : List LaneReport) → (AsksNone result.status → ⊥) → Leaves d e source sink readings disk remote result old new reports
        → Leaves d e source sink readings disk remote (told_with true result) old new reports
    leaves_failed [] asks h = unserved_told old new asks h
    leaves_failed (r ∷ rs) asks h = served_told (r ∷ rs) h

    pub leaves_told : (failed : Bool) → (AsksNone result.status → ⊥) → Leaves d e source sink readings disk remote result old new ((result.report).lanes).items
        → Leaves d e source sink readings disk remote (told_with failed result) old new (((told_with failed result).report).lanes).items
    leaves_told false asks h = h
    leaves_told true asks h = leaves_failed ((result.report).lanes).items asks h
