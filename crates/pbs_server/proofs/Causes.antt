-- Why sessions are answered so.
use Rattle.disk_trait.specs.declared.disk.DiskError.{DiskError}
use Rattle.disk_trait.specs.declared.disk.DiskError.TheVariants as disks
use Rattle.std.proofs.Common.{◌≡◌, ◌≤◌, ℕ, Bool, true, false, true≢false, ◌||◌, List, Option, Some, None, ◌⊎◌, inl, inr, refl, sym, ap, subst, ◌∙◌}
use Rattle.std.specs.List.{All}
use Rattle.port_traits.specs.declared.sink.Sink as sinks
use Rattle.port_traits.specs.declared.source.Source as sources
use Rattle.port_traits.specs.Faults.{Rose}
use Rattle.store_types.specs.declared.order.Entry.{Entry}
use Rattle.store_model.specs.declared.ending.Ending.TheVariants as endings
use Rattle.store_history.specs.declared.act.Event.{Event}
use Rattle.store_history.specs.declared.port.LaneReport.{LaneReport}
use Rattle.store_history.specs.declared.port.Port.{Port}
use Rattle.lane.specs.Entries.{has_kind}
use Rattle.lane.proofs.Caused.{rose_later}
use Rattle.lane.specs.Served.{EachRan, RanAs, Run}
use Rattle.pbs_server.specs.declared.status.Status.{Status}
use Rattle.pbs_server.specs.declared.status.Status.TheVariants as statuses
use Rattle.pbs_server.specs.Statuses.{beside_sink, endings_of, first_of, has_disk_fault, is_failed, is_short, is_wanting, run_facts, some_tells}
use Rattle.pbs_server.specs.Causes.{HasCause, HasNotFailed, IsCalm, SaveIsTold, SomeFailed, SomeReaches}
use Rattle.pbs_server.proofs.Endings.{NoneFailed, all_clean, all_served, clean_served, none_broken, none_failed, sink_failed, some_broken, some_reached, source_failed, too_long}
use Rattle.pbs_server.proofs.Statuses.{IsLast, IsPlace, calm_chosen, chosen, disk_chosen, ended, ended_broken, ended_long, ended_ok, ended_sink, ended_source, failed_is, last_chosen, memory_chosen, no_disk, no_memory, no_remote, place_ended, remote_chosen, saved_by, wanting_is}
use Rattle.pbs_server.proofs.Tests.{both_false, either, neither, or_first, or_later}

module _ {S K : Type 0} (source : sources.Ghosts S) (sink : sinks.Ghosts K) (status : Status) (order : List Entry) (not_saved : Option DiskError) (failed : Bool) (old new : List (Port S K)) (reports : List LaneReport)
    (runs : List Run) (events : List Event) (by : status ≡ first_of (run_facts order (endings_of reports) not_saved failed)) (each : EachRan (RanAs source sink) 0 old new reports runs events) where
  -- memory, an entry of it, a lane that ended by it
  abbrev a : Bool
  a = is_short order (endings_of reports) not_saved

  abbrev a2 : Bool
  a2 = has_kind 2 order

  abbrev ends : Bool
  ends = some_tells statuses.NoMemory (endings_of reports)

  -- the disk, the remote
  abbrev c : Bool
  c = has_disk_fault order not_saved

  abbrev g : Bool
  g = has_kind 7 order

  abbrev source_tells : Bool
  source_tells = some_tells statuses.SourceFault (endings_of reports)

  abbrev lane_tells : Bool
  lane_tells = some_tells statuses.SinkFault (endings_of reports)

  abbrev sink_tells : Bool
  sink_tells = failed || lane_tells

  abbrev long_tells : Bool
  long_tells = some_tells statuses.SourceTooLong (endings_of reports)

  abbrev place_tells : Bool
  place_tells = some_tells statuses.BadFrame (endings_of reports)

  abbrev s : Status
  s = ended source_tells sink_tells long_tells place_tells

  last : (t : Status) → (statuses.NoMemory ≡ t → ⊥) → (statuses.DiskFault ≡ t → ⊥) → (statuses.RemoteFault ≡ t → ⊥) → status ≡ t → IsLast a c g s t
  last t memory disk remote is = last_chosen a c g s t memory disk remote (sym by ∙ is)

  calm : (t : Status) → IsLast a c g s t → IsPlace source_tells sink_tells long_tells → IsCalm order not_saved failed
  calm t l p =
      let short = neither (a2 || ends) (is_wanting not_saved) l.short_is in
      let disk = neither (has_kind 5 order) (is_failed not_saved) l.disk_is in
      record {
        memory = (neither a2 ends short.0).0;
        disk = disk.0;
        remote = l.remote_is;
        saved = saved_by not_saved short.1 disk.1;
        journal = (neither failed lane_tells p.sink_is).0;
      }

  unfailed : (t : Status) → IsLast a c g s t → IsPlace source_tells sink_tells long_tells → NoneFailed reports
  unfailed t l p = record {
    memory = (neither a2 ends (neither (a2 || ends) (is_wanting not_saved) l.short_is).0).1;
    source = p.source_is;
    sink = (neither failed lane_tells p.sink_is).1;
    long = p.long_is;
  }

  -- and so it is answered
  answered : NoneFailed reports → IsCalm order not_saved failed → (x : Bool) → place_tells ≡ x → (t : Status) → ended false false false x ≡ t → status ≡ t
  answered n calm x place t is =
      by ∙ calm_chosen a c g s
      (both_false (a2 || ends) (is_wanting not_saved) (both_false a2 ends calm.memory n.memory) (ap is_wanting calm.saved))
      (both_false (has_kind 5 order) (is_failed not_saved) calm.disk (ap is_failed calm.saved)) calm.remote
      ∙ place_ended source_tells sink_tells long_tells place_tells (record { source_is = n.source; sink_is = both_false failed lane_tells calm.journal n.sink; long_is = n.long })
      ∙ ap (λ y. ended false false false y) place ∙ is

  -- ---- nothing failed

  ok_then : status ≡ statuses.Ok → All (λ r. r.ending ≡ endings.Clean) reports × IsCalm order not_saved failed
  ok_then is =
      let l = last statuses.Ok (λ e. cc) (λ e. cc) (λ e. cc) is in
      let place = ended_ok source_tells sink_tells long_tells place_tells l.status in
      (all_clean reports (unfailed statuses.Ok l place.0) place.1, calm statuses.Ok l place.0)

  then_ok : All (λ r. r.ending ≡ endings.Clean) reports → IsCalm order not_saved failed → status ≡ statuses.Ok
  then_ok clean calm = answered (none_failed reports (clean_served reports clean)) calm false (none_broken reports clean) statuses.Ok refl

  broken_then : status ≡ statuses.BadFrame → SomeReaches 0 runs events × All (λ r. HasNotFailed r.ending) reports × IsCalm order not_saved failed
  broken_then is =
      let l = last statuses.BadFrame (λ e. cc) (λ e. cc) (λ e. cc) is in
      let place = ended_broken source_tells sink_tells long_tells place_tells l.status in (
        some_reached source sink 0 old new reports runs events each place.1,
        all_served reports (unfailed statuses.BadFrame l place.0),
        calm statuses.BadFrame l place.0,
      )

  then_broken : SomeReaches 0 runs events → All (λ r. HasNotFailed r.ending) reports → IsCalm order not_saved failed → status ≡ statuses.BadFrame
  then_broken reaches served calm =
      answered (none_failed reports served) calm true (some_broken source sink 0 old new reports runs events each served reaches) statuses.BadFrame refl

  -- ---- want of memory

  wants : (a2 ≡ true) ⊎ (not_saved ≡ Some disks.NoMemory) → a ≡ true
  wants (inl is) = or_first (a2 || ends) (is_wanting not_saved) (or_first a2 ends is)
  wants (inr is) = or_later (a2 || ends) (is_wanting not_saved) (ap is_wanting is)

  short : (ends ≡ true → a2 ≡ true) → a ≡ true → (a2 ≡ true) ⊎ (not_saved ≡ Some disks.NoMemory)
  short entered is = elim (either (a2 || ends) (is_wanting not_saved) is) [
    | inl x ↦ inl (elim (either a2 ends x) [ inl y ↦ y | inr y ↦ entered y ])
    | inr x ↦ inr (wanting_is not_saved x)
  ]

  -- ---- the whole

  disk_rose : (disk disk' : ℕ) → (has_kind 5 order ≡ true → Rose disk disk') → (not_saved ≡ Some disks.Failed → Rose disk disk') → c ≡ true → Rose disk disk'
  disk_rose disk disk' faults unsaved is = elim (either (has_kind 5 order) (is_failed not_saved) is) [
    | inl x ↦ faults x
    | inr x ↦ unsaved (failed_is not_saved x)
  ]

  sink_rose : sink_tells ≡ true → SomeFailed (λ p. sink.faults p.sink) endings.SinkFault old new reports ⊎ (failed ≡ true)
  sink_rose is = elim (either failed lane_tells is) [
    | inl x ↦ inr x
    | inr x ↦ inl (sink_failed source sink 0 old new reports runs events each x)
  ]

  pub caused : (disk disk' remote remote' : ℕ)
      → (has_kind 5 order ≡ true → Rose disk disk')
      → (not_saved ≡ Some disks.Failed → Rose disk disk')
      → (has_kind 7 order ≡ true → Rose remote remote')
      → (some_tells statuses.NoMemory (endings_of reports) ≡ true → has_kind 2 order ≡ true)
      → HasCause source sink status order not_saved failed old new reports runs events disk disk' remote remote'
  caused disk disk' remote remote' faults unsaved reads memory = record {
    ok = (ok_then, λ is. then_ok is.0 is.1);
    bad_frame = (broken_then, λ is. then_broken is.0 is.1 is.2);
    disk_fault = λ is. disk_rose disk disk' faults unsaved (disk_chosen a c g s (no_disk source_tells sink_tells long_tells place_tells) (sym by ∙ is));
    remote_fault = λ is. reads (remote_chosen a c g s (no_remote source_tells sink_tells long_tells place_tells) (sym by ∙ is));
    source_fault = λ is.
        let l = last statuses.SourceFault (λ e. cc) (λ e. cc) (λ e. cc) is in
        source_failed source sink 0 old new reports runs events each (ended_source source_tells sink_tells long_tells place_tells l.status);
    sink_fault = λ is.
        let l = last statuses.SinkFault (λ e. cc) (λ e. cc) (λ e. cc) is in
        sink_rose (ended_sink source_tells sink_tells long_tells place_tells l.status);
    no_memory = (
      λ is. short memory (memory_chosen a c g s (no_memory source_tells sink_tells long_tells place_tells) (sym by ∙ is)),
      λ is. by ∙ ap (λ x. chosen x c g s) (wants is),
    );
    too_long = λ is.
        let l = last statuses.SourceTooLong (λ e. cc) (λ e. cc) (λ e. cc) is in
        too_long source sink 0 old new reports runs events each (ended_long source_tells sink_tells long_tells place_tells l.status);
  }

-- ---- where the journal fails too

-- what comes before a sink's fault stays, and else this is told
kept_or_sink : (s : Status) → (beside_sink s ≡ s) ⊎ (beside_sink s ≡ statuses.SinkFault)
kept_or_sink statuses.Ok = inr refl
kept_or_sink statuses.BadFrame = inr refl
kept_or_sink statuses.Usage = inl refl
kept_or_sink statuses.DiskFault = inl refl
kept_or_sink statuses.SourceFault = inl refl
kept_or_sink statuses.SinkFault = inr refl
kept_or_sink statuses.NoMemory = inl refl
kept_or_sink statuses.TooManyLanes = inl refl
kept_or_sink statuses.Unequal = inr refl
kept_or_sink statuses.SourceTooLong = inr refl
kept_or_sink statuses.RemoteFault = inl refl
kept_or_sink statuses.BadOrder = inr refl

was : (s t : Status) → (statuses.SinkFault ≡ t → ⊥) → beside_sink s ≡ t → s ≡ t
was s t other is = elim (kept_or_sink s) [ inl same ↦ sym same ∙ is | inr sink ↦ absurd (other (sym sink ∙ is)) ]

-- a status that comes behind it is not told
hidden : (s t : Status) → (statuses.SinkFault ≡ t → ⊥) → beside_sink t ≡ statuses.SinkFault → beside_sink s ≡ t → ⊥
hidden s t other sink is = other (sym sink ∙ ap beside_sink (sym (was s t other is)) ∙ is)

pub caused_beside : {S K : Type 0} (source : sources.Ghosts S) (sink : sinks.Ghosts K) (status : Status) (order : List Entry) (not_saved : Option DiskError)
    (old new : List (Port S K)) (reports : List LaneReport) (runs : List Run) (events : List Event) (disk disk' remote remote' : ℕ)
    → HasCause source sink status order not_saved false old new reports runs events disk disk' remote remote'
    → HasCause source sink (beside_sink status) order not_saved true old new reports runs events disk disk' remote remote'
caused_beside source sink status order not_saved old new reports runs events disk disk' remote remote' h = record {
  ok = (λ is. absurd (hidden status statuses.Ok (λ e. cc) refl is), λ is. absurd (true≢false (is.1).journal));
  bad_frame = (λ is. absurd (hidden status statuses.BadFrame (λ e. cc) refl is), λ is. absurd (true≢false (is.2).journal));
  disk_fault = λ is. h.disk_fault (was status statuses.DiskFault (λ e. cc) is);
  remote_fault = λ is. h.remote_fault (was status statuses.RemoteFault (λ e. cc) is);
  source_fault = λ is. h.source_fault (was status statuses.SourceFault (λ e. cc) is);
  sink_fault = λ is. inr refl;
  no_memory = (λ is. (h.no_memory).0 (was status statuses.NoMemory (λ e. cc) is), λ is. ap beside_sink ((h.no_memory).1 is));
  too_long = λ is. absurd (hidden status statuses.SourceTooLong (λ e. cc) refl is);
}

-- the disk failed as the book was saved: the count rose in the whole
pub save_told : (order : List Entry) (not_saved : Option DiskError) (disk before after disk' : ℕ) → (has_kind 5 order ≡ true → not_saved ≡ None)
    → disk ≤ before → (not_saved ≡ Some disks.Failed → Rose before after) → disk' ≡ after → SaveIsTold order not_saved disk disk'
save_told order not_saved disk before after disk' halted later rose disk_after = record {
  halted = halted;
  faults = λ is. subst (Rose disk) (sym disk_after) (rose_later disk before after later (rose is));
}
