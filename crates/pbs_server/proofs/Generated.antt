-- Sessions that ended, those that the program made among them.
use Rattle.disk_trait.specs.declared.disk.Disk.{Ghosts}
use Rattle.std.proofs.Common.{◌≡◌, ◌≤◌, ◌+◌, ◌↔◌, inl, inr, ℕ, Bool, true, false, List, [], ◌++◌, map, length, Option, None, Some, IfSome, refl, sym, ap, subst, ◌∙◌, arith}
use Rattle.std.specs.Prelude.{String}
use Rattle.std.proofs.lemmas.List.FromFn.{length-map-range_with_len}
use Rattle.std.specs.declared.alloc.Global.{Global}
use Rattle.port_traits.specs.declared.sink.Sink as sinks
use Rattle.port_traits.specs.declared.source.Source as sources
use Rattle.port_traits.specs.Readings.{Readings}
use Rattle.store_files.specs.Archive.{Snapshot}
use Rattle.store_model.specs.AdminSteps.{list_row}
use Rattle.store_model.specs.Clash.{NoClash, chunk_pieces}
use Rattle.store_model.specs.Stands.{StandsFor as Stands}
use Rattle.store_history.specs.History.{sent}
use Rattle.core_opening.specs.declared.opening.OpenFault.{OpenFault}
use Rattle.snapshot_files.specs.Leaving.{MayClean}
use Rattle.store_history.specs.declared.port.LaneReport.{LaneReport}
use Rattle.store_history.specs.declared.port.Port.{Port}
use Rattle.command_line.specs.Reading.{IsCount, texts}
use Rattle.generator.specs.Summaries.{summary_text}
use Rattle.pbs_server.specs.declared.ended.Ended.{Ended}
use Rattle.pbs_server.specs.declared.served.Served.{Served}
use Rattle.pbs_server.specs.declared.status.Status.{Status}
use Rattle.pbs_server.specs.declared.status.Status.TheVariants as statuses
use Rattle.pbs_server.specs.Asking.{LeavesBy}
use Rattle.pbs_server.specs.Ended.{HasEnded, NoneServed, rows_in, served_of}
use Rattle.pbs_server.specs.Generating.{LeavesGenerated, MadePort, TellsEnded, TellsSummary, all_as_memory, cut_off, memory_status, no_memory, not_ok, port_of, ports_of, replies_of, sink_told, source_told, still, written}
use Rattle.pbs_server.specs.Headline.{AsksNone, HasNotServed, HasServed, IsBeside, Leaves, StopsUnserved}
use Rattle.pbs_server.specs.Journal.{TellsOrder}
use Rattle.pbs_server.specs.Statuses.{endings_of, status_of_opening}
use Rattle.pbs_server.specs.Words.{AsksMade, AsksTooMany, IsCheck, IsMade, IsMisused, IsUnread, TellsJust}
use Rattle.pbs_server.proofs.Leaving.{leaves_served, memory_asks}
use Rattle.pbs_server.proofs.Statuses.{served_asks}
use Rattle.pbs_server.proofs.Words.{made_check, made_many, run_made}

-- ---- sessions that ended

module _ {D E C S K : Type 0} (d : Ghosts D) (e : Ghosts E) (source : sources.Ghosts S) (sink : sinks.Ghosts K) (readings : Option Readings) (disk : D) (remote : Option E) (old new : List (Port S K)) where
  module _ (x : Ended D E C) where
    -- the rows of the core are those of the last plain store
    abbrev RowsAre : (reports : List LaneReport) → HasServed d e source sink readings disk remote old new reports (served_of x) → Type 0
    RowsAre reports served = (L : List Snapshot) (R : Option (List Snapshot)) (beside : IsBeside e remote R (served.told).events) (honest : d.honest disk) (stands : Stands (d.content disk) L)
        (clear : NoClash (chunk_pieces (d.content disk) ++ sent (served.told).events)) → rows_in x ≡ map list_row ((served.plain L R beside honest stands clear).store).snapshots

    abbrev Both : List LaneReport → Type 0
    Both reports = (served : HasServed d e source sink readings disk remote old new reports (served_of x)) × RowsAre reports served × (1 ≤ length reports)

    -- the reports that are kept are those that were given
    pub ended_of : (reports : List LaneReport) → (x.lanes).items ≡ reports → 1 ≤ length reports → (served : HasServed d e source sink readings disk remote old new reports (served_of x))
        → RowsAre reports served → HasEnded d e source sink readings disk remote old new x
    ended_of reports given some served rows =
        let both = subst Both (sym given) (served, rows, some) in
        record { some = both.2; served = both.0; rows_are = both.1 }

  pub leaves_ended : (x : Ended D E C) (result : Served D E) → result ≡ served_of x → HasEnded d e source sink readings disk remote old new x
      → Leaves d e source sink readings disk remote result old new ((result.report).lanes).items
  leaves_ended x result is h =
      subst (λ r. Leaves d e source sink readings disk remote r old new ((r.report).lanes).items) (sym is)
      (leaves_served d e source sink readings disk remote (served_of x) old new (x.lanes).items h.some h.served)

pub leaves_handed : {D E S K : Type 0} (d : Ghosts D) (e : Ghosts E) (source : sources.Ghosts S) (sink : sinks.Ghosts K) (readings : Option Readings) (disk : D) (remote : Option E) (old new : List (Port S K)) (result : Served D E)
    → NoneServed d disk remote old new result → Leaves d e source sink readings disk remote result old new ((result.report).lanes).items
leaves_handed d e source sink readings disk remote old new result none =
    subst (λ xs. Leaves d e source sink readings disk remote result old new xs) (sym none.lanes) none.leaves

pub ended_asks : {D E C : Type 0} (x : Ended D E C) (result : Served D E) → result ≡ served_of x → AsksNone result.status → ⊥
ended_asks x result is asks =
    served_asks (((x.core).journal).entries).items (endings_of (x.lanes).items) x.not_saved false (subst AsksNone (ap (λ r. r.status) is) asks)

-- ---- none was served

module _ {D E : Type 0} (d : Ghosts D) (disk : D) (remote : Option E) (result : Served D E) where
  -- nothing was done
  pub unheld : {P : Type 0} (ports : List P) → result.status ≡ statuses.NoMemory → (result.report).not_opened ≡ None → (result.report).not_saved ≡ None → (result.order).items ≡ []
      → ((result.report).lanes).items ≡ [] → ((result.report).calls).items ≡ [] → (result.report).journal_failed ≡ false → (result.report).unequal ≡ None
      → result.disk ≡ disk → result.remote ≡ remote → NoneServed d disk remote ports ports result
  unheld ports status not_opened not_saved order lanes calls journal unequal disk_is remote_is = record {
    leaves = record {
      status = inr (inl status);
      order = order;
      calls = calls;
      not_saved = not_saved;
      ports = refl;
      remote_is = remote_is;
      disk_is = λ asks. disk_is;
      serves = record {
        kept = subst (λ x. d.honest disk ↔ d.honest x) (sym disk_is) (λ h. h, λ h. h);
        count = let e = ap d.faults disk_is in omega (arith, e);
        cause = λ fault. absurd (apart (sym status ∙ fault));
      };
      stops = subst (StopsUnserved d disk result.disk) (sym not_opened) disk_is;
      why = subst (λ (o : Option OpenFault). IfSome o (λ fault. result.status ≡ status_of_opening fault)) (sym not_opened) tt;
      left = λ honest calm. subst (λ x. MayClean (d.content disk) (d.content disk) (d.content x)) (sym disk_is) (λ q. inl refl);
    };
    status = memory_asks result.status status;
    lanes = lanes;
    journal = journal;
    unequal = unequal;
  }
    where
      apart : statuses.NoMemory ≡ statuses.DiskFault → ⊥
      apart is = cc

  -- whatever ports were not read
  pub not_served_by : {P Q : Type 0} (old new : List P) (ports : List Q) → HasNotServed d disk remote old new result → HasNotServed d disk remote ports ports result
  not_served_by old new ports h = record {
    status = h.status;
    order = h.order;
    calls = h.calls;
    not_saved = h.not_saved;
    ports = refl;
    remote_is = h.remote_is;
    disk_is = h.disk_is;
    serves = h.serves;
    stops = h.stops;
    why = h.why;
    left = h.left;
  }

  pub none_by : {P Q : Type 0} (old new : List P) (ports : List Q) → NoneServed d disk remote old new result → NoneServed d disk remote ports ports result
  none_by old new ports n = record { leaves = not_served_by old new ports n.leaves; status = n.status; lanes = n.lanes; journal = n.journal; unequal = n.unequal }

-- ---- made sessions

pub few_ports : (n : ℕ) (ports : List MadePort) → ports ≡ ports_of n → IsCount n → length ports ≤ 64
few_ports n ports is count = let len : length ports ≡ n + 1 = ap length is ∙ length-map-range_with_len port_of 0 (n + 1) in let most = count.1 in omega (arith, len, most)

module _ {D E J : Type 0} (d : Ghosts D) (e : Ghosts E) (sink : sinks.Ghosts J) (n : ℕ) (disk : D) (remote : Option E) where
  pub generated_of : {C : Type 0} (x : Ended D E C) (before after : List MadePort) (readings : Readings) (old new : J) (result : Served D E) → before ≡ ports_of n → readings ≡ still
      → HasEnded d e source_told sink_told (Some readings) disk remote before after x → TellsEnded sink x after old new result → LeavesGenerated d e sink n disk remote old new result
  generated_of x before after readings old new result made stands h told =
      let ended = subst (λ r. HasEnded d e source_told sink_told (Some r) disk remote (ports_of n) after x) stands
      (subst (λ ports. HasEnded d e source_told sink_told (Some readings) disk remote ports after x) made h) in
      inl (record { after = after; ran = served_of x; served = ended.served; rows = rows_in x; rows_are = ended.rows_are; journal = told.journal; rest = told.rest })

  pub none_generated : {P : Type 0} (before after : List P) (old : J) (result : Served D E) → NoneServed d disk remote before after result → LeavesGenerated d e sink n disk remote old old result
  none_generated before after old result none = inr (none_by d disk remote result before after (ports_of n) none, refl)

  -- the words are not the cause
  told_asks : (ran : Status) (text : List ℕ) (old new : J) → (AsksNone ran → ⊥) → (s : Status) (b : Bool) → TellsSummary sink ran text old new s b → AsksNone s → ⊥
  told_asks ran text old new not s b (not_ok other same) asks = not asks
  told_asks ran text old new not s b (no_memory ok same) asks = memory_asks statuses.NoMemory refl asks
  told_asks ran text old new not s b (written ok told) (inl is) = cc
  told_asks ran text old new not s b (written ok told) (inr is) = cc
  told_asks ran text old new not s b (cut_off ok told) (inl is) = cc
  told_asks ran text old new not s b (cut_off ok told) (inr is) = cc

  pub generated_asks : (old new : J) (result : Served D E) → LeavesGenerated d e sink n disk remote old new result → AsksNone result.status → ⊥
  generated_asks old new result (inl g) asks =
      told_asks (memory_status g.ran) (summary_text (replies_of g.after) g.rows) old new
      (served_asks ((g.ran).order).items (endings_of (all_as_memory (((g.ran).report).lanes).items)) ((g.ran).report).not_saved false) result.status (result.report).journal_failed g.journal asks
  generated_asks old new result (inr none) asks = (none.0).status asks

-- ---- what the program's call leaves of them

module _ {D E S K J : Type 0} (d : Ghosts D) (e : Ghosts E) (source : sources.Ghosts S) (sink : sinks.Ghosts K) (journal : sinks.Ghosts J) (readings : Option Readings) (words : List (String Global)) (disk : D) (remote : Option E)
    (ports : List (Port S K)) (n : ℕ) (asks : AsksMade (texts words) (length ports) n) (before after : J) (result : Served D E) (leaves : LeavesGenerated d e journal n disk remote before after result) where
  pub leaves_made : LeavesBy d e source sink journal readings words disk remote ports ports before after result
  leaves_made = by leaves
    where
      by : LeavesGenerated d e journal n disk remote before after result → LeavesBy d e source sink journal readings words disk remote ports ports before after result
      by (inl g) = inl (record { n = n; asks = asks; generated = g; ports = refl })
      by (inr none) = inr (inr (record {
        others = λ made. (none.0).lanes;
        no_check = λ check. absurd (made_check (texts words) (length ports) (n, asks) check.0);
        leaves = leaves_handed d e source sink readings disk remote ports ports result (none_by d disk remote result (ports_of n) (ports_of n) ports none.0);
        journal_is = inr (λ other. absurd (run_made (texts words) (length ports) true other.0 (n, asks)), none.1, (none.0).journal);
      }))

  pub usage_made : TellsJust result statuses.Usage (IsMisused words (length ports))
  usage_made = (λ is. absurd (generated_asks d e journal n disk remote before after result leaves (inl is)), λ misused. absurd (misused (inr (inl (n, asks)))))

  pub many_made : TellsJust result statuses.TooManyLanes (AsksTooMany words (length ports))
  many_made =
      (λ is. absurd (generated_asks d e journal n disk remote before after result leaves (inr is)), λ many. absurd (made_many (texts words) (length ports) (n, asks) many))

-- those of the ports
pub leaves_ports : {D E S K J : Type 0} (d : Ghosts D) (e : Ghosts E) (source : sources.Ghosts S) (sink : sinks.Ghosts K) (journal : sinks.Ghosts J) (readings : Option Readings) (words : List (String Global)) (disk : D) (remote : Option E)
    (old new : List (Port S K)) (before after : J) (result : Served D E) → (IsMade (texts words) (length old) → ((result.report).lanes).items ≡ []) → (IsCheck words (length old) → IsUnread result)
    → Leaves d e source sink readings disk remote result old new ((result.report).lanes).items → TellsOrder journal words (length old) before after result
    → LeavesBy d e source sink journal readings words disk remote old new before after result
leaves_ports d e source sink journal readings words disk remote old new before after result others no_check leaves tells =
    inr (inr (record { others = others; no_check = no_check; leaves = leaves; journal_is = tells }))
