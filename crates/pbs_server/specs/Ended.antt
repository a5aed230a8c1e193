-- Sessions that have ended, before what was handed in is handed back.
use Rattle.disk_trait.specs.declared.disk.Disk.{Ghosts}
use Rattle.std.specs.Prelude.{◌≡◌, ◌≤◌, false, List, [], ◌++◌, map, length, Option, None}
use Rattle.port_traits.specs.declared.sink.Sink as sinks
use Rattle.port_traits.specs.declared.source.Source as sources
use Rattle.port_traits.specs.Readings.{Readings}
use Rattle.wire_commands.specs.declared.rows.ListRow.{ListRow}
use Rattle.store_files.specs.Archive.{Snapshot}
use Rattle.store_model.specs.AdminSteps.{list_row}
use Rattle.store_model.specs.Clash.{NoClash, chunk_pieces}
use Rattle.store_model.specs.Stands.{StandsFor}
use Rattle.store_history.specs.History.{sent}
use Rattle.core_state.specs.declared.kept.Listed.{Listed}
use Rattle.core_admin.specs.Listings.{row_of}
use Rattle.store_history.specs.declared.port.Port.{Port}
use Rattle.pbs_server.specs.declared.ended.Ended.{Ended}
use Rattle.pbs_server.specs.declared.served.Served.{Served}
use Rattle.pbs_server.specs.Headline.{AsksNone, HasNotServed, HasServed, IsBeside}
use Rattle.pbs_server.specs.Statuses.{endings_of, first_of, run_facts}

-- what is handed back
abbrev pub served_of : {D E C : Type 0} → Ended D E C → Served D E
served_of x = record {
  status = first_of (run_facts (((x.core).journal).entries).items (endings_of (x.lanes).items) x.not_saved false);
  order = ((x.core).journal).entries;
  report = record {
    lanes = x.lanes;
    calls = ((x.core).journal).calls;
    not_opened = None;
    not_saved = x.not_saved;
    journal_failed = false;
    unequal = None;
  };
  disk = ((x.core).parts).disk;
  remote = (x.core).remote;
}

-- ---- the snapshots

-- as LIST tells each
abbrev pub rows_of : List Listed → List ListRow
rows_of listed = map (λ x. row_of x.kept) listed

-- those that the core keeps
abbrev pub rows_in : {D E C : Type 0} → Ended D E C → List ListRow
rows_in x = rows_of (((x.core).parts).catalogue).listed

-- ---- the whole

-- The sessions of these ports were served, and the snapshots that the core keeps are those of the last plain store.
pub record HasEnded {D E C S K : Type 0} (d : Ghosts D) (e : Ghosts E) (source : sources.Ghosts S) (sink : sinks.Ghosts K) (readings : Option Readings) (disk : D) (remote : Option E)
    (old new : List (Port S K)) (x : Ended D E C) : Type 0 where
  pub some : 1 ≤ length (x.lanes).items
  pub served : HasServed d e source sink readings disk remote old new (x.lanes).items (served_of x)
  pub rows_are : (L : List Snapshot) (R : Option (List Snapshot)) (beside : IsBeside e remote R (served.told).events) (honest : d.honest disk) (stands : StandsFor (d.content disk) L)
      (clear : NoClash (chunk_pieces (d.content disk) ++ sent (served.told).events)) → rows_in x ≡ map list_row ((served.plain L R beside honest stands clear).store).snapshots

-- None was served, for want of memory or since the datastore was not opened.
pub record NoneServed {D E P : Type 0} (d : Ghosts D) (disk : D) (remote : Option E) (old new : List P) (result : Served D E) : Type 0 where
  pub leaves : HasNotServed d disk remote old new result
  pub status : AsksNone result.status → ⊥
  pub lanes : ((result.report).lanes).items ≡ []
  pub journal : (result.report).journal_failed ≡ false
  pub unequal : (result.report).unequal ≡ None
