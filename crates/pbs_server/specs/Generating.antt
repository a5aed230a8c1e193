-- What a run leaves of sessions that the program makes itself.
use Rattle.disk_trait.specs.declared.disk.Disk.{Ghosts}
use Rattle.std.specs.Prelude.{◌≡◌, ◌≢◌, ◌+◌, ◌-◌, ◌^◌, ◌⊎◌, ℕ, Bool, true, false, List, [], ◌++◌, map, Option, Some, Result, IfOk, Vec}
use Rattle.std.specs.List.{range_with_len}
use Rattle.port_traits.specs.declared.sink.Sink as sinks
use Rattle.port_traits.specs.declared.source.Source as sources
use Rattle.port_traits.specs.Memory.{Calls, Writing}
use Rattle.port_traits.specs.Readings.{Readings}
use Rattle.wire_commands.specs.declared.rows.ListRow.{ListRow}
use Rattle.store_files.specs.Archive.{Snapshot}
use Rattle.store_model.specs.declared.ending.Ending.{Ending}
use Rattle.store_model.specs.declared.ending.Ending.TheVariants as endings
use Rattle.store_model.specs.AdminSteps.{list_row}
use Rattle.store_model.specs.Clash.{NoClash, chunk_pieces}
use Rattle.store_model.specs.Stands.{StandsFor}
use Rattle.store_history.specs.History.{sent}
use Rattle.generator.specs.Sessions.{generated}
use Rattle.generator.specs.Summaries.{summary_text}
use Rattle.store_history.specs.declared.port.LaneReport.{LaneReport}
use Rattle.store_history.specs.declared.port.Port.{Port}
use Rattle.pbs_server.specs.declared.ended.Ended.{Ended}
use Rattle.pbs_server.specs.declared.served.Served.{Served}
use Rattle.pbs_server.specs.declared.status.Status.{Status}
use Rattle.pbs_server.specs.declared.status.Status.TheVariants as statuses
use Rattle.pbs_server.specs.Ended.{NoneServed, rows_in, served_of}
use Rattle.pbs_server.specs.Headline.{HasServed, IsBeside}
use Rattle.pbs_server.specs.Journal.{TakesText}
use Rattle.pbs_server.specs.Statuses.{endings_of, first_of, run_facts}

-- ---- the ports

-- what is told of an input that was made, of which no call fails, and of a sink in memory
abbrev pub source_told : sources.Ghosts (List ℕ)
source_told = record { left = λ bytes. Some bytes; faults = λ bytes. 0 }

abbrev pub sink_told : sinks.Ghosts Writing
sink_told = record { taken = λ s. Some s.taken; faults = λ s. (s.calls).faults }

abbrev pub MadePort : Type 0
MadePort = Port (List ℕ) Writing

-- none was made, and none fails by a list
abbrev pub no_calls : Calls
no_calls = record { failing = []; made = 0; faults = 0 }

-- that of lane k: its source has the lane's input left, and its sink took nothing
abbrev pub port_of : ℕ → MadePort
port_of k = record {
  source = generated k;
  sink = record { taken = []; most = 2 ^ 64 - 1; calls = no_calls };
}

-- those of lanes 0 to n
abbrev pub ports_of : ℕ → List MadePort
ports_of n = map port_of (range_with_len 0 (n + 1))

abbrev pub replies_of : List MadePort → List (List ℕ)
replies_of ports = map (λ p. (p.sink).taken) ports

-- a clock that stands
abbrev pub still : Readings
still = record { to_come = []; afterwards = 1_600_000_000 }

-- ---- how lanes ended

-- A sink of the program's own fails where it cannot grow: that is told as want of memory.
abbrev pub in_memory : Ending → Ending
in_memory endings.SinkFault = endings.NoMemory
in_memory ending = ending

abbrev pub as_memory : LaneReport → LaneReport
as_memory r = record r { ending = in_memory r.ending }

abbrev pub all_as_memory : List LaneReport → List LaneReport
all_as_memory reports = map as_memory reports

-- the status of the run before its summary is told
abbrev pub memory_status : {D E : Type 0} → Served D E → Status
memory_status ran = first_of (run_facts (ran.order).items (endings_of (all_as_memory ((ran.report).lanes).items)) (ran.report).not_saved false)

-- but for its status, its lanes' endings and the journal as a run left it
pub record IsInMemory {D E : Type 0} (ran result : Served D E) : Type 0 where
  pub order : result.order ≡ ran.order
  pub lanes : ((result.report).lanes).items ≡ all_as_memory ((ran.report).lanes).items
  pub calls : (result.report).calls ≡ (ran.report).calls
  pub not_opened : (result.report).not_opened ≡ (ran.report).not_opened
  pub not_saved : (result.report).not_saved ≡ (ran.report).not_saved
  pub unequal : (result.report).unequal ≡ (ran.report).unequal
  pub disk_is : result.disk ≡ ran.disk
  pub remote_is : result.remote ≡ ran.remote

-- ---- the summary

-- What the journal takes of a run with this status, where this is the summary, and what is told then: the status, and whether the journal failed.
pub data TellsSummary {J : Type 0} (sink : sinks.Ghosts J) (ran : Status) (text : List ℕ) (old new : J) : Status → Bool → Type 0 where
  -- the run was not Ok: nothing is written
  not_ok : ran ≢ statuses.Ok → new ≡ old → TellsSummary sink ran text old new ran false
  -- it was, and memory was wanting for the summary
  no_memory : ran ≡ statuses.Ok → new ≡ old → TellsSummary sink ran text old new statuses.NoMemory false
  -- it was written, whole unless the journal failed
  written : ran ≡ statuses.Ok → TakesText sink old new text false → TellsSummary sink ran text old new statuses.Ok false
  cut_off : ran ≡ statuses.Ok → TakesText sink old new text true → TellsSummary sink ran text old new statuses.SinkFault true

-- The same of a summary for which there was memory or not, where the run was Ok.
abbrev pub TellsText : {J A E : Type 0} → sinks.Ghosts J → Result (Vec ℕ A) E → J → J → Status → Bool → Type 0
TellsText sink told old new status failed = (text : List ℕ) → IfOk told (λ v. v.items ≡ text) → TellsSummary sink statuses.Ok text old new status failed

-- but for its status and the journal as before
abbrev pub IsJustTold : {D E : Type 0} → Served D E → Served D E → Type 0
IsJustTold old new = new ≡ record old { status = new.status; report = record old.report { journal_failed = (new.report).journal_failed } }

-- what is told of sessions that ended, which left these ports
pub record TellsEnded {D E C J : Type 0} (sink : sinks.Ghosts J) (x : Ended D E C) (after : List MadePort) (old new : J) (result : Served D E) : Type 0 where
  pub journal : TellsSummary sink (memory_status (served_of x)) (summary_text (replies_of after) (rows_in x)) old new result.status (result.report).journal_failed
  pub rest : IsInMemory (served_of x) result

-- ---- the whole

-- The sessions of lanes 0 to n were made and served as sessions that are handed in are, and their summary was told.
pub record HasGenerated {D E J : Type 0} (d : Ghosts D) (e : Ghosts E) (sink : sinks.Ghosts J) (n : ℕ) (disk : D) (remote : Option E) (old new : J) (result : Served D E) : Type 0 where
  pub after : List MadePort
  -- what the run left, in which a sink that could not grow is one that failed
  pub ran : Served D E
  pub served : HasServed d e source_told sink_told (Some still) disk remote (ports_of n) after ((ran.report).lanes).items ran
  -- its snapshots, as LIST tells each
  pub rows : List ListRow
  -- where the plain store is asked, they are those of the last one
  pub rows_are : (L : List Snapshot) (R : Option (List Snapshot)) (beside : IsBeside e remote R (served.told).events) (honest : d.honest disk) (stands : StandsFor (d.content disk) L)
      (clear : NoClash (chunk_pieces (d.content disk) ++ sent (served.told).events)) → rows ≡ map list_row ((served.plain L R beside honest stands clear).store).snapshots
  pub journal : TellsSummary sink (memory_status ran) (summary_text (replies_of after) rows) old new result.status (result.report).journal_failed
  pub rest : IsInMemory ran result

-- they were, or none was served, and then nothing is written
abbrev pub LeavesGenerated : {D E J : Type 0} → Ghosts D → Ghosts E → sinks.Ghosts J → ℕ → D → Option E → J → J → Served D E → Type 0
LeavesGenerated d e sink n disk remote old new result =
    HasGenerated d e sink n disk remote old new result ⊎ (NoneServed d disk remote (ports_of n) (ports_of n) result × (new ≡ old))
