-- Sessions that were served, and a check of them.
use Rattle.disk_trait.specs.declared.disk.Disk.{Ghosts}
use Rattle.std.specs.Prelude.{◌≡◌, ◌≤◌, ℕ, List, [], ◌++◌, ◌+◌, map, length, Option, Some}
use Rattle.std.specs.List.{All, range_with_len}
use Rattle.command_line.specs.Reading.{IsCount}
use Rattle.port_traits.specs.declared.sink.Sink as sinks
use Rattle.port_traits.specs.declared.source.Source as sources
use Rattle.port_traits.specs.Readings.{Readings}
use Rattle.store_files.specs.Archive.{Snapshot}
use Rattle.store_model.specs.Clash.{NoClash, chunk_pieces}
use Rattle.store_model.specs.Stands.{StandsFor}
use Rattle.store_model.specs.Store.{lane_count}
use Rattle.store_history.specs.History.{sent}
use Rattle.store_history.specs.RemoteDisk.{ShowsRemote}
use Rattle.generator.specs.Sessions.{generated}
use Rattle.store_history.specs.declared.port.LaneReport.{LaneReport}
use Rattle.store_history.specs.declared.port.Port.{Port}
use Rattle.run_check.specs.Checks.{loaded}
use Rattle.pbs_server.specs.declared.served.Served.{Served}
use Rattle.pbs_server.specs.declared.status.Status.TheVariants as statuses
use Rattle.pbs_server.specs.Completeness.{ReplaysEqual}
use Rattle.pbs_server.specs.Generating.{HasGenerated, replies_of}
use Rattle.pbs_server.specs.Headline.{HasServed}

-- All that the sessions' sources had left, also what was not read, and what their sinks took, which had taken nothing before.
pub record WereHeld {S K : Type 0} (source : sources.Ghosts S) (sink : sinks.Ghosts K) (old new : List (Port S K)) (inputs kept : List (List ℕ)) : Type 0 where
  pub inputs_are : map (λ p. source.left p.source) old ≡ map Some inputs
  pub empty : All (λ p. sink.taken p.sink ≡ Some []) old
  pub kept_are : map (λ p. sink.taken p.sink) new ≡ map Some kept

-- Of sessions that were served and answered Ok, on an honest disk that stands for a list, beside an honest remote that does, where there is one,
-- and where no two unequal pieces have one digest: the replay of the returned order, over what the disks were handed in with, differs nowhere from
-- what the sinks took.
abbrev pub RunsCheckEqual : {D E S K : Type 0} → Ghosts D → Ghosts E → sources.Ghosts S → sinks.Ghosts K → Type 0
RunsCheckEqual {D} {E} {S} {K} d e source sink =
    (readings : Option Readings) (disk : D) (remote : Option E) (old new : List (Port S K)) (reports : List LaneReport) (result : Served D E) (inputs kept : List (List ℕ))
    (L : List Snapshot) (R : Option (List Snapshot)) (served : HasServed d e source sink readings disk remote old new reports result) →
    result.status ≡ statuses.Ok → length old ≤ lane_count →
    d.honest disk → StandsFor (d.content disk) L → ShowsRemote e remote R → NoClash (chunk_pieces (d.content disk) ++ sent (served.told).events) →
    WereHeld source sink old new inputs kept →
    ReplaysEqual (d.content disk) (loaded e remote) (result.order).items inputs kept

-- The same of sessions that the program made, those of lanes 0 to n: their inputs are the made ones, and what was kept is what their sinks took.
abbrev pub MadeRunsCheckEqual : {D E J : Type 0} → Ghosts D → Ghosts E → sinks.Ghosts J → Type 0
MadeRunsCheckEqual {D} {E} {J} d e journal =
    (n : ℕ) (disk : D) (remote : Option E) (before after : J) (result : Served D E) (L : List Snapshot) (R : Option (List Snapshot))
    (made : HasGenerated d e journal n disk remote before after result) →
    result.status ≡ statuses.Ok → IsCount n →
    d.honest disk → StandsFor (d.content disk) L → ShowsRemote e remote R → NoClash (chunk_pieces (d.content disk) ++ sent ((made.served).told).events) →
    ReplaysEqual (d.content disk) (loaded e remote) (result.order).items (map generated (range_with_len 0 (n + 1))) (replies_of made.after)
