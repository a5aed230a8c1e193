-- Where nothing fails, all is well.
use Rattle.disk_trait.specs.declared.disk.Disk.{Ghosts}
use Rattle.disk_trait.specs.Files.{Files}
use Rattle.std.specs.Prelude.{◌≡◌, ◌⊎◌, ℕ, ◌+◌, ◌*◌, ◌^◌, ◌<◌, ◌≤◌, false, List, [], length, map, Option, Some, None, slice_index_or, String}
use Rattle.std.specs.declared.alloc.Global.{Global}
use Rattle.std.specs.List.{All}
use Rattle.port_traits.specs.declared.sink.Sink as sinks
use Rattle.port_traits.specs.declared.source.Source as sources
use Rattle.port_traits.specs.Faults.{Rose}
use Rattle.store_types.specs.declared.order.Entry.{Entry}
use Rattle.store_files.specs.Archive.{Snapshot}
use Rattle.store_files.specs.Order.{order_text}
use Rattle.store_model.specs.declared.ending.Ending.TheVariants as endings
use Rattle.store_model.specs.Load.{load}
use Rattle.store_model.specs.Store.{lane_count}
use Rattle.store_model.specs.Weave.{told_by_input, woven}
use Rattle.generator.specs.Laws.{IsCommands}
use Rattle.plain_snapshots.specs.Loading.{has_damaged}
use Rattle.plain_store.specs.Frees.{frees}
use Rattle.store_history.specs.RemoteDisk.{faults_of}
use Rattle.command_line.specs.Reading.{texts}
use Rattle.store_history.specs.declared.port.Port.{Port}
use Rattle.replay.specs.Compare.{compare}
use Rattle.replay.specs.Orders.{faultless_order}
use Rattle.run_check.specs.Checks.{IsHonest, loaded}
use Rattle.run_check.specs.Ports.{faults_at, left_at}
use Rattle.run_check.specs.Sessions.{sessions_of}
use Rattle.pbs_server.specs.declared.served.Served.{Served}
use Rattle.pbs_server.specs.declared.status.Status.TheVariants as statuses
use Rattle.pbs_server.specs.Words.{IsAsked, IsCheck, IsMade}

-- ---- sessions

-- a source tells what it has left: commands up to BYE or to its end, in fewer than 2^40 bytes
abbrev pub HoldsCommands : Option (List ℕ) → Type 0
HoldsCommands None = ⊥
HoldsCommands (Some input) = IsCommands input × (length input < 2 ^ 40)

-- the words ask for a run that there are lanes for, and each of the ports has such a source
pub record AsksSessions {S K : Type 0} (source : sources.Ghosts S) (words : List (String Global)) (ports : List (Port S K)) : Type 0 where
  pub asks : IsAsked (texts words) (length ports)
  pub few : length ports ≤ lane_count
  pub inputs : All (λ p. HoldsCommands (source.left p.source)) ports

-- or they ask for made sessions, and there are no ports
abbrev pub CanServe : {S K : Type 0} → sources.Ghosts S → List (String Global) → List (Port S K) → Type 0
CanServe source words ports = AsksSessions source words ports ⊎ IsMade (texts words) (length ports)

-- every session ended cleanly, or memory was wanting
abbrev pub IsWell : {D E : Type 0} → Served D E → Type 0
IsWell result =
    ((result.status ≡ statuses.Ok) × All (λ r. r.ending ≡ endings.Clean) ((result.report).lanes).items) ⊎ (result.status ≡ statuses.NoMemory)

-- ---- a check

-- less than 2^40 bytes are told to be left
abbrev pub HoldsLess : Option (List ℕ) → Type 0
HoldsLess None = ⊥
HoldsLess (Some bytes) = length bytes < 2 ^ 40

-- The ports hold an order's file, and of each session an input and what was kept of its replies.
pub record HoldsRun {S K : Type 0} (source : sources.Ghosts S) (ports : List (Port S K)) (order : List Entry) (inputs kept : List (List ℕ)) : Type 0 where
  pub sessions : length inputs ≡ sessions_of ports
  pub outs : length kept ≡ sessions_of ports
  pub text_is : left_at source ports 0 ≡ Some (order_text order)
  pub inputs_are : (k : ℕ) → k < sessions_of ports → left_at source ports (1 + 2 * k) ≡ Some (slice_index_or inputs k [])
  pub kept_are : (k : ℕ) → k < sessions_of ports → left_at source ports (2 + 2 * k) ≡ Some (slice_index_or kept k [])
  pub short : (i : ℕ) → i < length ports → HoldsLess (left_at source ports i)

-- The order's file is read as this order, in which no act met a fault of the disk. No snapshot in the files is damaged. The order, replayed over
-- them and what the remote has, differs nowhere from what was kept, but for the bytes that are free.
pub record ReplaysEqual (files : Files) (remote : Option (List Snapshot)) (order : List Entry) (inputs kept : List (List ℕ)) : Type 0 where
  pub order_is : faultless_order (length inputs) (order_text order) ≡ Some order
  pub sound : has_damaged files ≡ false
  pub equal : compare (woven told_by_input (load files) remote order inputs) (frees told_by_input (load files) remote order inputs) kept ≡ None

-- the words ask for a check that there are lanes for, on honest disks, and the ports hold a run whose replay is equal
pub record CanCheck {D E S K : Type 0} (d : Ghosts D) (e : Ghosts E) (source : sources.Ghosts S) (words : List (String Global)) (disk : D) (remote : Option E) (ports : List (Port S K)) : Type 0 where
  pub asks : IsCheck words (length ports)
  pub honest : d.honest disk
  pub beside : IsHonest e remote
  pub order : List Entry
  pub inputs : List (List ℕ)
  pub kept : List (List ℕ)
  pub holds : HoldsRun source ports order inputs kept
  pub replays : ReplaysEqual (d.content disk) (loaded e remote) order inputs kept

-- ---- a call

module _ {D E S K J : Type 0} (d : Ghosts D) (e : Ghosts E) (source : sources.Ghosts S) (sink : sinks.Ghosts K) (journal : sinks.Ghosts J)
    (words : List (String Global)) (disk : D) (remote : Option E) (old new : List (Port S K)) (before after : J) (result : Served D E) where
  abbrev pub sink_faults_at : List (Port S K) → ℕ → ℕ
  sink_faults_at ports i = slice_index_or (map (λ p. sink.faults p.sink) ports) i 0

  -- no count of faults rose, nor did it stand at its greatest value
  pub record NoneRose : Type 0 where
    pub disk_is : Rose (d.faults disk) (d.faults result.disk) → ⊥
    pub remote_is : Rose (faults_of e remote) (faults_of e result.remote) → ⊥
    pub sources_are : (i : ℕ) → i < length old → Rose (faults_at source old i) (faults_at source new i) → ⊥
    pub sinks_are : (i : ℕ) → i < length old → Rose (sink_faults_at old i) (sink_faults_at new i) → ⊥
    pub journal_is : Rose (journal.faults before) (journal.faults after) → ⊥

  -- Sessions of commands, of which no part failed, are all served: `leaves` says what they are answered. A check of a run whose replay is equal
  -- tells so. Memory may be wanting.
  pub record IsComplete : Type 0 where
    pub served : CanServe source words old → NoneRose → IsWell result
    pub checked : CanCheck d e source words disk remote old → NoneRose → (result.status ≡ statuses.Ok) ⊎ (result.status ≡ statuses.NoMemory)
