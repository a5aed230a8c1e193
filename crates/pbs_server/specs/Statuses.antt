-- The status of a run.
use Rattle.std.specs.Prelude.{ℕ, Bool, true, false, ◌==◌, ◌||◌, List, map, codes, if◌then◌else◌, Option, Some}
use Rattle.std.specs.List.{list_any}
use Rattle.disk_trait.specs.declared.disk.DiskError.{DiskError}
use Rattle.disk_trait.specs.declared.disk.DiskError.TheVariants as disks
use Rattle.store_types.specs.declared.order.Entry.{Entry}
use Rattle.store_model.specs.declared.ending.Ending.{Ending}
use Rattle.store_model.specs.declared.ending.Ending.TheVariants as endings
use Rattle.core_opening.specs.declared.opening.OpenFault.{OpenFault}
use Rattle.core_opening.specs.declared.opening.OpenFault.TheVariants as openings
use Rattle.store_history.specs.declared.port.LaneReport.{LaneReport}
use Rattle.lane.specs.Entries.{has_kind}
use Rattle.pbs_server.specs.declared.status.Status.{Status}
use Rattle.pbs_server.specs.declared.status.Status.TheVariants as statuses

abbrev pub number_of : Status → ℕ
number_of statuses.Ok = 0
number_of statuses.BadFrame = 1
number_of statuses.Usage = 2
number_of statuses.DiskFault = 3
number_of statuses.SourceFault = 4
number_of statuses.SinkFault = 5
number_of statuses.NoMemory = 6
number_of statuses.TooManyLanes = 7
number_of statuses.Unequal = 8
number_of statuses.SourceTooLong = 9
number_of statuses.RemoteFault = 10
number_of statuses.BadOrder = 11

-- ---- by how lanes ended

abbrev pub endings_of : List LaneReport → List Ending
endings_of reports = map (λ r. r.ending) reports

-- of a run of one lane, by its ending alone
abbrev pub status_of_ending : Ending → Status
status_of_ending endings.Clean = statuses.Ok
status_of_ending (endings.Broken place) = statuses.BadFrame
status_of_ending endings.SourceFault = statuses.SourceFault
status_of_ending endings.SinkFault = statuses.SinkFault
status_of_ending endings.SourceTooLong = statuses.SourceTooLong
status_of_ending endings.NoMemory = statuses.NoMemory

-- the ending is of this status
abbrev pub tells : Status → Ending → Bool
tells status ending = number_of (status_of_ending ending) == number_of status

-- a lane ended so
abbrev pub some_tells : Status → List Ending → Bool
some_tells status all = list_any (tells status) all

-- ---- which of several

-- what may be true of a call, in the order in which it is told
pub record Facts : Type 0 where
  -- the words have no reading, or ask for another number of ports than there are
  pub misused : Bool
  -- there are more sessions than lanes
  pub many : Bool
  -- memory was wanting
  pub short : Bool
  -- the disk failed, or the remote's
  pub disk : Bool
  pub remote : Bool
  -- a source failed, or a sink
  pub source : Bool
  pub sink : Bool
  -- a source has too many bytes
  pub long : Bool
  -- the order's file is none, or doesn't belong to the datastore
  pub bad_order : Bool
  -- on a lane something stands that isn't a command
  pub broken : Bool
  -- replayed and kept replies differ
  pub unequal : Bool

-- the first that is true
abbrev pub first_of : Facts → Status
first_of f =
    if f.misused then statuses.Usage else
    if f.many then statuses.TooManyLanes else
    if f.short then statuses.NoMemory else
    if f.disk then statuses.DiskFault else
    if f.remote then statuses.RemoteFault else
    if f.source then statuses.SourceFault else
    if f.sink then statuses.SinkFault else
    if f.long then statuses.SourceTooLong else
    if f.bad_order then statuses.BadOrder else
    if f.broken then statuses.BadFrame else
    if f.unequal then statuses.Unequal else
    statuses.Ok

-- nothing is true of it
abbrev pub no_facts : Facts
no_facts = record {
  misused = false;
  many = false;
  short = false;
  disk = false;
  remote = false;
  source = false;
  sink = false;
  long = false;
  bad_order = false;
  broken = false;
  unequal = false;
}

-- by how lanes ended: a source failed, a sink, a source has too many bytes, on a lane something stands that isn't a command
abbrev pub endings_facts : List Ending → Facts
endings_facts all = record no_facts {
  source = some_tells statuses.SourceFault all;
  sink = some_tells statuses.SinkFault all;
  long = some_tells statuses.SourceTooLong all;
  broken = some_tells statuses.BadFrame all;
}

-- why the book was not saved: want of memory, or the disk
abbrev pub is_wanting : Option DiskError → Bool
is_wanting (Some disks.NoMemory) = true
is_wanting _ = false

abbrev pub is_failed : Option DiskError → Bool
is_failed (Some disks.Failed) = true
is_failed _ = false

-- an entry of kind 2, a lane that ended by want of memory, or a book that was not saved for it
abbrev pub is_short : List Entry → List Ending → Option DiskError → Bool
is_short order all not_saved = has_kind 2 order || some_tells statuses.NoMemory all || is_wanting not_saved

-- an entry of kind 5, or a book that was not saved for a fault of the disk
abbrev pub has_disk_fault : List Entry → Option DiskError → Bool
has_disk_fault order not_saved = has_kind 5 order || is_failed not_saved

-- Of a run: what its order, the lanes' endings, the saving of the book and the journal tell. A read of the remote that failed is an entry of
-- kind 7.
abbrev pub run_facts : List Entry → List Ending → Option DiskError → Bool → Facts
run_facts order all not_saved journal_failed = record (endings_facts all) {
  short = is_short order all not_saved;
  disk = has_disk_fault order not_saved;
  remote = has_kind 7 order;
  sink = journal_failed || some_tells statuses.SinkFault all;
}

-- the status where the journal failed too: what comes before a sink's fault stays
abbrev pub beside_sink : Status → Status
beside_sink statuses.SinkFault = statuses.SinkFault
beside_sink statuses.SourceTooLong = statuses.SinkFault
beside_sink statuses.BadOrder = statuses.SinkFault
beside_sink statuses.BadFrame = statuses.SinkFault
beside_sink statuses.Unequal = statuses.SinkFault
beside_sink statuses.Ok = statuses.SinkFault
beside_sink told = told

-- by why the datastore was not opened
abbrev pub status_of_opening : OpenFault → Status
status_of_opening openings.NotSynced = statuses.DiskFault
status_of_opening openings.DiskFault = statuses.DiskFault
status_of_opening openings.NoMemory = statuses.NoMemory

abbrev pub name_of : Status → List ℕ
name_of statuses.Ok = codes "Ok"
name_of statuses.BadFrame = codes "BadFrame"
name_of statuses.Usage = codes "Usage"
name_of statuses.DiskFault = codes "DiskFault"
name_of statuses.SourceFault = codes "SourceFault"
name_of statuses.SinkFault = codes "SinkFault"
name_of statuses.NoMemory = codes "NoMemory"
name_of statuses.TooManyLanes = codes "TooManyLanes"
name_of statuses.Unequal = codes "Unequal"
name_of statuses.SourceTooLong = codes "SourceTooLong"
name_of statuses.RemoteFault = codes "RemoteFault"
name_of statuses.BadOrder = codes "BadOrder"
