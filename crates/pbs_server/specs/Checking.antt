-- What a check leaves.
use Rattle.disk_trait.specs.Effects.{OnlyReads}
use Rattle.disk_trait.specs.declared.disk.Disk.{Ghosts}
use Rattle.std.specs.Prelude.{◌≡◌, Bool, true, false, List, [], Option, None, is_some, Result, Ok, Err}
use Rattle.port_traits.specs.declared.sink.Sink as sinks
use Rattle.port_traits.specs.declared.source.Source as sources
use Rattle.store_history.specs.declared.port.Port.{Port}
use Rattle.replay.specs.declared.difference.Unequal.{Unequal}
use Rattle.replay.specs.Compare.{line}
use Rattle.run_check.specs.declared.checking.Compared.{Compared}
use Rattle.run_check.specs.declared.fault.CheckFault.{CheckFault}
use Rattle.run_check.specs.declared.fault.CheckFault.TheVariants as faults
use Rattle.run_check.specs.Checks.{Checks, RemoteIsOnlyRead}
use Rattle.run_check.specs.Ports.{Keeps}
use Rattle.pbs_server.specs.declared.served.Served.{Served}
use Rattle.pbs_server.specs.Journal.{TakesText}
use Rattle.pbs_server.specs.Statuses.{Facts, first_of, no_facts}

-- what is true of a check that was not made
abbrev pub fault_facts : CheckFault → Facts
fault_facts faults.NoMemory = record no_facts { short = true }
fault_facts faults.DiskFault = record no_facts { disk = true }
fault_facts faults.RemoteFault = record no_facts { remote = true }
fault_facts faults.SourceFault = record no_facts { source = true }
fault_facts faults.SourceTooLong = record no_facts { long = true }
fault_facts faults.BadOrder = record no_facts { bad_order = true }

-- of a check, where the journal failed or did not
abbrev pub check_facts : Result Compared CheckFault → Bool → Facts
check_facts (Ok compared) failed = record no_facts { sink = failed; unequal = is_some compared.unequal }
check_facts (Err fault) failed = fault_facts fault

-- the first byte that differs, unless the journal's fault is told
abbrev pub told_unequal : Result Compared CheckFault → Bool → Option Unequal
told_unequal (Ok compared) false = compared.unequal
told_unequal _ _ = None

-- the journal takes the line of a check that was made, and nothing else
abbrev pub TellsLine : {J : Type 0} → sinks.Ghosts J → J → J → Result Compared CheckFault → Bool → Type 0
TellsLine sink old new (Ok compared) failed = TakesText sink old new (line compared.unequal) failed
TellsLine sink old new (Err fault) failed = (new ≡ old) × (failed ≡ false)

-- A run was checked: its order was replayed on what the disks hold, which were only read, and the replies were compared with those that were
-- kept, or this is why not.
pub record HasChecked {D E S K J : Type 0} (d : Ghosts D) (e : Ghosts E) (source : sources.Ghosts S) (journal : sinks.Ghosts J) (disk : D) (remote : Option E)
    (old new : List (Port S K)) (before after : J) (result : Served D E) : Type 0 where
  pub what : Result Compared CheckFault
  pub checks : Checks d e source disk remote old new what
  pub keeps : Keeps source old new
  pub disk_is : OnlyReads d disk result.disk (what ≡ Err faults.DiskFault)
  pub remote_is : RemoteIsOnlyRead e remote result.remote (what ≡ Err faults.RemoteFault)
  pub line_is : TellsLine journal before after what (result.report).journal_failed
  pub status : result.status ≡ first_of (check_facts what (result.report).journal_failed)
  pub unequal : (result.report).unequal ≡ told_unequal what (result.report).journal_failed
  pub order : (result.order).items ≡ []
  pub lanes : ((result.report).lanes).items ≡ []
  pub calls : ((result.report).calls).items ≡ []
  pub not_opened : (result.report).not_opened ≡ None
  pub not_saved : (result.report).not_saved ≡ None
