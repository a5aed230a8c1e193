-- Why a port was not read.
use Rattle.replay.specs.declared.reading.Unread.{Unread}
use Rattle.replay.specs.declared.reading.Unread.TheVariants as unread
use Rattle.run_check.specs.declared.fault.CheckFault.{CheckFault}
use Rattle.run_check.specs.declared.fault.CheckFault.TheVariants as faults

abbrev pub fault_of : Unread → CheckFault
fault_of unread.Failed = faults.SourceFault
fault_of unread.TooLong = faults.SourceTooLong
fault_of unread.NoMemory = faults.NoMemory
