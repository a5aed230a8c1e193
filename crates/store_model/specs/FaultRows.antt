-- Files with a fault that have a spelling, as a test.
use Rattle.std.specs.Prelude.{Bool, true, ◌&&◌, length, ◌==◌, nat_lt, IsTrue}
use Rattle.wire_commands.specs.declared.rows.FileFault.{FileFault}
use Rattle.wire_commands.specs.declared.rows.FileFault.TheVariants.{Damaged}
use Rattle.wire_commands.specs.declared.rows.FaultRow.{FaultRow}

abbrev pub fault_fits : FileFault → Bool
fault_fits (Damaged digest) = length digest.0 == 32
fault_fits _ = true

abbrev pub IsFitRow : FaultRow → Type 0
IsFitRow r = IsTrue (nat_lt (length r.file) 256 && fault_fits r.fault)
