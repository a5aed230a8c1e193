-- Files with a fault that have a spelling, as a test.
use Rattle.std.specs.Prelude.{Bool, true, IsTrue, Option, None, Some}
use Rattle.wire_commands.specs.declared.rows.FileFault.{FileFault}
use Rattle.store_model.specs.FaultRows.{fault_fits}

-- a fault, where there is one
abbrev pub told_fits : Option FileFault → Bool
told_fits None = true
told_fits (Some fault) = fault_fits fault

abbrev pub IsFitFault : Option FileFault → Type 0
IsFitFault fault = IsTrue (told_fits fault)
