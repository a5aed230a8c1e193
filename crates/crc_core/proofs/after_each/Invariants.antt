use Rattle.std.proofs.Common.{◌≡◌, drop}
use Rattle.crc_core.specs.Crc.{register_after as register_of}
use Rattle.crc_core.proofs.after_each.Given as goal

-- what is left to take gives the register after all
abbrev pub invariant-loop-b : goal.invariant-loop-b
invariant-loop-b l = register_of l.register (drop l.b-index l.bytes) ≡ register_of l.fn.register l.bytes
