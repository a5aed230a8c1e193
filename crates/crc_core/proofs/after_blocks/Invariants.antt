use Rattle.std.proofs.Common.{◌≡◌, drop}
use Rattle.std.specs.List.{fold}
use Rattle.crc_core.specs.Crc.{register_after as register_of}
use Rattle.crc_core.proofs.after_blocks.Given as goal

-- what is left to take gives the register after all
abbrev pub invariant-loop-block : goal.invariant-loop-block
invariant-loop-block l = fold register_of l.register (drop l.block-index l.blocks) ≡ fold register_of l.fn.register l.blocks
