use Rattle.std.proofs.Common.{◌/◌, bit_xor, ap, ◌∙◌}
use Rattle.crc_core.proofs.Slicing.{take_byte-low}
use Rattle.crc_core.proofs.after_byte.Goals as goal

pub returns : goal.returns
returns c = ap (bit_xor (c.args.register / 256)) c.byte_register.ensures ∙ take_byte-low c.args.register c.args.byte
