use Rattle.std.proofs.Common.{bit_xor, ap₂, ◌∙◌}
use Rattle.crc_core.proofs.Slicing.{shift_bits-bytes}
use Rattle.crc_core.proofs.word_register.Goals as goal

pub returns : goal.returns
returns c =
    ap₂ bit_xor (ap₂ bit_xor (ap₂ bit_xor c.byte_register.ensures c.byte_register-2.ensures) c.byte_register-3.ensures) c.byte_register-4.ensures
    ∙ shift_bits-bytes c.args.zeros c.args.word c.to_le_bytes.result c.to_le_bytes.ensures c.ranges.word.fits
