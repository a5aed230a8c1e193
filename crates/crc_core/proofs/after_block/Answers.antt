use Rattle.std.proofs.Common.{bit_xor, ap, ap₂, ◌∙◌}
use Rattle.crc_core.specs.Crc.{shift_bits}
use Rattle.crc_core.proofs.Slicing.{register_after-block}
use Rattle.crc_core.proofs.after_block.Goals as goal

pub returns : goal.returns
returns c =
    ap₂ bit_xor
    (ap₂ bit_xor
    (ap₂ bit_xor
    (c.word_register.ensures ∙ ap (shift_bits 32) c.word.ensures)
    (c.word_register-2.ensures ∙ ap (shift_bits 64) c.word-2.ensures))
    (c.word_register-3.ensures ∙ ap (shift_bits 96) c.word-3.ensures))
    (c.word_register-4.ensures ∙ ap (λ w. shift_bits 128 (bit_xor w c.args.register)) c.word-4.ensures)
    ∙ register_after-block c.args.register c.args.block.now c.told-block c.fits-block
