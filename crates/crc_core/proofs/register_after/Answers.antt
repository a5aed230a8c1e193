use Rattle.std.proofs.Common.{ap, ap₂, ◌∙◌}
use Rattle.std.specs.List.{fold}
use Rattle.crc_core.specs.Crc.{register_after as register_of}
use Rattle.crc_core.proofs.Slicing.{blocks_and_rest}
use Rattle.crc_core.proofs.register_after.Goals as goal

pub returns : goal.returns
returns c =
    c.after_each.ensures
    ∙ ap₂ register_of (c.after_blocks.ensures ∙ ap (fold register_of c.args.register) c.as_chunks.ensures.front) c.as_chunks.ensures.back
    ∙ blocks_and_rest _ c.args.register c.args.bytes.now
