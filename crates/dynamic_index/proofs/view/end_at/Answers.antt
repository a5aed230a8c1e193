use Rattle.std.proofs.Common.{ap, ◌∙◌, arith}
use Rattle.std.specs.Int.{w64, from_le_bytes}
use Rattle.dynamic_index.proofs.Cells.{count_is, end_is}
use Rattle.dynamic_index.proofs.view.end_at.Goals as goal

pub returns : goal.returns
returns c =
    c.from_le_bytes.ensures ∙ ap (from_le_bytes w64) c.copy_from_slice.ensures.after
    ∙ end_is c.args.bytes.now c.args.i (omega (arith, c.requires, count_is c.args.bytes.now))
