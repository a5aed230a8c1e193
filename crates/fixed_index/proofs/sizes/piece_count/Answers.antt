use Rattle.std.proofs.Common.{◌∙◌}
use Rattle.fixed_index.proofs.Cutting.{div_ceil-is}
use Rattle.fixed_index.proofs.sizes.piece_count.Goals as goal

pub returns : goal.returns
returns c = c.div_ceil.ensures ∙ div_ceil-is c.args.size c.args.chunk_size c.requires
