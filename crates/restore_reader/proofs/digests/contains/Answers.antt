use Rattle.std.proofs.Common.{◌∙◌}
use Rattle.restore_reader.proofs.Tables.{searched}
use Rattle.restore_reader.proofs.digests.contains.Goals as goal

pub returns : goal.returns
returns c =
    c.is_ok.ensures.value ∙ searched c.args.digests.now c.args.digest.now c.binary_search.result c.requires c.binary_search.ensures.bound c.binary_search.ensures.position
