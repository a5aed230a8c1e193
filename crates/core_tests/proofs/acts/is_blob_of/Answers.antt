use Rattle.core_tests.proofs.Chunks.{is_checked}
use Rattle.core_tests.proofs.acts.is_blob_of.Goals as goal

pub returns : goal.returns
returns c = λ _. is_checked c.args.digest c.args.blob.now c.in-Ok.piece.now c.digest.result c.in-Ok.ensures c.if-is_empty.ensures c.digest.ensures c.if-ne.ensures
