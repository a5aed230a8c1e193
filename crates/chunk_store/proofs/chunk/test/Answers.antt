use Rattle.std.proofs.Common.{◌<◌, arith}
use Rattle.std.proofs.lemmas.List.Elements.{All-from_get_or}
use Rattle.blob_codec.specs.Laws.{AreBytes}
use Rattle.chunk_store.proofs.Blobs.{tests_from, chunk_from}
use Rattle.chunk_store.proofs.chunk.test.Goals as goal

pub returns-clause-tests : goal.returns-clause-tests
returns-clause-tests c = tests_from c.args.digest.now.0 c.args.text.now c.in-Ok.piece.now c.in-Ok.ensures c.check_piece.result c.check_piece.ensures

pub returns-clause-chunk : goal.returns-clause-chunk
returns-clause-chunk c =
    let are : AreBytes c.args.text.now = All-from_get_or (λ b. b < 256) c.args.text.now 0 (λ i within. omega (arith, c.type_inv.text i)) in
    chunk_from c.args.digest.now.0 c.args.text.now c.in-Ok.piece.now c.in-Ok.ensures c.check_piece.result are c.check_piece.ensures
