use Rattle.lane.proofs.Chunks.{no_blob, no_piece, other_digest, same_digest}
use Rattle.lane.proofs.commands.test_chunk.Goals as goal

pub returns-in-Err : goal.returns-in-Err
returns-in-Err g c = no_blob c.args.digest c.args.blob.now c.in-Err.cause c.in-Err.ensures

pub returns-then-is_empty : goal.returns-then-is_empty
returns-then-is_empty g c = no_piece c.args.digest c.args.blob.now c.in-Ok.piece.now c.in-Ok.ensures c.if-is_empty.ensures

pub returns-then-ne : goal.returns-then-ne
returns-then-ne g c = other_digest c.args.digest c.args.blob.now c.in-Ok.piece.now c.hash_of-found.result.0 c.in-Ok.ensures c.if-is_empty.ensures c.hash_of-found.ensures c.if-ne.ensures

pub returns : goal.returns
returns g c = same_digest c.args.digest c.args.blob.now c.in-Ok.piece.now c.hash_of-found.result.0 c.in-Ok.ensures c.if-is_empty.ensures c.hash_of-found.ensures c.if-ne.ensures
