use Rattle.std.proofs.Common.{arith}
use Rattle.core_writer.proofs.ChunkStep.{is_sent, has_piece}
use Rattle.core_writer.proofs.chunks.take_chunk.Goals as goal

pub overflow_sub-length : goal.overflow_sub-length
overflow_sub-length g c = (has_piece c.args.digest.now.0 c.args.bytes.now (is_sent c.args.digest.now c.args.bytes.now c.type_inv.bytes c.requires.checked)).header

pub overflow_cast-length : goal.overflow_cast-length
overflow_cast-length g c = let h = has_piece c.args.digest.now.0 c.args.bytes.now (is_sent c.args.digest.now c.args.bytes.now c.type_inv.bytes c.requires.checked) in omega arith

pub chunk-requires-clause-length : goal.chunk-requires-clause-length
chunk-requires-clause-length g c = let h = has_piece c.args.digest.now.0 c.args.bytes.now (is_sent c.args.digest.now c.args.bytes.now c.type_inv.bytes c.requires.checked) in (h.least, h.most)

pub put_chunk-requires-clause-chunk : goal.put_chunk-requires-clause-chunk
put_chunk-requires-clause-chunk g c = is_sent c.args.digest.now c.args.bytes.now c.type_inv.bytes c.requires.checked
