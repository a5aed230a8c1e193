use Rattle.std.proofs.Common.{◌∙◌}
use Rattle.chunk_store.proofs.Blobs.{has_header}
use Rattle.chunk_store.proofs.chunk.Chunk.piece.Goals as goal

pub slice_bounds-result-count : goal.slice_bounds-result-count
slice_bounds-result-count c = has_header c.deref.result.now _ (c.deref.ensures.value ∙ c.self.invariant)

pub slice_bounds-result-start : goal.slice_bounds-result-start
slice_bounds-result-start c = has_header c.deref.result.now _ (c.deref.ensures.value ∙ c.self.invariant)
