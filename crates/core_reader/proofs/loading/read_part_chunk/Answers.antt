use Rattle.std.proofs.Common.{Ok}
use Rattle.store_types.specs.declared.refusal.ChunkFault.TheVariants.{Other}
use Rattle.chunk_store.specs.declared.chunk.LoadFault.TheVariants.{Damaged}
use Rattle.core_reader.proofs.Loads.{load_at, part_chunk_stopped, stop_handed}
use Rattle.core_reader.proofs.loading.read_part_chunk.Goals as goal

pub returns-in_err-chunk-clause-value : goal.returns-in_err-chunk-clause-value
returns-in_err-chunk-clause-value g c = λ h.
    stop_handed c.from_residual.result _ _ c.from_residual.ensures.1 (part_chunk_stopped (g.D.Disk.content c.args.disk.now) c.args.part.now _ (c.in_err-chunk.ensures.value h))

pub returns-in_err-chunk-clause-held : goal.returns-in_err-chunk-clause-held
returns-in_err-chunk-clause-held g c = λ h p held is.
    stop_handed c.from_residual.result _ (Ok p) c.from_residual.ensures.1 (c.in_err-chunk.ensures.held h p held is.digest)

pub returns-then-piece-part-clause-damage : goal.returns-then-piece-part-clause-damage
returns-then-piece-part-clause-damage g c =
    let digest = c.args.part.now.digest in
    load_at digest (Damaged digest (Other digest)) c.stopped.result c.stopped.ensures.value c.stopped.ensures.text (λ asked found e. cc)
