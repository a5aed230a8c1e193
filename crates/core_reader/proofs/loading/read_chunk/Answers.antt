use Rattle.std.proofs.Common.{ap, sym}
use Rattle.store_types.specs.declared.names.Digest32.{Digest32}
use Rattle.core_reader.proofs.Loads.{chunk_stopped, held_stopped, load_at, load_failed}
use Rattle.disk_trait.proofs.OnlyReading.{reads_as}
use Rattle.core_reader.proofs.loading.read_chunk.Goals as goal

pub returns-in-Err-clause-reads : goal.returns-in-Err-clause-reads
returns-in-Err-clause-reads g c =
    reads_as g.D.Disk c.args.disk.now c.load.new.disk _ _ (load_failed c.load.result c.in-Err.fault c.stopped.result c.in-Err.is c.stopped.ensures.value) c.load.ensures.reads

pub returns-in-Err-clause-value : goal.returns-in-Err-clause-value
returns-in-Err-clause-value g c = λ h.
    chunk_stopped (g.D.Disk.content c.args.disk.now) c.args.digest.now c.in-Err.fault c.stopped.result c.stopped.ensures.value (c.in-Err.ensures.damaged h)

pub returns-in-Err-clause-held : goal.returns-in-Err-clause-held
returns-in-Err-clause-held g c = λ h p held named.
    held_stopped c.in-Err.fault c.stopped.result p c.stopped.ensures.value (c.in-Err.ensures.held h p held (sym (ap (λ (x : Digest32). x.0) named)))

pub returns-in-Err-clause-damage : goal.returns-in-Err-clause-damage
returns-in-Err-clause-damage g c = load_at c.args.digest.now c.in-Err.fault c.stopped.result c.stopped.ensures.value c.stopped.ensures.text c.in-Err.ensures.asked
