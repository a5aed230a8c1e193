use Rattle.core_reader.proofs.Loads.{bytes_given, bytes_stopped, load_at, load_failed}
use Rattle.disk_trait.proofs.OnlyReading.{reads_as}
use Rattle.core_reader.proofs.loading.read_bytes.Goals as goal

pub returns-in-Ok-clause-value : goal.returns-in-Ok-clause-value
returns-in-Ok-clause-value g c = λ h.
    bytes_given (g.D.Disk.content c.args.disk.now) c.args.digest.now c.in-Ok.bytes.items c.from_vec.result c.from_vec.ensures (c.in-Ok.ensures.bytes h)

pub returns-in-Err-clause-reads : goal.returns-in-Err-clause-reads
returns-in-Err-clause-reads g c =
    reads_as g.D.Disk c.args.disk.now c.read.new.disk _ _ (load_failed c.read.result c.in-Err.fault c.stopped.result c.in-Err.is c.stopped.ensures.value) c.read.ensures.reads

pub returns-in-Err-clause-value : goal.returns-in-Err-clause-value
returns-in-Err-clause-value g c = λ h.
    bytes_stopped (g.D.Disk.content c.args.disk.now) c.args.digest.now c.in-Err.fault c.stopped.result c.stopped.ensures.value c.in-Err.ensures.asked (c.in-Err.ensures.bytes h)

pub returns-in-Err-clause-damage : goal.returns-in-Err-clause-damage
returns-in-Err-clause-damage g c = load_at c.args.digest.now c.in-Err.fault c.stopped.result c.stopped.ensures.value c.stopped.ensures.text c.in-Err.ensures.asked
