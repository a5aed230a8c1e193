use Rattle.restore_reader.proofs.Apart.{total_by}
use Rattle.restore_reader.proofs.Bytes.{reads, whole_bytes}
use Rattle.std.proofs.Common.{refl}
use Rattle.restore_reader.specs.Plan.{parts_in}
use Rattle.restore_reader.proofs.laws.parts_read_their_bytes.Goals as goal

pub returns-clause-bytes : goal.returns-clause-bytes
returns-clause-bytes c = reads

pub returns-clause-whole : goal.returns-clause-whole
returns-clause-whole c = whole_bytes

pub returns-clause-total : goal.returns-clause-total
returns-clause-total c = λ from to start es fit. total_by from to start es (parts_in from to start es) refl fit
