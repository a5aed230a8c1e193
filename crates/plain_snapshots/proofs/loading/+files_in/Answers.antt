use Rattle.std.proofs.Common.{ap, length, arith}
use Rattle.store_model.proofs.FileInsertions.{length-insert_file}
use Rattle.plain_snapshots.proofs.loading.+files_in.Goals as goal

pub returns-clause-count : goal.returns-clause-count
returns-clause-count t c =
    let others = (rw c.in-Some-2.is at c.in_ok-files.ensures.count) in
    let more = ap length c.in_ok-insert_file.ensures.ok in
    omega (arith, length-insert_file, others, more, c.in-Some.ensures.cases.1)
