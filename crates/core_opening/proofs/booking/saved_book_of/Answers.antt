use Rattle.std.proofs.Common.{rules}
use Rattle.disk_trait.proofs.OnlyReading.{reads_by, reads_call}
use Rattle.core_opening.proofs.booking.saved_book_of.Goals as goal

pub returns-in_err-bytes-clause-reads : goal.returns-in_err-bytes-clause-reads
returns-in_err-bytes-clause-reads g c =
    let d = g.D.Disk in
    reads_by d c.args.disk.now c.counts_its_size.new.disk c.read.new.self _ _ _ c.counts_its_size.ensures.reads
    (reads_call d c.counts_its_size.new.disk c.read.new.self _ c.read.ensures.serves c.read.ensures.crash c.read.ensures.same)
    (search rules)

pub returns-in_default-clause-reads : goal.returns-in_default-clause-reads
returns-in_default-clause-reads g c =
    let d = g.D.Disk in
    reads_by d c.args.disk.now c.counts_its_size.new.disk c.read.new.self _ _ _ c.counts_its_size.ensures.reads
    (reads_call d c.counts_its_size.new.disk c.read.new.self _ c.read.ensures.serves c.read.ensures.crash c.read.ensures.same)
    (search rules)

pub returns-in_err-book_in-clause-reads : goal.returns-in_err-book_in-clause-reads
returns-in_err-book_in-clause-reads g c =
    let d = g.D.Disk in
    reads_by d c.args.disk.now c.counts_its_size.new.disk c.read.new.self _ _ _ c.counts_its_size.ensures.reads
    (reads_call d c.counts_its_size.new.disk c.read.new.self _ c.read.ensures.serves c.read.ensures.crash c.read.ensures.same)
    (search rules)

pub returns-clause-reads : goal.returns-clause-reads
returns-clause-reads g c =
    let d = g.D.Disk in
    reads_by d c.args.disk.now c.counts_its_size.new.disk c.read.new.self _ _ _ c.counts_its_size.ensures.reads
    (reads_call d c.counts_its_size.new.disk c.read.new.self _ c.read.ensures.serves c.read.ensures.crash c.read.ensures.same)
    (search rules)
