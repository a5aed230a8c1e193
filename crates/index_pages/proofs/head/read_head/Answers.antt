use Rattle.std.proofs.Common.{inr, rules}
use Rattle.disk_trait.proofs.OnlyReading.{reads_call, reads_then}
use Rattle.index_pages.proofs.Carried.{ok_not}
use Rattle.index_pages.proofs.head.read_head.Goals as goal

pub returns-in_err-fill-clause-reads : goal.returns-in_err-fill-clause-reads
returns-in_err-fill-clause-reads g c =
    let d = g.D.Disk in
    reads_then d _ _ _ _ _ _ (reads_call d c.args.disk.now c.size.new.self _ c.size.ensures.serves c.size.ensures.crash c.size.ensures.same) c.fill.ensures.reads (λ f. inr (search rules))

pub returns-clause-reads : goal.returns-clause-reads
returns-clause-reads g c =
    let d = g.D.Disk in
    reads_then d _ _ _ _ _ _ (reads_call d c.args.disk.now c.size.new.self _ c.size.ensures.serves c.size.ensures.crash c.size.ensures.same) c.fill.ensures.reads (λ f. absurd (ok_not _ _ f))
