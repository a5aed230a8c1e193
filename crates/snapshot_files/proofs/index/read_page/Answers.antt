use Rattle.snapshot_files.proofs.Opened.{page_given, page_stops}
use Rattle.snapshot_files.proofs.index.read_page.Goals as goal

pub returns-in-Ok-clause-exact : goal.returns-in-Ok-clause-exact
returns-in-Ok-clause-exact g c = let d = g.D.Disk in λ h.
    page_given (d.content c.args.disk.now) c.args.path.now c.args.pages.now c.args.i g.T.TakesEntries.taken c.args.taker.now c.read_into.new.taker (c.in-Ok.ensures.exact h)

pub returns-in-Err-clause-exact : goal.returns-in-Err-clause-exact
returns-in-Err-clause-exact g c = let d = g.D.Disk in λ h.
    page_stops (d.content c.args.disk.now) c.args.path.now c.args.pages.now c.args.i g.T.TakesEntries.taken c.args.taker.now c.read_into.new.taker c.in-Err.fault c.stopped.result
    c.stopped.ensures.value (c.in-Err.ensures.exact h)
