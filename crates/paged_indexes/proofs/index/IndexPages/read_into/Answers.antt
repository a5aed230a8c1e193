use Rattle.paged_indexes.proofs.Paging.{hands_page, unread_page}
use Rattle.paged_indexes.proofs.index.IndexPages.read_into.Goals as goal

pub returns-in_err-page-clause-exact : goal.returns-in_err-page-clause-exact
returns-in_err-page-clause-exact g c = let d = g.D.Disk in λ h.
    unread_page g.T.TakesEntries.taken (d.content c.args.disk.now) c.args.self.now c.args.i c.args.taker.now c.args.taker.now (λ (x : Unit {0}). c.page.new.into) c.in_err-page.field-0.0 _ c.from_residual.ensures.1
    (c.in_err-page.ensures.exact h)

pub returns-clause-exact : goal.returns-clause-exact
returns-clause-exact g c = let d = g.D.Disk in λ h.
    hands_page g.T.TakesEntries.taken (d.content c.args.disk.now) c.args.self.now c.args.i c.args.taker.now c.hand_on.new.taker c.page.new.into c.hand_on.result (c.in_ok-page.ensures.exact h) c.hand_on.ensures
