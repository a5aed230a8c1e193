use Rattle.paged_indexes.specs.Index.{start_by}
use Rattle.core_collect.proofs.LastPages.{page_long, takes_page, tells_unread, tells_untold}
use Rattle.core_collect.proofs.marking.hand_on.Goals as goal

pub hand_on-requires-clause-len : goal.hand_on-requires-clause-len
hand_on-requires-clause-len g c = page_long c.args.pages.now c.args.i c.in_ok-page.page c.in_ok-page.ensures.page

pub returns-in_err-page-clause-exact : goal.returns-in_err-page-clause-exact
returns-in_err-page-clause-exact g c = λ honest.
    tells_unread ((g.D.Disk).content c.args.disk.now) c.args.pages.now c.args.at_hand c.args.i c.in_err-page.field-0.0 _ c.from_residual.ensures.1 (c.in_err-page.ensures.exact honest)

pub returns-in_err-hand_on-clause-exact : goal.returns-in_err-hand_on-clause-exact
returns-in_err-hand_on-clause-exact g c = λ honest.
    tells_untold ((g.D.Disk).content c.args.disk.now) c.args.pages.now c.args.at_hand c.args.i (start_by c.args.pages.now c.args.i) c.args.batch.now c.hand_on.new.taker c.in_ok-page.page.bytes c.in_err-hand_on.field-0.0 _
    c.from_residual-in_err-hand_on.ensures.1 (c.in_ok-page.ensures.exact honest) c.in_err-hand_on.ensures

pub returns-clause-taken : goal.returns-clause-taken
returns-clause-taken g c = takes_page c.args.pages.now c.args.i c.args.batch.now c.hand_on.new.taker c.in_ok-page.page c.in_ok-page.ensures.page c.in_ok-hand_on.ensures
