use Rattle.std.proofs.Common.{◌≡◌, ◌∙◌, Some, ap, subst, rules}
use Rattle.core_state.specs.MarkedPage.{FitsLast}
use Rattle.core_collect.specs.Entries.{bytes_at}
use Rattle.core_collect.proofs.LastPages.{fits_hand, hand_is}
use Rattle.core_collect.proofs.marking.page_of.Goals as goal

pub returns-then-page-i-clause-exact : goal.returns-then-page-i-clause-exact
returns-then-page-i-clause-exact g c = λ honest.
    let m = (g.D.Disk).content c.args.disk.now in
    let p = c.args.pages.now in
    let is : c.args.at_hand ≡ Some c.in-Some.page = search rules in
    ap (λ o. bytes_at m p o c.args.i) is ∙ hand_is m p c.in-Some.page c.args.i c.if-page-i.true

pub returns-then-page-i-clause-page : goal.returns-then-page-i-clause-page
returns-then-page-i-clause-page g c =
    let p = c.args.pages.now in
    let is : c.args.at_hand ≡ Some c.in-Some.page = search rules in
    fits_hand p c.in-Some.page c.args.i (subst (FitsLast p) is c.requires.at_hand) c.if-page-i.true
