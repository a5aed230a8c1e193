use Rattle.std.proofs.Common.{Err, sym, ap, subst, ◌∙◌}
use Rattle.index_pages.specs.Gives.{Gives}
use Rattle.index_pages.proofs.Carried.{by_err}
use Rattle.paged_indexes.specs.declared.index.IndexPages.{IndexPages}
use Rattle.paged_indexes.specs.declared.index.IndexPages.TheVariants as pages
use Rattle.paged_indexes.specs.declared.kinds.IndexKind.TheVariants.{Fixed, Dynamic}
use Rattle.paged_indexes.specs.Dynamic as dynamics
use Rattle.paged_indexes.specs.Fixed as fixeds
use Rattle.paged_indexes.specs.Handing.{HandsOn}
use Rattle.paged_indexes.specs.Index.{entries_in, opened, opened_as}
use Rattle.paged_indexes.proofs.Indexing.{gives_as, handed_are}
use Rattle.paged_indexes.proofs.index.IndexPages.open_into.Goals as goal

abbrev itself : IndexPages → IndexPages
itself p = p

pub returns-in_err-pages-in-Fixed-clause-exact : goal.returns-in_err-pages-in-Fixed-clause-exact
unfolding opened
returns-in_err-pages-in-Fixed-clause-exact g c = let d = g.D.Disk in λ h.
    let m = d.content c.args.disk.now in
    let name = c.args.name.now in
    let fault = c.in_err-pages-in-Fixed.field-0.0 in
    by_err c.from_residual.result fault (λ r. Gives itself r (opened m name c.args.kind)) c.from_residual.ensures.1
    (subst (λ k. Gives itself (Err fault) (opened m name k)) (sym c.in-Fixed.is)
    (gives_as pages.Fixed fault (fixeds.opened m name) (c.in_err-pages-in-Fixed.ensures.exact h)))

pub returns-in_err-pages-in-Dynamic-clause-exact : goal.returns-in_err-pages-in-Dynamic-clause-exact
unfolding opened
returns-in_err-pages-in-Dynamic-clause-exact g c = let d = g.D.Disk in λ h.
    let m = d.content c.args.disk.now in
    let name = c.args.name.now in
    let fault = c.in_err-pages-in-Dynamic.field-0.0 in
    by_err c.from_residual-in_err-pages-in-Dynamic.result fault (λ r. Gives itself r (opened m name c.args.kind)) c.from_residual-in_err-pages-in-Dynamic.ensures.1
    (subst (λ k. Gives itself (Err fault) (opened m name k)) (sym c.in-Dynamic.is)
    (gives_as pages.Dynamic fault (dynamics.opened m name) (c.in_err-pages-in-Dynamic.ensures.exact h)))

pub returns-in_ok-pages-in-Fixed-clause-exact : goal.returns-in_ok-pages-in-Fixed-clause-exact
unfolding opened
returns-in_ok-pages-in-Fixed-clause-exact g c = let d = g.D.Disk in λ h.
    ap (opened (d.content c.args.disk.now) c.args.name.now) c.in-Fixed.is ∙ ap (opened_as pages.Fixed) (c.in_ok-pages-in-Fixed.ensures.exact h)

pub returns-in_ok-pages-in-Dynamic-clause-exact : goal.returns-in_ok-pages-in-Dynamic-clause-exact
unfolding opened
returns-in_ok-pages-in-Dynamic-clause-exact g c = let d = g.D.Disk in λ h.
    ap (opened (d.content c.args.disk.now) c.args.name.now) c.in-Dynamic.is ∙ ap (opened_as pages.Dynamic) (c.in_ok-pages-in-Dynamic.ensures.exact h)

pub returns-in_ok-pages-in-Fixed-clause-those : goal.returns-in_ok-pages-in-Fixed-clause-those
returns-in_ok-pages-in-Fixed-clause-those g c = λ h text es there is.
    subst (λ xs. HandsOn g.T.TakesEntries.taken 0 xs c.args.taker.now c.open_into.new.taker)
    (handed_are Fixed text es (ap (λ k. entries_in k text) (sym c.in-Fixed.is) ∙ is)) (c.in_ok-pages-in-Fixed.ensures.those h text there)

pub returns-in_ok-pages-in-Dynamic-clause-those : goal.returns-in_ok-pages-in-Dynamic-clause-those
returns-in_ok-pages-in-Dynamic-clause-those g c = λ h text es there is.
    subst (λ xs. HandsOn g.T.TakesEntries.taken 0 xs c.args.taker.now c.open_into-in-Dynamic.new.taker)
    (handed_are Dynamic text es (ap (λ k. entries_in k text) (sym c.in-Dynamic.is) ∙ is)) (c.in_ok-pages-in-Dynamic.ensures.those h text there)
