use Rattle.std.proofs.Common.{ap, refl, subst, ◌∙◌, rules}
use Rattle.disk_trait.specs.Effects.{StepsOn}
use Rattle.file_install.specs.Install.{Installs, installed}
use Rattle.store_history.specs.Saved.{book_name}
use Rattle.atime_book.specs.Counts.{Divides}
use Rattle.chunk_store.proofs.DiskCalls.{none_is}
use Rattle.core_collect.proofs.EndLemmas.{saved_by, unsaved, unsaved_by}
use Rattle.core_collect.proofs.ending.end.Goals as goal

pub returns-in_err-text-clause-ends : goal.returns-in_err-text-clause-ends
returns-in_err-text-clause-ends g c = unsaved g.D.Disk c.args.disk.now c.args.book.now c.args.plan.now c.args.moment _ (search rules)

pub returns-in_err-text-clause-unchanged : goal.returns-in_err-text-clause-unchanged
returns-in_err-text-clause-unchanged g c =
    let d = g.D.Disk in let m = g.met.D.Disk in
    λ _. (λ honest. refl, none_is d.calls d.images d.honest m.told c.args.disk.now, refl)

pub returns-in_err-install-clause-ends : goal.returns-in_err-install-clause-ends
returns-in_err-install-clause-ends g c =
    let d = g.D.Disk in
    let old = c.args.disk.now in
    let new = c.install.new.disk in
    unsaved_by d old c.args.book.now c.args.plan.now c.args.moment new _ (search rules)
    (subst (λ b. StepsOn d old new (Installs (d.content old) book_name b)) (c.as_slice.ensures.value ∙ c.in_ok-text.ensures.text) c.install.ensures.crash)

pub returns-clause-ends : goal.returns-clause-ends
returns-clause-ends g c =
    let d = g.D.Disk in
    let old = c.args.disk.now in
    let new = c.install.new.disk in
    let bytes = c.as_slice.ensures.value ∙ c.in_ok-text.ensures.text in
    saved_by d old c.args.book.now c.args.plan.now c.args.moment new c.report.result
    (subst (λ b. StepsOn d old new (Installs (d.content old) book_name b)) bytes c.install.ensures.crash)
    (λ honest. c.in_ok-install.ensures.installed honest ∙ ap (installed (d.content old) book_name) bytes)
    (c.counts-used.result.used, c.counts-used.result.pending, subst (λ n. Divides c.args.book.now n c.counts-used.result.used c.counts-used.result.pending) c.start.ensures c.counts-used.ensures, c.report.ensures) c.in_ok-text.ensures.fits
