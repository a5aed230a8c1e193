use Rattle.std.proofs.Common.{◌∙◌, ◌%◌, Ok, Err, refl, subst, arith}
use Rattle.index_pages.specs.Calls.{CallsAtMost}
use Rattle.core_collect.specs.declared.marking.Batch.{Batch}
use Rattle.core_collect.specs.Calls.{pages_calls}
use Rattle.core_collect.specs.Entries.{IsHad, TakesNext}
use Rattle.core_collect.proofs.Counted.{next_many, same_many}
use Rattle.core_collect.proofs.Reading.{next_kept, next_stands, unread_stands}
use Rattle.core_collect.proofs.marking.read_next.Goals as goal

-- ---- its digests are not had

pub returns-in_err-page-clause-calls : goal.returns-in_err-page-clause-calls
returns-in_err-page-clause-calls g c =
    subst (λ o. CallsAtMost g.D.Disk c.args.disk.now c.read_pages.new.disk (pages_calls c.args.pages.now.kept o c.args.first)) c.take-at_hand.ensures.value c.read_pages.ensures.calls

pub returns-in_err-page-clause-exact : goal.returns-in_err-page-clause-exact
returns-in_err-page-clause-exact g c = λ honest.
    let old : Batch = record { skip = c.args.first % 1024; digests = c.new.result } in
    let m = (g.D.Disk).content c.args.disk.now in
    let path = c.args.path.now in
    let p = c.args.pages.now in
    let unread = c.in_err-page.field-0.0 in
    let new = c.read_pages.new.batch in
    unread_stands m path p c.args.first old new unread _ c.from_residual.ensures.1 c.in_err-page.ensures.named
    (subst (λ o. TakesNext m path p.kept o c.args.first old new (Err unread)) c.take-at_hand.ensures.value (c.in_err-page.ensures.exact honest))

-- ---- they are

pub returns-clause-calls : goal.returns-clause-calls
returns-clause-calls g c =
    subst (λ o. CallsAtMost g.D.Disk c.args.disk.now c.read_pages.new.disk (pages_calls c.args.pages.now.kept o c.args.first)) c.take-at_hand.ensures.value c.read_pages.ensures.calls

pub returns-clause-exact : goal.returns-clause-exact
returns-clause-exact g c = λ honest.
    let old : Batch = record { skip = c.args.first % 1024; digests = c.new.result } in
    let m = (g.D.Disk).content c.args.disk.now in
    let path = c.args.path.now in
    let p = c.args.pages.now in
    let page = c.in_ok-page.page in
    let new = c.read_pages.new.batch in
    next_stands m path p c.args.first old new (omega arith) refl c.new.ensures.items page
    (subst (λ o. TakesNext m path p.kept o c.args.first old new (Ok page)) c.take-at_hand.ensures.value (c.in_ok-page.ensures.exact honest))

pub returns-clause-pages : goal.returns-clause-pages
returns-clause-pages g c = record {
  kept = refl;
  last = (c.in_ok-page.ensures.kept).last;
  had = λ honest.
      subst (λ o. IsHad ((g.D.Disk).content c.args.disk.now) c.args.pages.now.kept o c.in_ok-page.page) c.take-at_hand.ensures.value (c.in_ok-page.ensures.exact honest).1;
}

pub returns-clause-kept : goal.returns-clause-kept
returns-clause-kept g c =
    let old : Batch = record { skip = c.args.first % 1024; digests = c.new.result } in
    next_kept c.args.pages.now.kept c.args.first old c.read_pages.new.batch c.in_ok-page.page (omega arith) refl c.new.ensures.items c.in_ok-page.ensures.kept

pub returns-clause-many : goal.returns-clause-many
returns-clause-many g c =
    let p = c.args.pages.now.kept in
    let old : Batch = record { skip = c.args.first % 1024; digests = c.new.result } in
    let next = next_kept p c.args.first old c.read_pages.new.batch c.in_ok-page.page (omega arith) refl c.new.ensures.items c.in_ok-page.ensures.kept in
    same_many c.read_pages.new.batch.digests.items _ next.2 ∙ next_many p c.args.first next.0 c.read_pages.ensures.width c.requires next.1
