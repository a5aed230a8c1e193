use Rattle.std.proofs.Common.{◌≡◌, ◌+◌, min, inr, IsErrOf, arith}
use Rattle.core_collect.specs.declared.marking.Unread.TheVariants.{DiskFailed}
use Rattle.disk_trait.proofs.OnlyReading.{reads_then}
use Rattle.gc_plan.specs.Plan.{mark_limit}
use Rattle.paged_indexes.specs.Index.{pages_by}
use Rattle.core_collect.proofs.Calls.{both_called, first_called}
use Rattle.core_collect.proofs.LastPages.{fits_page}
use Rattle.core_collect.proofs.Reading.{both_kept, ends_here, one_kept, reaches_next, reads_both, reads_one, stops_first}
use Rattle.core_collect.proofs.marking.read_pages.Goals as goal

pub returns-in_err-page-clause-exact : goal.returns-in_err-page-clause-exact
returns-in_err-page-clause-exact g c =
    stops_first g.D.Disk c.args.disk.now c.args.path.now c.args.pages.now c.args.at_hand c.args.first c.args.batch.now c.take_page.new.batch c.take_page.new.batch c.in_err-page.field-0.0 _
    c.from_residual.ensures.1 c.in_err-page.ensures.exact

pub returns-in_err-page-clause-calls : goal.returns-in_err-page-clause-calls
returns-in_err-page-clause-calls g c = first_called g.D.Disk c.args.disk.now c.take_page.new.disk c.args.pages.now c.args.at_hand c.args.first c.in_err-page.ensures.calls

-- ---- they end in the first page

pub returns-then-end-i-clause-calls : goal.returns-then-end-i-clause-calls
returns-then-end-i-clause-calls g c = first_called g.D.Disk c.args.disk.now c.take_page.new.disk c.args.pages.now c.args.at_hand c.args.first c.take_page.ensures.calls

pub returns-then-end-i-clause-exact : goal.returns-then-end-i-clause-exact
returns-then-end-i-clause-exact g c =
    let count = (pages_by c.args.pages.now).count in
    let is : c.min-end.result ≡ min count (c.args.first + mark_limit) = omega (arith, c.min-end.ensures, c.len.ensures.value) in
    reads_one g.D.Disk c.args.disk.now c.args.path.now c.args.pages.now c.args.at_hand c.args.first c.args.batch.now c.take_page.new.batch c.in_ok-page.page c.in_ok-page.ensures.taken c.in_ok-page.ensures.exact
    (ends_here count c.args.first c.min-end.result is c.if-end-i.true)

pub returns-then-end-i-clause-kept : goal.returns-then-end-i-clause-kept
returns-then-end-i-clause-kept g c =
    let count = (pages_by c.args.pages.now).count in
    let is : c.min-end.result ≡ min count (c.args.first + mark_limit) = omega (arith, c.min-end.ensures, c.len.ensures.value) in
    one_kept c.args.pages.now c.args.first c.args.batch.now c.take_page.new.batch c.in_ok-page.page (ends_here count c.args.first c.min-end.result is c.if-end-i.true) c.in_ok-page.ensures.taken

-- ---- they reach into the next one

pub take_page-requires-2-clause-at_hand : goal.take_page-requires-2-clause-at_hand
take_page-requires-2-clause-at_hand g c = fits_page c.args.pages.now _ c.in_ok-page.page (c.in_ok-page.ensures.taken).page

pub returns-clause-reads : goal.returns-clause-reads
returns-clause-reads g c =
    reads_then g.D.Disk c.args.disk.now c.take_page.new.disk c.take_page-2.new.disk (IsErrOf c.take_page.result DiskFailed) (IsErrOf c.take_page-2.result DiskFailed) (IsErrOf c.take_page-2.result DiskFailed)
    c.take_page.ensures.reads c.take_page-2.ensures.reads (λ failed. inr failed)

pub returns-clause-calls : goal.returns-clause-calls
returns-clause-calls g c =
    let count = (pages_by c.args.pages.now).count in
    let is : c.min-end.result ≡ min count (c.args.first + mark_limit) = omega (arith, c.min-end.ensures, c.len.ensures.value) in
    both_called g.D.Disk c.args.disk.now c.take_page.new.disk c.take_page-2.new.disk (IsErrOf c.take_page.result DiskFailed) c.args.pages.now c.args.at_hand c.in_ok-page.page c.args.first (c.take_page.ensures.reads).serves
    (reaches_next count c.args.first c.min-end.result is c.if-end-i.false) c.take_page.ensures.calls c.take_page-2.ensures.calls

pub returns-clause-exact : goal.returns-clause-exact
returns-clause-exact g c =
    let count = (pages_by c.args.pages.now).count in
    let is : c.min-end.result ≡ min count (c.args.first + mark_limit) = omega (arith, c.min-end.ensures, c.len.ensures.value) in
    reads_both g.D.Disk c.args.disk.now c.args.path.now c.args.pages.now c.args.at_hand c.args.first c.args.batch.now c.take_page.new.batch
    c.take_page.new.disk (IsErrOf c.take_page.result DiskFailed) c.take_page-2.new.batch c.in_ok-page.page c.take_page-2.result c.in_ok-page.ensures.taken c.in_ok-page.ensures.exact c.take_page.ensures.reads
    (reaches_next count c.args.first c.min-end.result is c.if-end-i.false) c.take_page-2.ensures.taken c.take_page-2.ensures.exact

pub returns-clause-kept : goal.returns-clause-kept
returns-clause-kept g c =
    let count = (pages_by c.args.pages.now).count in
    let is : c.min-end.result ≡ min count (c.args.first + mark_limit) = omega (arith, c.min-end.ensures, c.len.ensures.value) in
    both_kept c.args.pages.now c.args.first c.args.batch.now c.take_page.new.batch c.take_page-2.new.batch c.in_ok-page.page c.take_page-2.result (reaches_next count c.args.first c.min-end.result is c.if-end-i.false)
    c.in_ok-page.ensures.taken c.take_page-2.ensures.taken
