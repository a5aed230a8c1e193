use Rattle.std.proofs.Common.{◌≡◌, ◌∙◌, Err, Ok, sym, ap, subst, rules}
use Rattle.disk_trait.proofs.OnlyReading.{reads_by}
use Rattle.restore_reader.specs.Plan.{ends_of}
use Rattle.snapshot_files.specs.Indexes.{page_entries}
use Rattle.store_stops.specs.Stops.{Gives}
use Rattle.core_state.specs.declared.pages.ReadPage.{ReadPage}
use Rattle.core_reader.specs.Chunks.{HoldsParts, behind, digests_of, parts_at}
use Rattle.core_reader.specs.Ranges.{RefusesRead, page_range, parts_on, ranged}
use Rattle.core_reader.proofs.Loads.{among_text, handed_unrefused}
use Rattle.core_reader.proofs.PageReads.{among_needed, kept_total, range_of_read, range_stops, read_parts_are, refused_on, stops_as, whole_parts}
use Rattle.core_reader.proofs.RangeTold.{text_on}
use Rattle.core_reader.proofs.paging.read_page_range.Goals as goal

-- ---- the page is not read

pub returns-in_err-page-clause-exact : goal.returns-in_err-page-clause-exact
returns-in_err-page-clause-exact g c = λ h.
    range_stops (g.D.Disk.content c.args.disk.now) (ranged c.args.path.now c.args.pages.now) c.args.i c.args.from c.args.to {A = ReadPage} {B = ReadPage} (λ x. ends_of x.entries.items)
    (λ _. c.args.bytes.now.items) c.args.bytes.now.items _ _ c.from_residual.ensures.1 (c.in_err-page.ensures.exact h)

pub returns-in_err-page-clause-whole : goal.returns-in_err-page-clause-whole
returns-in_err-page-clause-whole g c = λ h whole. handed_unrefused _ _ c.from_residual.ensures.1 (c.in_err-page.ensures.whole h whole)

-- ---- its pieces are not

pub returns-in_err-read_pieces-clause-reads : goal.returns-in_err-read_pieces-clause-reads
returns-in_err-read_pieces-clause-reads g c = reads_by g.D.Disk c.args.disk.now c.read_next.new.disk c.read_pieces.new.disk _ _ _ c.read_next.ensures.reads c.read_pieces.ensures.reads (search rules)

pub returns-in_err-read_pieces-clause-exact : goal.returns-in_err-read_pieces-clause-exact
returns-in_err-read_pieces-clause-exact g c = let d = g.D.Disk in λ h.
    let m = d.content c.args.disk.now in
    let a = ranged c.args.path.now c.args.pages.now in
    let x = c.in_ok-page.page in
    let reads = c.read_next.ensures.reads in
    let old = c.args.bytes.now.items in
    let stop = c.in_err-read_pieces.field-0.0 in
    stops_as {A = Unit {0}} {B = ReadPage} (λ _. c.read_pieces.new.bytes.items) (λ _. c.read_pieces.new.bytes.items) (behind old (page_range m a c.args.i c.args.from c.args.to)) stop _ c.from_residual-in_err-read_pieces.ensures.1
    (subst (λ r. Gives {A = Unit {0}} (λ _. c.read_pieces.new.bytes.items) (Err stop) (behind old r))
    (ap (λ f. parts_at f (parts_on c.args.from c.args.to x)) (reads.same h) ∙ sym (range_of_read m a c.args.i c.args.from c.args.to x c.in_ok-page.ensures.page (c.in_ok-page.ensures.exact h)))
    (c.in_err-read_pieces.ensures.value (reads.serves.kept.0 h)))

pub returns-in_err-read_pieces-clause-whole : goal.returns-in_err-read_pieces-clause-whole
returns-in_err-read_pieces-clause-whole g c = let d = g.D.Disk in λ h whole.
    let m = d.content c.args.disk.now in
    let a = ranged c.args.path.now c.args.pages.now in
    let x = c.in_ok-page.page in
    let reads = c.read_next.ensures.reads in
    let parts = parts_on c.args.from c.args.to x in
    handed_unrefused _ _ c.from_residual-in_err-read_pieces.ensures.1
    (c.in_err-read_pieces.ensures.held (reads.serves.kept.0 h)
    (subst (λ f. HoldsParts f parts) (sym (reads.same h))
    (whole_parts m a c.args.i c.args.from c.args.to (ends_of x.entries.items) parts whole c.requires.place (c.in_ok-page.ensures.exact h) (read_parts_are c.args.pages.now c.args.i c.args.from c.args.to x c.in_ok-page.ensures.page))))

pub returns-in_err-read_pieces-clause-refusal : goal.returns-in_err-read_pieces-clause-refusal
returns-in_err-read_pieces-clause-refusal g c =
    let a = ranged c.args.path.now c.args.pages.now in
    let x = c.in_ok-page.page in
    let parts = parts_on c.args.from c.args.to x in
    refused_on (RefusesRead a c.args.from c.args.to) _ _ c.from_residual-in_err-read_pieces.ensures.1
    (among_needed a c.args.i c.args.from c.args.to (ends_of x.entries.items) parts _ c.in_ok-page.ensures.page.spelled (read_parts_are c.args.pages.now c.args.i c.args.from c.args.to x c.in_ok-page.ensures.page) c.in_err-read_pieces.ensures.damage)

pub returns-in_err-read_pieces-clause-text : goal.returns-in_err-read_pieces-clause-text
returns-in_err-read_pieces-clause-text g c =
    text_on _ _ c.from_residual-in_err-read_pieces.ensures.1 (among_text (digests_of (parts_on c.args.from c.args.to c.in_ok-page.page)) _ c.in_err-read_pieces.ensures.damage)

-- ---- both are

pub returns-clause-reads : goal.returns-clause-reads
returns-clause-reads g c = reads_by g.D.Disk c.args.disk.now c.read_next.new.disk c.read_pieces.new.disk _ _ _ c.read_next.ensures.reads c.read_pieces.ensures.reads (search rules)

pub returns-clause-exact : goal.returns-clause-exact
returns-clause-exact g c = let d = g.D.Disk in λ h.
    let m = d.content c.args.disk.now in
    let a = ranged c.args.path.now c.args.pages.now in
    let x = c.in_ok-page.page in
    let reads = c.read_next.ensures.reads in
    let old = c.args.bytes.now.items in
    subst (λ r. behind old r ≡ Ok c.read_pieces.new.bytes.items)
    (ap (λ f. parts_at f (parts_on c.args.from c.args.to x)) (reads.same h) ∙ sym (range_of_read m a c.args.i c.args.from c.args.to x c.in_ok-page.ensures.page (c.in_ok-page.ensures.exact h)))
    (c.in_ok-read_pieces.ensures.value (reads.serves.kept.0 h))

pub returns-clause-given : goal.returns-clause-given
returns-clause-given g c = let d = g.D.Disk in λ h.
    ap (page_entries (d.content c.args.disk.now) c.args.path.now c.args.pages.now) c.in_ok-page.ensures.page.number ∙ c.in_ok-page.ensures.exact h

pub returns-clause-size : goal.returns-clause-size
returns-clause-size g c =
    let x = c.in_ok-page.page in
    kept_total c.args.pages.now c.args.i c.args.from c.args.to (ends_of x.entries.items) (parts_on c.args.from c.args.to x) c.args.bytes.now.items c.read_pieces.new.bytes.items
    c.in_ok-page.ensures.page.spelled (read_parts_are c.args.pages.now c.args.i c.args.from c.args.to x c.in_ok-page.ensures.page) c.in_ok-read_pieces.ensures.size
