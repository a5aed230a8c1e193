use Rattle.std.proofs.Common.{◌≡◌, ◌∙◌, ◌+◌, ◌-◌, ◌<◌, ◌≤◌, [], Ok, Err, Option, Some, None, true, false, nat_le, cond, length, refl, sym, ap, subst, inl, inr, rules, arith}
use Rattle.std.proofs.lemmas.Bool.{le-leb, lt-leb}
use Rattle.disk_trait.proofs.OnlyReading.{reads_none, reads_then}
use Rattle.index_pages.specs.Paged.{page_count}
use Rattle.paged_indexes.specs.Index.{page_with, pages_by, start_by}
use Rattle.store_stops.specs.Stops.{Gives}
use Rattle.core_state.specs.declared.pages.ReadPage.{ReadPage}
use Rattle.core_reader.specs.Chunks.{behind}
use Rattle.core_reader.specs.Ranges.{ReadsPage, StandsWhole, page_range, range_at, range_by, range_from, ranged}
use Rattle.core_reader.proofs.LastPages.{last_is, last_next, none_last, past_last}
use Rattle.core_reader.proofs.Loads.{handed_unrefused, short_unrefused}
use Rattle.core_reader.proofs.PageReads.{behind_none, fits_more, page_given, page_stops, range_done, range_more, range_past}
use Rattle.core_reader.proofs.paging.read_pages.Goals as goal

-- ---- of no bytes, or behind all pages

pub returns-then-from-to-clause-exact : goal.returns-then-from-to-clause-exact
returns-then-from-to-clause-exact g c = λ h.
    let m = g.D.Disk.content c.args.disk.now in
    let a = ranged c.args.path.now c.args.pages.now in
    behind_none c.args.bytes.now.items _ (ap (λ b. cond b (Ok []) (range_by m a c.args.from c.args.to (page_with c.args.pages.now c.args.from))) (le-leb c.args.to c.args.from (omega arith)))

pub returns-then-from-to-clause-last : goal.returns-then-from-to-clause-last
returns-then-from-to-clause-last g c = none_last c.args.pages.now c.args.from c.args.to (omega arith)

pub returns-in_default-clause-exact : goal.returns-in_default-clause-exact
returns-in_default-clause-exact g c = λ h.
    let none : c.page_with.result ≡ None = search rules in
    let m = g.D.Disk.content c.args.disk.now in
    let a = ranged c.args.path.now c.args.pages.now in
    behind_none c.args.bytes.now.items _
    (ap (λ b. cond b (Ok []) (range_by m a c.args.from c.args.to (page_with c.args.pages.now c.args.from))) (lt-leb c.args.to c.args.from (omega (arith, c.requires.order)))
    ∙ ap (range_by m a c.args.from c.args.to) (sym c.page_with.ensures ∙ none))

pub returns-in_default-clause-last : goal.returns-in_default-clause-last
returns-in_default-clause-last g c =
    let none : c.page_with.result ≡ None = search rules in
    past_last c.args.pages.now c.args.from c.args.to (sym c.page_with.ensures ∙ none)

pub returns-in_err-room-clause-whole : goal.returns-in_err-room-clause-whole
returns-in_err-room-clause-whole g c = λ h whole. short_unrefused _ c.from_residual.ensures.1

-- ---- page by page

pub loop-i-init : goal.loop-i-init
loop-i-init g c =
    let m = g.D.Disk.content c.args.disk.now in
    let a = ranged c.args.path.now c.args.pages.now in
    let found : page_with c.args.pages.now c.args.from ≡ Some c.in-Some.first = sym c.page_with.ensures ∙ c.in-Some.is in
    record {
      reads = reads_none g.D.Disk c.args.disk.now ⊥ (λ n. n);
      count = c.page_count-count.ensures;
      value = λ h.
          ap (behind c.args.bytes.now.items)
          (ap (λ b. cond b (Ok []) (range_by m a c.args.from c.args.to (page_with c.args.pages.now c.args.from))) (lt-leb c.args.to c.args.from (omega (arith, c.requires.order)))
          ∙ ap (range_by m a c.args.from c.args.to) found
          ∙ ap (λ n. range_from m a c.args.from c.args.to (n - c.in-Some.first) c.in-Some.first) (sym c.page_count-count.ensures));
      given = λ h. tt;
      last = refl;
      size = omega arith;
    }

pub returns-in_err-page-clause-reads : goal.returns-in_err-page-clause-reads
returns-in_err-page-clause-reads g c = reads_then g.D.Disk _ _ _ ⊥ _ _ c.loop-i.invariant.reads c.read_page_range.ensures.reads (λ f. inr (search rules))

pub returns-in_err-page-clause-whole : goal.returns-in_err-page-clause-whole
returns-in_err-page-clause-whole g c = let d = g.D.Disk in λ h whole.
    let reads = c.loop-i.invariant.reads in
    handed_unrefused _ _ c.from_residual-in_err-page.ensures.1
    (c.in_err-page.ensures.whole (reads.serves.kept.0 h) (subst (λ m. StandsWhole m c.args.pages.now) (sym (reads.same h)) whole))

pub returns-in_err-page-clause-exact : goal.returns-in_err-page-clause-exact
returns-in_err-page-clause-exact g c = let d = g.D.Disk in λ h.
    let m = d.content c.args.disk.now in
    let a = ranged c.args.path.now c.args.pages.now in
    let i = c.loop-i.i in
    let count = c.page_count-count.result in
    let from = c.args.from in
    let to = c.args.to in
    let old = c.loop-i.bytes.items in
    let reads = c.loop-i.invariant.reads in
    let below : i < count = omega arith in
    let early : nat_le to (start_by c.args.pages.now i) ≡ false = lt-leb to (start_by c.args.pages.now i) (omega (arith, c.start.ensures)) in
    page_stops {A = Option ReadPage} ReadPage (λ _. c.read_page_range.new.bytes.items) old c.read_page_range.new.bytes.items (behind c.args.bytes.now.items (range_at m a from to))
    (range_from m a from to (count - (i + 1)) (i + 1)) (page_range m a i from to)
    _ _ c.from_residual-in_err-page.ensures.1
    (c.loop-i.invariant.value h ∙ ap (behind old) (range_more m a from to count i below early))
    (subst (λ f. Gives {A = ReadPage} (λ _. c.read_page_range.new.bytes.items) (Err c.in_err-page.field-0.0) (behind old (page_range f a i from to))) (reads.same h)
    (c.in_err-page.ensures.exact (reads.serves.kept.0 h)))

pub loop-i-preserved : goal.loop-i-preserved
loop-i-preserved g c = let d = g.D.Disk in
    let m = d.content c.args.disk.now in
    let a = ranged c.args.path.now c.args.pages.now in
    let i = c.loop-i.i in
    let count = c.page_count-count.result in
    let from = c.args.from in
    let to = c.args.to in
    let old = c.loop-i.bytes.items in
    let x = c.in_ok-page.page in
    let reads = c.loop-i.invariant.reads in
    let below : i < count = omega arith in
    let within : i < page_count (pages_by c.args.pages.now).count = omega (arith, below, c.page_count-count.ensures) in
    let low : start_by c.args.pages.now i < to = omega (arith, c.start.ensures) in
    let early : nat_le to (start_by c.args.pages.now i) ≡ false = lt-leb to (start_by c.args.pages.now i) low in
    record {
      reads = reads_then d _ _ _ ⊥ _ ⊥ reads c.read_page_range.ensures.reads inl;
      count = c.loop-i.invariant.count;
      value = λ h.
          page_given old c.read_page_range.new.bytes.items (behind c.args.bytes.now.items (range_at m a from to)) (range_from m a from to (count - (i + 1)) (i + 1)) (page_range m a i from to)
          (c.loop-i.invariant.value h ∙ ap (behind old) (range_more m a from to count i below early))
          (ap (λ f. behind old (page_range f a i from to)) (sym (reads.same h)) ∙ c.in_ok-page.ensures.exact (reads.serves.kept.0 h));
      given = λ h. subst (λ f. ReadsPage f a x) (reads.same h) (c.in_ok-page.ensures.given (reads.serves.kept.0 h));
      last = last_next c.args.pages.now to c.in-Some.first i c.loop-i.last x c.loop-i.invariant.last within low c.in_ok-page.ensures.page;
      size = fits_more c.args.pages.now i from to (length c.args.bytes.now.items) old c.read_page_range.new.bytes.items c.requires.order low c.in_ok-page.ensures.size c.loop-i.invariant.size;
    }

-- ---- a page that begins where the range ends or behind it

pub returns-then-start-to-clause-exact : goal.returns-then-start-to-clause-exact
returns-then-start-to-clause-exact g c = λ h.
    let i = c.loop-i.i in
    let below : i < c.page_count-count.result = omega arith in
    let past : nat_le c.args.to (start_by c.args.pages.now i) ≡ true = le-leb c.args.to (start_by c.args.pages.now i) (omega (arith, c.start.ensures)) in
    c.loop-i.invariant.value h
    ∙ behind_none c.loop-i.bytes.items _ (range_past (g.D.Disk.content c.args.disk.now) (ranged c.args.path.now c.args.pages.now) c.args.from c.args.to c.page_count-count.result i below past)

pub returns-then-start-to-clause-given : goal.returns-then-start-to-clause-given
returns-then-start-to-clause-given g c = λ h. c.loop-i.invariant.given h

pub returns-then-start-to-clause-last : goal.returns-then-start-to-clause-last
returns-then-start-to-clause-last g c =
    last_is c.args.pages.now c.args.from c.args.to c.in-Some.first c.loop-i.i c.loop-i.last (omega (arith, c.requires.order)) (sym c.page_with.ensures ∙ c.in-Some.is) c.loop-i.invariant.last
    (λ below. omega (arith, c.start.ensures))

pub returns-then-start-to-clause-size : goal.returns-then-start-to-clause-size
returns-then-start-to-clause-size g c = omega (arith, c.loop-i.invariant.size)

-- ---- no page more

pub returns-clause-exact : goal.returns-clause-exact
returns-clause-exact g c = λ h.
    let i = c.loop-i.i in
    let past : c.page_count-count.result ≤ i = omega arith in
    c.loop-i.invariant.value h
    ∙ behind_none c.loop-i.bytes.items _ (range_done (g.D.Disk.content c.args.disk.now) (ranged c.args.path.now c.args.pages.now) c.args.from c.args.to c.page_count-count.result i past)

pub returns-clause-given : goal.returns-clause-given
returns-clause-given g c = λ h. c.loop-i.invariant.given h

pub returns-clause-last : goal.returns-clause-last
returns-clause-last g c =
    let past : c.page_count-count.result ≤ c.loop-i.i = omega arith in
    last_is c.args.pages.now c.args.from c.args.to c.in-Some.first c.loop-i.i c.loop-i.last (omega (arith, c.requires.order)) (sym c.page_with.ensures ∙ c.in-Some.is) c.loop-i.invariant.last
    (λ below. absurd (omega (arith, below, past, c.page_count-count.ensures)))

pub returns-clause-size : goal.returns-clause-size
returns-clause-size g c = omega (arith, c.loop-i.invariant.size)
