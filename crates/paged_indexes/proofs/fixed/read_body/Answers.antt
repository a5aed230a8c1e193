use Rattle.std.proofs.Common.{◌≡◌, ◌+◌, ◌-◌, ◌*◌, ◌<◌, ◌≤◌, Some, length, drop, inl, inr, refl, sym, ap, subst, ◌∙◌, rules, arith}
use Rattle.std.proofs.lemmas.List.{length-drop}
use Rattle.std.specs.FinMap.{get}
use Rattle.store_files.specs.Cells.{cells}
use Rattle.index_pages.specs.Paged.{page_count}
use Rattle.index_pages.proofs.Carried.{by_err, short_not_failed}
use Rattle.index_pages.proofs.Cutting.{none_read, pages_end}
use Rattle.disk_trait.proofs.OnlyReading.{reads_none, reads_then}
use Rattle.paged_indexes.specs.Reading.{FixedBodyIs}
use Rattle.paged_indexes.specs.Fixed.{Cuts, ends_in, fixed_ends_from}
use Rattle.paged_indexes.proofs.Cells.{page_cells}
use Rattle.paged_indexes.proofs.Cutting.{cells_count, next_page, page_cuts, cuts_behind}
use Rattle.paged_indexes.proofs.AnyDisk.{fixed_all, fixed_more, fixed_none}
use Rattle.paged_indexes.proofs.Handed.{no_rest, rest_less, rest_none, rest_whole}
use Rattle.paged_indexes.proofs.Opened.{fixed_stopped}
use Rattle.index_pages.proofs.Calling.{calls_more, calls_none, calls_once, calls_then}
use Rattle.paged_indexes.proofs.fixed.read_body.Goals as goal

pub loop-i-init : goal.loop-i-init
loop-i-init g c = record {
  reads = reads_none g.D.Disk c.args.disk.now ⊥ (λ n. n);
  calls = calls_none g.D.Disk c.args.disk.now 0;
  sums = c.in_ok-opening.ensures.len;
  pages = c.pages_in-pages.ensures;
  progress = λ h text there len. none_read 32 (drop 4096 text) c.in_ok-opening.opening c.in_ok-opening.ensures.begins;
  cuts = let all : c.args.count ≡ c.args.count - 0 = omega arith in subst (Cuts c.args.cut 0) all c.requires.cuts;
  some = fixed_none g.T.TakesEntries.taken c.args.cut c.args.count c.in_ok-opening.opening c.args.taker.now c.in_ok-opening.ensures.begins;
  those = λ h text there len. rest_whole g.T.TakesEntries.taken 0 (ends_in c.args.cut 0 (drop 4096 text)) c.args.taker.now;
}

pub returns-in_err-take-clause-reads : goal.returns-in_err-take-clause-reads
returns-in_err-take-clause-reads g c = reads_then g.D.Disk _ _ _ ⊥ _ _ c.loop-i.invariant.reads c.take.ensures.reads (λ f. inr (search rules))

pub returns-in_err-take-clause-exact : goal.returns-in_err-take-clause-exact
returns-in_err-take-clause-exact g c = let d = g.D.Disk in λ h text there len.
    let count = c.args.count in
    let body = drop 4096 text in
    let reads = c.loop-i.invariant.reads in
    let now : get (d.content c.loop-i.disk) c.args.name.now ≡ Some text = ap (λ m. get m c.args.name.now) (reads.same h) ∙ there in
    by_err c.from_residual-in_err-take.result c.in_err-take.field-0.0 (λ r. FixedBodyIs body count r) c.from_residual-in_err-take.ensures.1
    (fixed_stopped body count c.loop-i.i c.loop-i.opening c.take.new.self c.take.new.room c.in_err-take.field-0.0
    (c.in_err-take.ensures.takes (reads.serves.kept.0 h) text now len))

pub loop-i-preserved : goal.loop-i-preserved
loop-i-preserved g c = let d = g.D.Disk in
    let reads = c.loop-i.invariant.reads in
    let below : c.loop-i.i < page_count c.args.count = omega (arith, c.loop-i-test.true, c.loop-i.invariant.pages) in
    record {
      reads = reads_then d _ _ _ ⊥ _ ⊥ reads c.take.ensures.reads inl;
      calls = calls_then d _ _ _ c.loop-i.i 1 reads.serves.kept.0 c.loop-i.invariant.calls (calls_once d _ _ c.take.ensures.calls);
      sums = omega (arith, c.in_ok-take.ensures.len, c.loop-i.invariant.sums);
      pages = c.loop-i.invariant.pages;
      progress = λ h text there len.
          let now : get (d.content c.loop-i.disk) c.args.name.now ≡ Some text = ap (λ m. get m c.args.name.now) (reads.same h) ∙ there in
          (c.in_ok-take.ensures.takes (reads.serves.kept.0 h) text now len).noted (c.loop-i.invariant.progress h text there len);
      cuts =
          cuts_behind c.args.cut c.loop-i.start c.in_ok-start.start c.args.count c.loop-i.i c.as_slice.result.now c.take.new.room below c.as_slice.ensures.value
          c.in_ok-take.ensures.size c.loop-i.invariant.cuts c.in_ok-start.ensures.end;
      some =
          let taken = c.in_ok-take.ensures in
          fixed_more g.T.TakesEntries.taken c.args.cut c.args.count c.loop-i.i c.loop-i.start c.in_ok-start.start c.loop-i.opening c.take.new.self c.take.new.room c.as_slice.result.now
          c.args.taker.now c.loop-i.taker c.hand_on.new.taker below c.as_slice.ensures.value taken.size taken.bytes taken.notes c.in_ok-start.ensures.end c.in_ok-start.ensures.hands
          c.loop-i.invariant.some;
      those = λ h text there len.
          let cut = c.args.cut in
          let count = c.args.count in
          let i = c.loop-i.i in
          let body = drop 4096 text in
          let all = cells 32 body in
          let size : length body ≡ count * 32 = omega (arith, len, length-drop 4096 text) in
          let now : get (d.content c.loop-i.disk) c.args.name.now ≡ Some text = ap (λ m. get m c.args.name.now) (reads.same h) ∙ there in
          let page = ap (cells 32) (c.as_slice.ensures.value ∙ (c.in_ok-take.ensures.takes (reads.serves.kept.0 h) text now len).bytes) ∙ page_cells 32 count i body (inl refl) size below in
          rest_less g.T.TakesEntries.taken 0 (ends_in cut 0 body) c.args.taker.now c.loop-i.start c.in_ok-start.start
          (fixed_ends_from cut.size cut.chunk_size c.loop-i.start (drop (i * 1024) all)) (ends_in cut c.loop-i.start c.as_slice.result.now)
          (fixed_ends_from cut.size cut.chunk_size c.in_ok-start.start (drop ((i + 1) * 1024) all)) c.loop-i.taker c.hand_on.new.taker
          (next_page cut c.loop-i.start c.in_ok-start.start i all c.as_slice.result.now page c.in_ok-start.ensures.end) (sym c.in_ok-start.ensures.end)
          (c.loop-i.invariant.those h text there len) c.in_ok-start.ensures.hands;
    }

pub hand_on-requires : goal.hand_on-requires
hand_on-requires g c =
    let below : c.loop-i.i < page_count c.args.count = omega (arith, c.loop-i-test.true, c.loop-i.invariant.pages) in
    page_cuts c.args.cut c.loop-i.start c.args.count c.loop-i.i c.as_slice.result.now c.take.new.room below c.as_slice.ensures.value c.in_ok-take.ensures.size c.loop-i.invariant.cuts

pub returns-in_err-start-clause-reads : goal.returns-in_err-start-clause-reads
returns-in_err-start-clause-reads g c =
    reads_then g.D.Disk _ _ _ ⊥ _ _ c.loop-i.invariant.reads c.take.ensures.reads (λ f. absurd (short_not_failed _ c.from_residual-in_err-start.ensures.1 f))

pub returns-clause-some : goal.returns-clause-some
returns-clause-some g c =
    let past : c.loop-i.i ≡ page_count c.args.count = omega (arith, c.loop-i-test.false, c.loop-i.auto.i-end, c.loop-i.invariant.pages) in
    fixed_all g.T.TakesEntries.taken c.args.cut c.args.count c.loop-i.i c.loop-i.start c.loop-i.opening c.close.result c.args.taker.now c.loop-i.taker past c.close.ensures.closes c.loop-i.invariant.some

pub returns-clause-those : goal.returns-clause-those
returns-clause-those g c = λ h text there len.
    let cut = c.args.cut in
    let count = c.args.count in
    let i = c.loop-i.i in
    let body = drop 4096 text in
    let size : length body ≡ count * 32 = omega (arith, len, length-drop 4096 text) in
    let past : page_count count ≤ i = omega (arith, c.loop-i-test.false, c.loop-i.auto.i-end, c.loop-i.invariant.pages) in
    rest_none g.T.TakesEntries.taken 0 (ends_in cut 0 body) c.args.taker.now c.loop-i.start
    (fixed_ends_from cut.size cut.chunk_size c.loop-i.start (drop (i * 1024) (cells 32 body))) c.loop-i.taker
    (ap (fixed_ends_from cut.size cut.chunk_size c.loop-i.start) (no_rest count i (cells 32 body) (cells_count count body size) past)) (c.loop-i.invariant.those h text there len)

pub returns-clause-exact : goal.returns-clause-exact
returns-clause-exact g c = λ h text there len.
    let count = c.args.count in
    let i = c.loop-i.i in
    let body = drop 4096 text in
    let size : length body ≡ count * 32 = omega (arith, len, length-drop 4096 text) in
    let past : i ≡ page_count count = omega (arith, c.loop-i-test.false, c.loop-i.auto.i-end, c.loop-i.invariant.pages) in
    pages_end 32 count i body c.loop-i.opening c.close.result (inl refl) size past (c.loop-i.invariant.progress h text there len) c.close.ensures.closes

pub returns-in_err-take-clause-calls : goal.returns-in_err-take-clause-calls
returns-in_err-take-clause-calls g c = let d = g.D.Disk in
    let within : c.loop-i.i + 1 ≤ page_count c.args.count = omega (arith, c.loop-i-test.true, c.loop-i.invariant.pages) in
    calls_more d _ _ _ _ within (calls_then d _ _ _ c.loop-i.i 1 c.loop-i.invariant.reads.serves.kept.0 c.loop-i.invariant.calls (calls_once d _ _ c.take.ensures.calls))

pub returns-in_err-start-clause-calls : goal.returns-in_err-start-clause-calls
returns-in_err-start-clause-calls g c = let d = g.D.Disk in
    let within : c.loop-i.i + 1 ≤ page_count c.args.count = omega (arith, c.loop-i-test.true, c.loop-i.invariant.pages) in
    calls_more d _ _ _ _ within (calls_then d _ _ _ c.loop-i.i 1 c.loop-i.invariant.reads.serves.kept.0 c.loop-i.invariant.calls (calls_once d _ _ c.take.ensures.calls))

pub returns-clause-calls : goal.returns-clause-calls
returns-clause-calls g c =
    let past : c.loop-i.i ≤ page_count c.args.count = omega (arith, c.loop-i-test.false, c.loop-i.auto.i-end, c.loop-i.invariant.pages) in
    calls_more g.D.Disk _ _ _ _ past c.loop-i.invariant.calls
