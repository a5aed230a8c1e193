use Rattle.std.proofs.Common.{◌≡◌, ◌+◌, ◌*◌, ◌<◌, ◌≤◌, ◌++◌, Some, length, take, drop, inl, inr, refl, sym, ap, subst, ◌∙◌, rules, arith}
use Rattle.std.proofs.lemmas.List.{length-drop}
use Rattle.std.specs.FinMap.{get}
use Rattle.index_pages.specs.Paged.{page_count}
use Rattle.index_pages.proofs.Carried.{by_err}
use Rattle.disk_trait.proofs.OnlyReading.{reads_none, reads_then}
use Rattle.paged_indexes.specs.declared.reading.DynamicBody.{DynamicBody}
use Rattle.paged_indexes.specs.Reading.{BodyIs}
use Rattle.paged_indexes.specs.Steps.{entries_of}
use Rattle.paged_indexes.proofs.Entries.{entries_count, page_entries_are}
use Rattle.paged_indexes.proofs.AnyDisk.{some_all, some_more, some_none}
use Rattle.paged_indexes.proofs.Handed.{HandsRest, no_rest, page_and_rest, rest_less, rest_none, rest_whole}
use Rattle.paged_indexes.proofs.Stepping.{begins, body_stopped, none_rise, progress_ends, progress_fails, progress_more, stepped_last}
use Rattle.index_pages.proofs.Calling.{calls_more, calls_none, calls_once, calls_then}
use Rattle.paged_indexes.proofs.reading.read_body.Goals as goal

pub loop-i-init : goal.loop-i-init
loop-i-init g c =
    let made = c.in_ok-reading.ensures in
    let taken = g.T.TakesEntries.taken in
    let taker = c.args.taker.now in
    record {
      reads = reads_none g.D.Disk c.args.disk.now ⊥ (λ n. n);
      calls = calls_none g.D.Disk c.args.disk.now 0;
      sums = made.len;
      ends = ap length made.ends;
      rises = none_rise c.in_ok-reading.reading made.ends;
      pages = c.pages_in-pages.ensures;
      progress = λ h text there len. begins (drop 4096 text) c.in_ok-reading.reading made.begins made.ends made.start;
      some = some_none taken c.args.count c.in_ok-reading.reading taker made.begins made.ends made.start;
      those = λ h text there len.
          subst (λ n. HandsRest taken 0 (entries_of (drop 4096 text)) taker n (entries_of (drop 4096 text)) taker) (sym made.start)
          (rest_whole taken 0 (entries_of (drop 4096 text)) taker);
    }

pub returns-in_err-take-clause-reads : goal.returns-in_err-take-clause-reads
returns-in_err-take-clause-reads g c = reads_then g.D.Disk _ _ _ ⊥ _ _ c.loop-i.invariant.reads c.take.ensures.reads (λ f. inr (search rules))

pub returns-in_err-take-clause-exact : goal.returns-in_err-take-clause-exact
returns-in_err-take-clause-exact g c = let d = g.D.Disk in λ h text there len.
    let count = c.args.count in
    let i = c.loop-i.i in
    let body = drop 4096 text in
    let size : length body ≡ count * 40 = omega (arith, len, length-drop 4096 text) in
    let below : i < page_count count = omega (arith, c.loop-i-test.true, c.loop-i.invariant.pages) in
    let reads = c.loop-i.invariant.reads in
    let now : get (d.content c.loop-i.disk) c.args.name.now ≡ Some text = ap (λ m. get m c.args.name.now) (reads.same h) ∙ there in
    by_err c.from_residual-in_err-take.result c.in_err-take.field-0.0 (λ r. BodyIs body count r) c.from_residual-in_err-take.ensures.1
    (body_stopped body count i c.loop-i.reading c.take.new.self c.take.new.room c.in_err-take.field-0.0
    (c.in_err-take.ensures.takes (reads.serves.kept.0 h) text now len)
    (progress_fails body count i c.loop-i.reading size below (c.loop-i.invariant.progress h text there len)))

pub loop-i-preserved : goal.loop-i-preserved
loop-i-preserved g c = let d = g.D.Disk in
    let reads = c.loop-i.invariant.reads in
    record {
      reads = reads_then d _ _ _ ⊥ _ ⊥ reads c.take.ensures.reads inl;
      calls = calls_then d _ _ _ c.loop-i.i 1 reads.serves.kept.0 c.loop-i.invariant.calls (calls_once d _ _ c.take.ensures.calls);
      sums = omega (arith, c.in_ok-take.ensures.len, c.loop-i.invariant.sums);
      ends = omega (arith, c.in_ok-take.ensures.ends, c.loop-i.invariant.ends);
      rises = c.in_ok-take.ensures.rises c.loop-i.invariant.rises;
      pages = c.loop-i.invariant.pages;
      progress = λ h text there len.
          let count = c.args.count in
          let i = c.loop-i.i in
          let body = drop 4096 text in
          let size : length body ≡ count * 40 = omega (arith, len, length-drop 4096 text) in
          let below : i < page_count count = omega (arith, c.loop-i-test.true, c.loop-i.invariant.pages) in
          let now : get (d.content c.loop-i.disk) c.args.name.now ≡ Some text = ap (λ m. get m c.args.name.now) (reads.same h) ∙ there in
          progress_more body count i c.loop-i.reading c.take.new.self c.take.new.room size below
          (c.loop-i.invariant.progress h text there len) (c.in_ok-take.ensures.takes (reads.serves.kept.0 h) text now len);
      some =
          let below : c.loop-i.i < page_count c.args.count = omega (arith, c.loop-i-test.true, c.loop-i.invariant.pages) in
          some_more g.T.TakesEntries.taken c.args.count c.loop-i.i c.loop-i.reading c.take.new.self c.take.new.room c.args.taker.now c.loop-i.taker c.take.new.taker below
          c.in_ok-take.ensures.hands c.loop-i.invariant.some;
      those = λ h text there len.
          let count = c.args.count in
          let i = c.loop-i.i in
          let body = drop 4096 text in
          let es = entries_of body in
          let size : length body ≡ count * 40 = omega (arith, len, length-drop 4096 text) in
          let below : i < page_count count = omega (arith, c.loop-i-test.true, c.loop-i.invariant.pages) in
          let now : get (d.content c.loop-i.disk) c.args.name.now ≡ Some text = ap (λ m. get m c.args.name.now) (reads.same h) ∙ there in
          let hands = c.in_ok-take.ensures.hands in
          let page : entries_of c.take.new.room ≡ take 1024 (drop (i * 1024) es) =
          ap entries_of (c.in_ok-take.ensures.takes (reads.serves.kept.0 h) text now len).bytes ∙ page_entries_are count i body size below in
          rest_less g.T.TakesEntries.taken 0 es c.args.taker.now c.loop-i.reading.end c.take.new.self.end (drop (i * 1024) es) (entries_of c.take.new.room) (drop ((i + 1) * 1024) es)
          c.loop-i.taker c.take.new.taker (page_and_rest i es ∙ ap (λ xs. xs ++ drop ((i + 1) * 1024) es) (sym page))
          (sym (stepped_last c.loop-i.reading.end c.take.new.self.end (entries_of c.take.new.room) hands.steps)) (c.loop-i.invariant.those h text there len) hands.hands;
    }

pub returns-clause-some : goal.returns-clause-some
returns-clause-some g c =
    let past : c.loop-i.i ≡ page_count c.args.count = omega (arith, c.loop-i-test.false, c.loop-i.auto.i-end, c.loop-i.invariant.pages) in
    let b : DynamicBody = record { body = c.close.result; ends = c.loop-i.reading.ends } in
    some_all g.T.TakesEntries.taken c.args.count c.loop-i.i c.loop-i.reading b c.args.taker.now c.loop-i.taker past c.close.ensures.closes refl c.loop-i.invariant.some

pub returns-clause-those : goal.returns-clause-those
returns-clause-those g c = λ h text there len.
    let count = c.args.count in
    let i = c.loop-i.i in
    let body = drop 4096 text in
    let size : length body ≡ count * 40 = omega (arith, len, length-drop 4096 text) in
    let past : page_count count ≤ i = omega (arith, c.loop-i-test.false, c.loop-i.auto.i-end, c.loop-i.invariant.pages) in
    rest_none g.T.TakesEntries.taken 0 (entries_of body) c.args.taker.now c.loop-i.reading.end (drop (i * 1024) (entries_of body)) c.loop-i.taker
    (no_rest count i (entries_of body) (entries_count count body size) past) (c.loop-i.invariant.those h text there len)

pub returns-clause-exact : goal.returns-clause-exact
returns-clause-exact g c = λ h text there len.
    let count = c.args.count in
    let i = c.loop-i.i in
    let body = drop 4096 text in
    let size : length body ≡ count * 40 = omega (arith, len, length-drop 4096 text) in
    let past : i ≡ page_count count = omega (arith, c.loop-i-test.false, c.loop-i.auto.i-end, c.loop-i.invariant.pages) in
    let b : DynamicBody = record { body = c.close.result; ends = c.loop-i.reading.ends } in
    progress_ends body count i c.loop-i.reading b size past (c.loop-i.invariant.progress h text there len) c.close.ensures.closes refl

pub returns-in_err-take-clause-calls : goal.returns-in_err-take-clause-calls
returns-in_err-take-clause-calls g c = let d = g.D.Disk in
    let within : c.loop-i.i + 1 ≤ page_count c.args.count = omega (arith, c.loop-i-test.true, c.loop-i.invariant.pages) in
    calls_more d _ _ _ _ within (calls_then d _ _ _ c.loop-i.i 1 c.loop-i.invariant.reads.serves.kept.0 c.loop-i.invariant.calls (calls_once d _ _ c.take.ensures.calls))

pub returns-clause-calls : goal.returns-clause-calls
returns-clause-calls g c =
    let past : c.loop-i.i ≤ page_count c.args.count = omega (arith, c.loop-i-test.false, c.loop-i.auto.i-end, c.loop-i.invariant.pages) in
    calls_more g.D.Disk _ _ _ _ past c.loop-i.invariant.calls
