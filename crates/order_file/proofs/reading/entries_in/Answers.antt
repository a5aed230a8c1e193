use Rattle.std.proofs.Common.{sym, ap, ◌∙◌}
use Rattle.store_files.specs.Order.{entry_of}
use Rattle.order_file.specs.Progress.{entries_at, joined}
use Rattle.order_file.proofs.Whole.{goes_on, stops, is_whole, lacks_end}
use Rattle.order_file.proofs.reading.entries_in.Goals as goal

pub returns-then-not-is_next : goal.returns-then-not-is_next
returns-then-not-is_next c =
    let reads = c.entry_of-entry.ensures ∙ ap entry_of c.split_at.ensures.front in
    stops _ c.loop-rest.entries.items c.loop-rest.rest.now _ c.loop-rest-test.true reads (sym c.if-not-is_next.ensures) ∙ c.loop-rest.invariant

pub loop-rest-preserved : goal.loop-rest-preserved
loop-rest-preserved c =
    let reads = c.entry_of-entry.ensures ∙ ap entry_of c.split_at.ensures.front in
    (λ i. joined (c.take.ensures i) (c.in_ok-push.ensures.items i) (entries_at c.split_at.result.1.now))
    ∙ goes_on _ c.loop-rest.entries.items c.loop-rest.rest.now _ _ c.loop-rest-test.true reads c.split_at.ensures.back (sym c.if-not-is_next.ensures)
    ∙ c.loop-rest.invariant

pub returns-then-not-is_over : goal.returns-then-not-is_over
returns-then-not-is_over c =
    lacks_end _ c.loop-rest.entries.items c.loop-rest.rest.now c.loop-rest-test.false (sym c.if-not-is_over.ensures) ∙ c.loop-rest.invariant

pub returns : goal.returns
returns c = is_whole _ c.loop-rest.entries.items c.loop-rest.rest.now c.loop-rest-test.false (sym c.if-not-is_over.ensures) ∙ c.loop-rest.invariant
