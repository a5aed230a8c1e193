use Rattle.std.proofs.Common.{◌∙◌, sym}
use Rattle.core_state.proofs.Collecting.{by_end, by_memory, by_off, by_other}
use Rattle.core_state.proofs.noting.note_entry.Goals as goal

pub returns-then-not-is_on : goal.returns-then-not-is_on
returns-then-not-is_on c = by_off c.args.lane c.args.collector.now c.args.kind (sym c.is_on.ensures ∙ c.if-not-is_on.true)

pub returns-then-kind-eq-MEMORY_KIND : goal.returns-then-kind-eq-MEMORY_KIND
returns-then-kind-eq-MEMORY_KIND c =
    c.cut_open.ensures ∙ by_memory c.args.lane c.args.collector.now c.args.kind c.if-kind-eq-MEMORY_KIND.true (sym c.is_on.ensures ∙ c.if-not-is_on.false)

pub returns-then-not-ends : goal.returns-then-not-ends
returns-then-not-ends c = by_other c.args.lane c.args.collector.now c.args.kind c.if-kind-eq-MEMORY_KIND.false (sym c.ends.ensures ∙ c.if-not-ends.true)

pub returns : goal.returns
returns c =
    by_end c.args.lane c.args.collector.now c.args.kind c.if-kind-eq-MEMORY_KIND.false (sym c.ends.ensures ∙ c.if-not-ends.false) (sym c.is_on.ensures ∙ c.if-not-is_on.false)
