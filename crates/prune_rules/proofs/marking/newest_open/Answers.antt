use Rattle.std.proofs.Common.{arith, ◌+◌, sym, ◌∙◌, subst}
use Rattle.prune_rules.specs.Slots.{is_open, number_at, time_at, FirstOf}
use Rattle.prune_rules.proofs.First.{takes_over, stays_behind, passes_by}
use Rattle.prune_rules.proofs.marking.newest_open.Goals as goal
use Rattle.prune_rules.proofs.marking.newest_open.Goals.{then-is_open+then-goes_before, else-is_open, else-is_open-via-then-is_open+else-goes_before, else-is_open-via-else-is_open}

pub loop-k-preserved : goal.loop-k-preserved
loop-k-preserved c =
    let passes = is_open c.args.period c.args.items.now c.args.covered.now c.args.bound in
    let number = number_at c.args.period c.args.items.now in
    let time = time_at c.args.items.now in
    let order = c.args.order.now in
    let from = c.args.from in
    let k = c.loop-k.k in
    let i = c.place_at-i.result in
    let place = c.place_at-i.ensures.place in
    let best = c.loop-k.newest in
    let before = c.loop-k.invariant in
    elim c.if-is_open.branch [
      | then-is_open+then-goes_before w ↦ subst (FirstOf passes number time order from (k + 1)) (sym w.newest-is)
          (takes_over passes number time order from k i best place (omega arith) (sym c.is_open.ensures ∙ w.if-is_open.true) (sym w.goes_before.ensures ∙ w.if-goes_before.true) before)
      | else-is_open w ↦ subst (FirstOf passes number time order from (k + 1)) (sym w.newest-is)
          (elim w.else-is_open.branch [
            | else-is_open-via-then-is_open+else-goes_before v ↦
                stays_behind passes number time order from k i best place (sym v.goes_before.ensures ∙ v.if-goes_before.false) before
            | else-is_open-via-else-is_open v ↦ passes_by passes number time order from k i best place (sym c.is_open.ensures ∙ v.if-is_open.false) before
          ])
    ]
