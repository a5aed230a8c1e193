use Rattle.std.proofs.Common.{◌+◌, ◌<◌, ◌∙◌, Bool, List, length, true, false, refl, sym, subst, arith}
use Rattle.prune_rules.specs.Slots.{is_finished_in}
use Rattle.prune_rules.proofs.Turning.{Turned, turned_set, turned_skip}
use Rattle.prune_rules.proofs.marking.cover.Goals as goal
use Rattle.prune_rules.proofs.marking.cover.Goals.{then-is_finished_in, else-is_finished_in}

pub loop-k-preserved : goal.loop-k-preserved
loop-k-preserved c =
    let f = is_finished_in c.args.period c.args.items.now c.args.number in
    let old = c.args.covered.now in
    let new = c.loop-k.covered in
    let order = c.args.order.now in
    let from = c.args.from in
    let k = c.loop-k.k in
    let i = c.place_at-i.result in
    let place = c.place_at-i.ensures.place in
    let within : i < length new = omega (arith, c.place_at-i.ensures.within, c.loop-k.auto.covered, c.requires.covered) in
    let after = λ (xs : List Bool). Turned (λ b. b) false f old xs order from (k + 1) in
    elim c.if-is_finished_in.branch [
      | then-is_finished_in w ↦ subst after (sym w.covered-is)
          (turned_set (λ b. b) false f old new order from k i true place within refl (sym c.is_finished_in.ensures ∙ w.if-is_finished_in.true) c.loop-k.invariant)
      | else-is_finished_in w ↦ subst after (sym w.covered-is)
          (turned_skip (λ b. b) false f old new order from k i place (sym c.is_finished_in.ensures ∙ w.if-is_finished_in.false) c.loop-k.invariant)
    ]
