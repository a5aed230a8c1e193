use Rattle.std.proofs.Common.{ℕ, ◌+◌, [], arith, true, refl, sym, ◌∙◌, subst}
use Rattle.prune_rules.specs.Slots.{NewestOf, time_at}
use Rattle.prune_rules.proofs.First.{takes_over, stays_behind}
use Rattle.prune_rules.proofs.marking.newest_of.Goals as goal
use Rattle.prune_rules.proofs.marking.newest_of.Goals.{then-is_later, else-is_later}

pub loop-i-preserved : goal.loop-i-preserved
loop-i-preserved c =
    let all = λ (k : ℕ). true in
    let level : ℕ → ℕ = λ k. 0 in
    let time = time_at c.args.items.now in
    let i = c.loop-i.i in
    let best = c.loop-i.newest in
    elim c.if-is_later.branch [
      | then-is_later w ↦ subst (NewestOf c.args.items.now (i + 1)) (sym w.newest-is)
          (takes_over all level time [] 0 i i best refl (omega arith) refl (sym c.is_later.ensures ∙ w.if-is_later.true) c.loop-i.invariant)
      | else-is_later w ↦ subst (NewestOf c.args.items.now (i + 1)) (sym w.newest-is)
          (stays_behind all level time [] 0 i i best refl (sym c.is_later.ensures ∙ w.if-is_later.false) c.loop-i.invariant)
    ]
