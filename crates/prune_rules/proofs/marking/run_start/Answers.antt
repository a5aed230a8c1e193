use Rattle.std.proofs.Common.{◌≡◌, ◌<◌, ◌≤◌, ℕ, sym, ◌∙◌, arith}
use Rattle.prune_rules.specs.Slots.{StartsRun, number_in}
use Rattle.prune_rules.proofs.marking.run_start.Goals as goal

run_of : (number : ℕ → ℕ) (own start end : ℕ) → start < end → ((k : ℕ) → start ≤ k → k < end → number k ≡ own) →
    ((k : ℕ) → k < start → number k < own) → StartsRun number start end
run_of number own start end some same less =
    let here : number start ≡ own = same start (omega arith) some in
    record { some = some; same = λ k low high. same k low high ∙ sym here; less = λ k h. omega (arith, less k h, here) }

pub returns : goal.returns
returns c =
    run_of (number_in c.args.period c.args.items.now c.args.order.now) c.number_at-number.result c.loop-start.start c.args.end
    c.loop-start.invariant.0 c.loop-start.invariant.1 (λ k h. absurd (omega arith))
