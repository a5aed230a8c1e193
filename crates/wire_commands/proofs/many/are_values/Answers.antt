use Rattle.std.proofs.Common.{◌≡◌, suc, ◌+◌, ◌-◌, sym, ap, ◌∙◌, arith}
use Rattle.wire_commands.proofs.ManyLaws.{are_all, none_behind, some_behind, all_zero}
use Rattle.wire_commands.proofs.many.are_values.Goals as goal

pub returns-in_default : goal.returns-in_default
returns-in_default g c =
    let left : c.args.count - c.loop-place._place ≡ suc (c.args.count - (c.loop-place._place + 1)) = omega (arith, c.loop-place-test.true) in
    sym (c.loop-place.invariant ∙ ap (λ n. are_all g.R.Row.read n c.loop-place.rest.now) left
    ∙ none_behind g.R.Row.read (c.args.count - (c.loop-place._place + 1)) c.loop-place.rest.now c.in_default.ensures)

pub loop-place-preserved : goal.loop-place-preserved
loop-place-preserved g c =
    let left : c.args.count - c.loop-place._place ≡ suc (c.args.count - (c.loop-place._place + 1)) = omega (arith, c.loop-place-test.true) in
    c.loop-place.invariant ∙ ap (λ n. are_all g.R.Row.read n c.loop-place.rest.now) left
    ∙ some_behind g.R.Row.read (c.args.count - (c.loop-place._place + 1)) c.loop-place.rest.now c.in-Some.behind.now c.in-Some.ensures

pub returns : goal.returns
returns g c =
    let none : c.args.count - c.loop-place._place ≡ 0 = omega (arith, c.loop-place-test.false) in
    c.is_empty.ensures ∙ sym (c.loop-place.invariant ∙ ap (λ n. are_all g.R.Row.read n c.loop-place.rest.now) none ∙ all_zero g.R.Row.read c.loop-place.rest.now)
