use Rattle.std.proofs.Common.{◌≤◌, [], length, ap, sym, ◌∙◌, arith}
use Rattle.std.proofs.lemmas.List.{drop_all}
use Rattle.core_state.specs.Upkeeps.{touched_in}
use Rattle.core_state.proofs.Touching.{touch_next}
use Rattle.core_state.proofs.upkeep.touch_each.Goals as goal

pub loop-digest-preserved : goal.loop-digest-preserved
loop-digest-preserved c =
    touch_next c.args.book.now c.loop-digest.book c.touch_known.new.self c.args.digests.now c.loop-digest.digest-index c.args.moment (record { 0 = [] })
    c.loop-digest-test.true c.touch_known.ensures c.loop-digest.invariant

pub returns : goal.returns
returns c = λ d.
    let all : length c.args.digests.now ≤ c.loop-digest.digest-index = omega arith in
    ap (λ ds. touched_in c.loop-digest.book ds c.args.moment d) (sym (drop_all c.loop-digest.digest-index c.args.digests.now all)) ∙ c.loop-digest.invariant d
