use Rattle.std.proofs.Common.{length, None, refl}
use Rattle.prune_rules.specs.Slots.{choice, slot_in}
use Rattle.prune_rules.proofs.Taking.{reached_begin, reached_zero}
use Rattle.prune_rules.proofs.marking.take_periods.Goals as goal

pub returns-then-count-eq0-clause-slots : goal.returns-then-count-eq0-clause-slots
returns-then-count-eq0-clause-slots c =
    let ch = choice c.args.period c.args.count in
    let n = length c.args.items.now in
    let F = slot_in c.args.items.now c.args.covered.now c.args.into.now in
    reached_zero ch n F _ _ None c.args.count (reached_begin ch n F) (λ k. refl) c.if-count-eq0.true
