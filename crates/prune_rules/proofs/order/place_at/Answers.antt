use Rattle.std.proofs.Common.{rules, ◌≡◌, ◌<◌, length, sym, subst}
use Rattle.prune_rules.specs.Slots.{place_of}
use Rattle.prune_rules.proofs.Ordering.{places}
use Rattle.prune_rules.proofs.order.place_at.Goals as goal

pub returns-in-Some-clause-within : goal.returns-in-Some-clause-within
returns-in-Some-clause-within c =
    let same : c.in-Some.place.now ≡ place_of c.args.order.now c.args.k = search rules in
    subst (λ p. p < length c.args.items.now) (sym same)
    ((places (length c.args.items.now) c.args.order.now c.requires.order).within c.args.k c.requires.within)
