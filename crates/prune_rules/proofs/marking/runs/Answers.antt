use Rattle.std.proofs.Common.{not, ◌&&◌, sym, ap, ◌∙◌}
use Rattle.prune_rules.specs.Slots.{stands_at}
use Rattle.prune_rules.proofs.Newest.{runs_is}
use Rattle.prune_rules.proofs.marking.runs.Goals as goal

pub returns-then-not-items-i : goal.returns-then-not-items-i
returns-then-not-items-i c =
    c.is_at.ensures ∙ ap (λ b. not b && stands_at c.args.newest c.args.i) (sym c.if-not-items-i.true)
    ∙ runs_is c.args.items.now c.args.newest c.args.i c.requires.newest c.requires.within
