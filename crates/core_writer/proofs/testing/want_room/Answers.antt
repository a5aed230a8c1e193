use Rattle.std.proofs.Common.{ap, sym, length, map, arith}
use Rattle.std.proofs.lemmas.Bool.{lt-ltb, le-ltb}
use Rattle.store_types.specs.Chain.Refusing.{unless}
use Rattle.store_types.specs.declared.refusal.Refusal.TheVariants.{TooMany}
use Rattle.core_state.specs.Found.{kept_in}
use Rattle.core_state.proofs.CatalogueLemmas.{kept_count}
use Rattle.core_writer.proofs.testing.want_room.Goals as goal

pub returns-then-count-lt-GROUP_LIMIT-clause-value : goal.returns-then-count-lt-GROUP_LIMIT-clause-value
returns-then-count-lt-GROUP_LIMIT-clause-value c =
    let count = kept_count c.args.group.now c.args.catalogue.now.listed in
    sym (ap (unless (TooMany 4096)) (lt-ltb (length (kept_in c.args.group.now (map (λ x. x.kept) c.args.catalogue.now.listed))) 4096 (omega (arith, count, c.count.ensures))))

pub returns-else-count-lt-GROUP_LIMIT-clause-value : goal.returns-else-count-lt-GROUP_LIMIT-clause-value
returns-else-count-lt-GROUP_LIMIT-clause-value c =
    let count = kept_count c.args.group.now c.args.catalogue.now.listed in
    sym (ap (unless (TooMany 4096)) (le-ltb (length (kept_in c.args.group.now (map (λ x. x.kept) c.args.catalogue.now.listed))) 4096 (omega (arith, count, c.count.ensures))))
