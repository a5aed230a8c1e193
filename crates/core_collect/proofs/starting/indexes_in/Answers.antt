use Rattle.std.proofs.Common.{◌∙◌, ◌++◌, ap, arith}
use Rattle.core_collect.specs.Starting.{indexes_of}
use Rattle.core_collect.proofs.StartLemmas.{indexes_next}
use Rattle.core_collect.proofs.starting.indexes_in.Goals as goal

pub loop-listed-preserved : goal.loop-listed-preserved
loop-listed-preserved c =
    c.in_ok-push_indexes.ensures
    ∙ ap (λ is. is ++ indexes_of c.listed-item.result) c.loop-listed.invariant
    ∙ indexes_next c.args.catalogue.now c.loop-listed.listed-index c.listed-item.result (omega arith) c.listed-item.is
