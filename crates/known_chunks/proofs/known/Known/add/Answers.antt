use Rattle.std.proofs.Common.{ap, ◌∙◌}
use Rattle.std.specs.FinMap.{insert}
use Rattle.known_chunks.proofs.Entries.{lengths_of-insert}
use Rattle.known_chunks.proofs.known.Known.add.Goals as goal

pub returns-clause-ok : goal.returns-clause-ok
returns-clause-ok c =
    lengths_of-insert c.args.digest.now c.args.length _ _ c.in_ok-insert.ensures.updates.0
    ∙ ap (λ m. insert m c.args.digest.now.0 c.args.length) c.self.view_is
