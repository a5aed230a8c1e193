use Rattle.std.proofs.Common.{ap, ◌∙◌}
use Rattle.std.specs.FinMap.{remove}
use Rattle.known_chunks.proofs.Entries.{lengths_of-remove}
use Rattle.known_chunks.proofs.known.Known.remove.Goals as goal

pub returns : goal.returns
returns c =
    lengths_of-remove c.args.digest.now _ _ c.remove.ensures.updates.0
    ∙ ap (λ m. remove m c.args.digest.now.0) c.self.view_is
