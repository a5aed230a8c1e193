use Rattle.std.proofs.Common.{get_or, ap, ◌∙◌}
use Rattle.job_steps.proofs.BatchLemmas.{next_is}
use Rattle.job_steps.proofs.chunks.Chunks.next.Goals as goal

pub returns : goal.returns
returns c =
    let chunks = c.args.self.now in
    next_is chunks c.requires c.index.result.now (c.index.ensures ∙ ap (λ n. get_or chunks.entries.items n c.index.result.now) c.place.ensures)
