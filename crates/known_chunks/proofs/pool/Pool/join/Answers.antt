use Rattle.std.proofs.Common.{ap, ◌∙◌}
use Rattle.known_chunks.specs.Lengths.{joined, joined_all}
use Rattle.known_chunks.proofs.Pools.{pool_push}
use Rattle.known_chunks.proofs.pool.Pool.join.Goals as goal

pub returns-clause-ok : goal.returns-clause-ok
returns-clause-ok c =
    let own = c.self.inside.own in
    ap (joined_all own) c.in_ok-push.ensures.items ∙ pool_push own c.self.inside.joined.items c.args.known ∙ ap (λ m. joined m c.args.known) c.self.view_is
