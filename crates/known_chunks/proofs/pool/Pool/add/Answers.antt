use Rattle.std.proofs.Common.{ap, ◌∙◌}
use Rattle.std.specs.FinMap.{insert}
use Rattle.std.proofs.lemmas.Result.{on_ok_weaker}
use Rattle.known_chunks.specs.Lengths.{joined_all}
use Rattle.known_chunks.proofs.Pools.{pool_insert}
use Rattle.known_chunks.proofs.pool.Pool.add.Goals as goal

pub returns-clause-ok : goal.returns-clause-ok
returns-clause-ok c =
    let ns = c.self.inside.joined.items in
    on_ok_weaker c.add.result
    (λ added. ap (λ m. joined_all m ns) added ∙ pool_insert c.self.inside.own ns c.args.digest.now.0 c.args.length ∙ ap (λ m. insert m c.args.digest.now.0 c.args.length) c.self.view_is)
    c.add.ensures.ok
