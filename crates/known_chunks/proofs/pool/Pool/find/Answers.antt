use Rattle.std.proofs.Common.{sym, ap, ◌∙◌}
use Rattle.std.specs.FinMap.{get}
use Rattle.known_chunks.specs.Lengths.{first_of, found_in}
use Rattle.known_chunks.proofs.Pools.{found_pool}
use Rattle.known_chunks.proofs.pool.Pool.find.Goals as goal

pub returns-in-Some : goal.returns-in-Some
returns-in-Some c =
    let q = c.args.digest.now.0 in
    let ns = c.self.inside.joined.items in
    sym (ap (λ m. get m q) (sym c.self.view_is) ∙ found_pool c.self.inside.own ns q ∙ ap (λ o. first_of o (found_in q ns)) (sym c.in-Some.ensures))

pub returns-in-None : goal.returns-in-None
returns-in-None c =
    let q = c.args.digest.now.0 in
    let ns = c.self.inside.joined.items in
    c.find_in.ensures ∙ ap (found_in q) c.deref.ensures.value
    ∙ sym (ap (λ m. get m q) (sym c.self.view_is) ∙ found_pool c.self.inside.own ns q ∙ ap (λ o. first_of o (found_in q ns)) (sym c.in-None.ensures))
