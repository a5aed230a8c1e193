use Rattle.std.proofs.Common.{map, ap, ap₂, ◌∙◌}
use Rattle.std.specs.FinMap.{remove}
use Rattle.std.proofs.lemmas.List.{with_items_is}
use Rattle.known_chunks.specs.Lengths.{Lengths, joined_all}
use Rattle.known_chunks.proofs.Pools.{pool_remove}
use Rattle.known_chunks.proofs.pool.Pool.remove.Goals as goal

pub returns : goal.returns
returns c =
    let q = c.args.digest.now.0 in
    ap₂ joined_all c.remove.ensures (with_items_is c.self.inside.joined c.remove_in.new.maps (cc (c.remove_in.auto.maps, c.deref_mut.ensures.len)) ∙ c.remove_in.ensures ∙ ap (map (λ (m : Lengths). remove m q)) c.deref_mut.ensures.value)
    ∙ pool_remove c.self.inside.own c.self.inside.joined.items q ∙ ap (λ m. remove m q) c.self.view_is
