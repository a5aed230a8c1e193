use Rattle.std.proofs.Common.{◌∷◌, ◌++◌, [], map, sym, ap, arith, ◌∙◌}
use Rattle.std.specs.List.{range_with_len}
use Rattle.std.proofs.lemmas.List.FromFn.{map-range_with_len_more}
use Rattle.pbs_server.specs.Generating.{port_of}
use Rattle.pbs_server.proofs.generating.ports_of.Goals as goal

pub loop-k-preserved : goal.loop-k-preserved
loop-k-preserved c =
    let k = c.loop-k.k in
    c.in_ok-push.ensures.items ∙ ap (λ xs. xs ++ c.in_ok-port_of.field-0 ∷ []) c.loop-k.invariant
    ∙ ap (λ p. map port_of (range_with_len 0 k) ++ p ∷ []) c.in_ok-port_of.ensures ∙ sym (map-range_with_len_more port_of 0 k k (omega arith))
