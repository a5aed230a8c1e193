use Rattle.std.proofs.Common.{◌<◌, length, sym, zero-add, ◌∙◌, arith}
use Rattle.std.specs.List.{range_with_len}
use Rattle.std.proofs.lemmas.List.{ext_get_or}
use Rattle.std.proofs.lemmas.List.FromFn.{length-range_with_len, get_or-range_with_len}
use Rattle.prune_rules.proofs.order.number_places.Goals as goal

pub returns : goal.returns
returns c =
    let n = length c.args.order.now in
    ext_get_or 0 c.loop-place.order (range_with_len 0 n) (c.loop-place.auto.order ∙ sym (length-range_with_len 0 n))
    (λ k h.
    let early : k < n = omega (arith, c.loop-place.auto.order) in
    c.loop-place.invariant k (omega arith) ∙ sym (get_or-range_with_len 0 n k 0 early ∙ zero-add k))
