use Rattle.std.proofs.Common.{◌≡◌, List, [], ◌∷◌, length, true, refl, subst, arith, rules}
use Rattle.std.specs.List.{flat_map}
use Rattle.port_traits.specs.Bytes.{Writes}
use Rattle.store_types.specs.declared.order.Entry.{Entry}
use Rattle.store_files.specs.Order.{entry_text}
use Rattle.order_file.proofs.Writes.{Writes-none, part_then, part_failed}
use Rattle.order_file.proofs.writing.put_entries.Goals as goal

pub loop-rest-init : goal.loop-rest-init
loop-rest-init g c = record { ends = λ d all writes. writes; later = omega arith }

pub returns-in_err-put_part-clause-text : goal.returns-in_err-put_part-clause-text
returns-in_err-put_part-clause-text g c =
    c.loop-rest.invariant.ends _ _
    (part_failed _ _ _ c.loop-rest.rest.now c.split_at.result.0.now c.split_at.result.1.now c.from_residual.result c.split_at.ensures.front c.split_at.ensures.back
    c.from_residual.ensures.0 c.in_err-put_part.ensures.text)

pub loop-rest-preserved : goal.loop-rest-preserved
loop-rest-preserved g c = record {
  ends = λ d all writes. c.loop-rest.invariant.ends d all
      (part_then _ _ d _ c.loop-rest.rest.now c.split_at.result.0.now c.split_at.result.1.now all c.split_at.ensures.front c.split_at.ensures.back c.in_ok-put_part.ensures.text writes);
  later = omega arith;
}

none : (rest : List Entry) → length rest ≡ 0 → [] ≡ rest
none [] is = refl
none (e ∷ rest) is = absurd (omega arith)

pub returns-clause-text : goal.returns-clause-text
returns-clause-text g c =
    let empty : length c.loop-rest.rest.now ≡ 0 = search rules in
    c.loop-rest.invariant.ends _ true
    (subst (λ rest. Writes (g.K.Sink.taken c.loop-rest.sink) (g.K.Sink.taken c.loop-rest.sink) (flat_map entry_text rest) true) (none c.loop-rest.rest.now empty) (Writes-none _))
