use Rattle.std.proofs.Common.{◌≡◌, ◌-◌, ◌∙◌, ap, take, drop, length, arith, List, ℕ}
use Rattle.std.specs.Prelude.{min}
use Rattle.plain_store.proofs.Spelled.{part_spelled}
use Rattle.plain_store.proofs.PartLemmas.{part_within, part_short}
use Rattle.plain_store.proofs.parts.part_of.Goals as goal

pub returns-then-offset-total-clause-spelled : goal.returns-then-offset-total-clause-spelled
returns-then-offset-total-clause-spelled c = c.len-total.type_inv

pub returns-clause-gives : goal.returns-clause-gives
returns-clause-gives c =
    let text = c.args.text.items in
    let size : c.len-total.result ≡ length text = omega arith in
    let left = λ (t : List ℕ). take (length t - c.args.offset) (drop c.args.offset t) in
    part_within text c.in_ok-bytes.bytes c.args.offset c.len-total.result c.min.result size c.if-offset-total.false
    (c.min.ensures ∙ ap (λ t. min (length (left t)) 4194304) c.deref.ensures.value) (c.in_ok-bytes.ensures ∙ ap (λ t. take c.min.result (left t)) c.deref.ensures.value)

pub returns-clause-spelled : goal.returns-clause-spelled
returns-clause-spelled c =
    let left = λ (t : List ℕ). take (length t - c.args.offset) (drop c.args.offset t) in
    part_spelled c.len-total.result c.in_ok-bytes.bytes c.len-total.type_inv
    (part_short c.args.text.items c.in_ok-bytes.bytes c.args.offset c.min.result
    (c.min.ensures ∙ ap (λ t. min (length (left t)) 4194304) c.deref.ensures.value) (c.in_ok-bytes.ensures ∙ ap (λ t. take c.min.result (left t)) c.deref.ensures.value))
