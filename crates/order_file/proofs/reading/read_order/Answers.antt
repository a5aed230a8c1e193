use Rattle.std.proofs.Common.{◌≡◌, ◌-◌, List, [], length, take, drop, Option, sym, ap, subst, ◌∙◌, arith}
use Rattle.std.proofs.lemmas.List.{take_all, length-drop}
use Rattle.std.specs.Prelude.{IfOk, option_map}
use Rattle.store_types.specs.declared.order.Entry.{Entry}
use Rattle.order_file.specs.Progress.{begun, entries_at, joined}
use Rattle.order_file.proofs.Whole.{order_is, no_order}
use Rattle.order_file.proofs.reading.read_order.Goals as goal

pub returns-then-not-is_text : goal.returns-then-not-is_text
returns-then-not-is_text c = no_order c.args.lanes c.args.bytes.now (sym c.if-not-is_text.ensures.exact)

pub returns : goal.returns
returns c =
    let bytes = c.args.bytes.now in
    let rest : take (length bytes - 8) (drop 8 bytes) ≡ drop 8 bytes = take_all _ _ (omega (arith, length-drop 8 bytes)) in
    subst (λ (x : Option (List Entry)). IfOk c.entries_in.result (λ order. option_map (λ v. v.items) order ≡ x))
    (ap (λ text. joined (begun c.args.lanes) [] (entries_at text)) rest ∙ order_is c.args.lanes bytes (sym c.if-not-is_text.ensures.exact)) c.entries_in.ensures
