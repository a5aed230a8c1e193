use Rattle.std.proofs.Common.{◌≡◌, suc, ◌+◌, ◌-◌, List, [], sym, ap, ◌∙◌, arith}
use Rattle.wire_commands.specs.Fields.{whole, many_at}
use Rattle.wire_commands.proofs.BodyLaws.{some}
use Rattle.wire_commands.proofs.ManyLaws.{prefixed, prefixed_nil, none_read, some_read, read_none, read_more, read_all}
use Rattle.wire_commands.proofs.many.values_in.Goals as goal

pub loop-place-init : goal.loop-place-init
loop-place-init g c =
    let all : c.args.count ≡ c.args.count - 0 = omega arith in
    sym (prefixed_nil (many_at g.R.Row.read c.args.count c.args.bytes.now))
    ∙ ap (λ n. prefixed [] (many_at g.R.Row.read n c.args.bytes.now)) all
    ∙ ap (λ (xs : List g.row.R.Denot). prefixed xs (many_at g.R.Row.read (c.args.count - 0) c.args.bytes.now)) (sym c.new-rows.ensures.items)

pub returns-in_default-clause-values : goal.returns-in_default-clause-values
returns-in_default-clause-values g c =
    let left : c.args.count - c.loop-place._place ≡ suc (c.args.count - (c.loop-place._place + 1)) = omega (arith, c.loop-place-test.true) in
    sym (ap whole (c.loop-place.invariant ∙ ap (λ n. prefixed c.loop-place.rows.items (many_at g.R.Row.read n c.loop-place.rest.now)) left
    ∙ read_none g.R.Row.read (c.args.count - (c.loop-place._place + 1)) c.loop-place.rows.items c.loop-place.rest.now (none_read _ _ _ c.in_default.is c.in_ok-row.ensures)))

pub loop-place-preserved : goal.loop-place-preserved
loop-place-preserved g c =
    let left : c.args.count - c.loop-place._place ≡ suc (c.args.count - (c.loop-place._place + 1)) = omega (arith, c.loop-place-test.true) in
    c.loop-place.invariant ∙ ap (λ n. prefixed c.loop-place.rows.items (many_at g.R.Row.read n c.loop-place.rest.now)) left
    ∙ read_more g.R.Row.read (c.args.count - (c.loop-place._place + 1)) c.loop-place.rows.items c.loop-place.rest.now c.in-Some.behind.now c.in-Some.row
    (some_read _ _ _ _ c.in-Some.is c.in_ok-row.ensures)
    ∙ ap (λ (xs : List g.row.R.Denot). prefixed xs (many_at g.R.Row.read (c.args.count - (c.loop-place._place + 1)) c.in-Some.behind.now)) (sym c.in_ok-push.ensures.items)

pub returns-clause-values : goal.returns-clause-values
returns-clause-values g c =
    let none : c.args.count - c.loop-place._place ≡ 0 = omega (arith, c.loop-place-test.false) in
    ap some c.from_vec.ensures
    ∙ read_all g.R.Row.read c.loop-place.rows.items c.loop-place.rest.now (many_at g.R.Row.read c.args.count c.args.bytes.now)
    (c.loop-place.invariant ∙ ap (λ n. prefixed c.loop-place.rows.items (many_at g.R.Row.read n c.loop-place.rest.now)) none) (sym c.if-not-are_values.ensures)
