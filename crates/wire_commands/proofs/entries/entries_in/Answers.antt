use Rattle.std.proofs.Common.{ap, ◌∙◌, arith}
use Rattle.wire_commands.proofs.BodyLaws.{some}
use Rattle.wire_commands.proofs.EntryLaws.{rows_none, rows_some, rows_are}
use Rattle.wire_commands.proofs.entries.entries_in.Goals as goal

pub returns-then-rest-count-clause-entries : goal.returns-then-rest-count-clause-entries
returns-then-rest-count-clause-entries c =
    rows_none c.args.bytes.now c.in-Some.count c.in-Some.rest.now (λ i. omega (arith, c.type_inv.bytes i)) c.in-Some.ensures (λ e. omega (arith, e, c.if-rest-count.true))

pub returns-in_err-entries-clause-memory : goal.returns-in_err-entries-clause-memory
returns-in_err-entries-clause-memory c =
    rows_some c.args.bytes.now c.in-Some.count c.in-Some.rest.now c.in-Some.ensures (omega (arith, c.if-rest-count.false)) c.from_residual.result

pub returns-clause-entries : goal.returns-clause-entries
returns-clause-entries c =
    ap some c.from_vec.ensures
    ∙ rows_are c.args.bytes.now c.in-Some.count c.in-Some.rest.now c.in_ok-entries.entries.items c.in-Some.ensures (omega (arith, c.if-rest-count.false))
    c.in_ok-entries.ensures.spelled c.in_ok-entries.ensures.fit
