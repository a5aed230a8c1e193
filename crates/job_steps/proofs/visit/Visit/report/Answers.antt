use Rattle.std.proofs.Common.{sym, ap, subst, List, arith}
use Rattle.wire_commands.specs.declared.rows.FaultRow.{FaultRow}
use Rattle.wire_commands.specs.declared.reply.Reply.TheVariants.{Verified}
use Rattle.wire_commands.specs.HasText.{ReplyHasText}
use Rattle.store_model.proofs.VerifyLemmas.{rows_of_test, verified_spelled}
use Rattle.job_steps.proofs.visit.Visit.report.Goals as goal

pub returns-clause-report : goal.returns-clause-report
returns-clause-report c =
    let v = c.args.self in
    ap (λ (rows : List FaultRow). Verified v.files v.entries v.bytes rows) c.from_vec.ensures

pub returns-clause-text : goal.returns-clause-text
returns-clause-text c =
    let v = c.args.self in
    subst (λ (rows : List FaultRow). ReplyHasText (Verified v.files v.entries v.bytes rows)) (sym c.from_vec.ensures)
    (verified_spelled v.files v.entries v.bytes v.faults.items (omega arith) (omega arith) (omega arith) v.few (rows_of_test v.faults.items v.spelled))
