use Rattle.std.proofs.Common.{List, sym, subst}
use Rattle.std.specs.Prelude.{All}
use Rattle.std.proofs.lemmas.List.Elements.{All-push}
use Rattle.wire_commands.specs.declared.rows.FaultRow.{FaultRow}
use Rattle.store_model.specs.FaultRows.{IsFitRow}
use Rattle.plain_lanes.proofs.VerifyLemmas.{row_tested}
use Rattle.plain_lanes.proofs.verify.push_fault.Goals as goal

pub returns-clause-spelled : goal.returns-clause-spelled
returns-clause-spelled c =
    let row : FaultRow = record { file = c.args.row.file; fault = c.in-Some.fault } in
    let fits = (rw c.in-Some.is at c.requires.fault) in
    subst (λ (rows : List FaultRow). All IsFitRow rows) (sym c.in_ok-push.ensures.items)
    (All-push IsFitRow c.args.faults.items row c.requires.faults (row_tested c.args.row.file c.in-Some.fault c.requires.row.0 fits))
