use Rattle.std.proofs.Common.{None, Some, ap, sym, ◌∙◌}
use Rattle.core_admin.proofs.FactRows.{other_told}
use Rattle.core_admin.proofs.file_list.row_of.Goals as goal

pub returns-in_ok-row_with-in-Some-clause-value : goal.returns-in_ok-row_with-in-Some-clause-value
returns-in_ok-row_with-in-Some-clause-value c =
    ap (λ r. Some r) c.in_ok-row_with-in-Some.ensures.value
    ∙ other_told c.args.bytes.now c.args.listed.now c.args.name.now (sym c.is_manifest.ensures ∙ c.if-is_manifest.false) (Some c.in-Some.fact.now) c.in-Some.ensures

pub returns-in-None-clause-value : goal.returns-in-None-clause-value
returns-in-None-clause-value c =
    other_told c.args.bytes.now c.args.listed.now c.args.name.now (sym c.is_manifest.ensures ∙ c.if-is_manifest.false) None c.in-None.ensures
