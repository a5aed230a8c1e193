use Rattle.std.proofs.Common.{◌≤◌, length, subst, sym, ◌∙◌, rules}
use Rattle.core_admin.proofs.FactRows.{name_short}
use Rattle.core_admin.proofs.file_list.row_with.Goals as goal

pub returns-clause-fits : goal.returns-clause-fits
returns-clause-fits c =
    let short = name_short c.args.name.now c.as_slice.ensures.grammar in
    let same = c.in_ok-file.ensures ∙ c.as_slice.ensures.value in
    (subst (λ n. length n ≤ 64) (sym same) short, search rules, search rules)
