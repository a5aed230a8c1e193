use Rattle.std.proofs.Common.{◌≤◌, List, ℕ, get_or, length, subst, arith}
use Rattle.command_line.proofs.Counts.{is_count, no_count}
use Rattle.command_line.proofs.reading.count_in.Goals as goal

pub returns-in-Ok : goal.returns-in-Ok
returns-in-Ok c =
    let first : 49 ≤ get_or c.as_bytes.result.now 0 0 = omega arith in
    let low = subst (λ (xs : List ℕ). 49 ≤ get_or xs 0 0) c.as_bytes.ensures.value first in
    is_count c.args.text.now c.parse.result c.parse.ensures.value.0 low c.in-Ok.n c.in-Ok.is (omega arith)

pub returns-in_default-parse-2 : goal.returns-in_default-parse-2
returns-in_default-parse-2 c =
    let first : 49 ≤ get_or c.as_bytes.result.now 0 0 = omega arith in
    let low = subst (λ (xs : List ℕ). 49 ≤ get_or xs 0 0) c.as_bytes.ensures.value first in
    let any : 1 ≤ length c.as_bytes.result.now = omega arith in
    let some = subst (λ (xs : List ℕ). 1 ≤ length xs) c.as_bytes.ensures.value any in
    no_count c.args.text.now c.parse.result c.parse.ensures.value.0 low (omega arith) (λ n is. let err = c.in_default-parse.is in cc)
