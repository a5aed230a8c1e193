use Rattle.std.proofs.Common.{length, ap, ◌∙◌, arith}
use Rattle.dynamic_index.proofs.Cells.{count_is}
use Rattle.dynamic_index.proofs.view.DynamicView.len.Goals as goal

pub overflow_sub-result : goal.overflow_sub-result
overflow_sub-result c = c.self.invariant.long

pub overflow_cast-result : goal.overflow_cast-result
overflow_cast-result c = omega (arith, c.self.invariant.limit)

pub returns : goal.returns
returns c = count_is c.self.inside.bytes.now ∙ ap (λ x. length x.entries) c.self.view_is
