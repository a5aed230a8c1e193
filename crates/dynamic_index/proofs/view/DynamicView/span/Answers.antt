use Rattle.std.proofs.Common.{IsTrue, length, ap, subst, ◌∙◌, arith}
use Rattle.store_files.specs.DynamicIndex.{DynamicIndex, steps_fit}
use Rattle.dynamic_index.specs.Pieces.{stop_of}
use Rattle.dynamic_index.proofs.Cells.{count_is}
use Rattle.dynamic_index.proofs.Steps.{step_at}
use Rattle.dynamic_index.proofs.view.DynamicView.span.Goals as goal

pub end_at-requires : goal.end_at-requires
end_at-requires c =
    let counts = count_is c.self.inside.bytes.now ∙ ap (λ x. length x.entries) c.self.view_is in
    omega (arith, counts, c.requires)

pub returns-clause-not_empty : goal.returns-clause-not_empty
returns-clause-not_empty c =
    let P : DynamicIndex → Type 0 = λ x. IsTrue (steps_fit 0 x.entries) in
    let step = step_at c.args.self.now c.args.i (subst P c.self.view_is c.self.invariant.steps) c.requires in
    let end = c.end_at.ensures ∙ ap (λ (x : DynamicIndex). stop_of x c.args.i) c.self.view_is in
    omega (arith, step, end, c.end_before.ensures)

pub returns-clause-limit : goal.returns-clause-limit
returns-clause-limit c =
    let P : DynamicIndex → Type 0 = λ x. IsTrue (steps_fit 0 x.entries) in
    let step = step_at c.args.self.now c.args.i (subst P c.self.view_is c.self.invariant.steps) c.requires in
    let end = c.end_at.ensures ∙ ap (λ (x : DynamicIndex). stop_of x c.args.i) c.self.view_is in
    omega (arith, step, end, c.end_before.ensures)
