use Rattle.std.proofs.Common.{◌≡◌, ◌-◌, ◌+◌, length, ap, sym, ◌∙◌, arith}
use Rattle.store_files.specs.DynamicIndex.{DynamicIndex}
use Rattle.dynamic_index.specs.Pieces.{start_of, stop_of}
use Rattle.dynamic_index.proofs.Cells.{count_is}
use Rattle.dynamic_index.proofs.Steps.{start_of-next}
use Rattle.dynamic_index.proofs.view.DynamicView.end_before.Goals as goal

pub end_at-requires : goal.end_at-requires
end_at-requires c =
    let counts = count_is c.self.inside.bytes.now ∙ ap (λ x. length x.entries) c.self.view_is in
    omega (arith, counts, c.requires, c.if-count-eq0.false)

pub returns : goal.returns
returns c =
    let i = c.args.count - 1 in
    let next : i + 1 ≡ c.args.count = omega (arith, c.if-count-eq0.false) in
    c.end_at.ensures ∙ ap (λ (x : DynamicIndex). stop_of x i) c.self.view_is
    ∙ sym (start_of-next c.args.self.now i (omega (arith, c.requires, c.if-count-eq0.false))) ∙ ap (start_of c.args.self.now) next
