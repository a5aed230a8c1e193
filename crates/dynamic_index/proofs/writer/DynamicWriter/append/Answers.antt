use Rattle.std.proofs.Common.{◌≡◌, length, ap, subst, sym, ◌∙◌, arith}
use Rattle.std.proofs.lemmas.List.{map-append}
use Rattle.store_files.specs.DynamicIndex.{DynamicIndex}
use Rattle.dynamic_index.specs.Pieces.{size_of}
use Rattle.dynamic_index.specs.Entries.{ended_of, ends_of}
use Rattle.dynamic_index.specs.Writing.{IsBegun, FitsPiece}
use Rattle.dynamic_index.proofs.Steps.{last_end_small}
use Rattle.dynamic_index.proofs.Spelling.{begun_more}
use Rattle.dynamic_index.proofs.writer.DynamicWriter.append.Goals as goal

pub overflow_add-end : goal.overflow_add-end
overflow_add-end c =
    let small = last_end_small 0 (ends_of c.self.inside.entries.items) c.self.invariant.steps in
    let end = c.end.ensures.value ∙ sym (ap size_of c.self.view_is) in
    omega (arith, small, end, c.self.invariant.limit, c.requires.limit)

pub invariant_of-self-2 : goal.invariant_of-self-2
invariant_of-self-2 c =
    let w = c.self.inside in
    let P : DynamicIndex → Type 0 = λ x. FitsPiece x c.args.length in
    let long : length c.args.digest.now.0 ≡ 32 = omega arith in
    let pushed = ap ends_of c.in_ok-push.ensures.items ∙ map-append ended_of w.entries.items _ in
    let end = c.end.ensures.value ∙ sym (ap size_of c.self.view_is) in
    subst (λ entries. IsBegun w.uuid w.ctime entries) (sym pushed)
    (begun_more w.uuid w.ctime (ends_of w.entries.items) c.end.result c.args.length c.args.digest.now.0 c.self.invariant end
    (subst P (sym c.self.view_is) c.requires) long)
