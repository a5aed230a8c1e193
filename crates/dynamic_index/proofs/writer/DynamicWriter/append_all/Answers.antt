use Rattle.std.proofs.Common.{◌≡◌, ◌++◌, length, All, ap, subst, sym, ◌∙◌}
use Rattle.std.proofs.lemmas.List.{map-append}
use Rattle.store_files.specs.DynamicIndex.{DynamicIndex}
use Rattle.dynamic_index.specs.Pieces.{size_of}
use Rattle.dynamic_index.specs.Entries.{ended_of, ends_of}
use Rattle.dynamic_index.specs.Writing.{IsBegun, FitsPieces}
use Rattle.dynamic_index.proofs.MorePieces.{begun_all}
use Rattle.dynamic_index.proofs.writer.DynamicWriter.append_all.Goals as goal

pub invariant_of-self-2 : goal.invariant_of-self-2
invariant_of-self-2 c =
    let w = c.self.inside in
    let pieces = c.args.pieces.now in
    let P : DynamicIndex → Type 0 = λ x. FitsPieces x pieces in
    let appended = ap ends_of c.in_ok-append.ensures.items ∙ map-append ended_of w.entries.items _ ∙ ap (λ es. ends_of w.entries.items ++ es) c.in_ok-more.ensures.ends in
    let end = c.end.ensures.value ∙ sym (ap size_of c.self.view_is) in
    subst (λ entries. IsBegun w.uuid w.ctime entries) (sym appended)
    (begun_all w.uuid w.ctime (ends_of w.entries.items) c.end.result pieces c.self.invariant end (subst P (sym c.self.view_is) c.requires) (subst (All (λ e. length e.digest ≡ 32)) c.in_ok-more.ensures.ends c.in_ok-more.ensures.digests))
