use Rattle.std.proofs.Common.{◌≡◌, ◌++◌, All, length, map, ap, subst, sym, ◌∙◌}
use Rattle.store_types.specs.declared.names.Digest32.{Digest32}
use Rattle.store_files.specs.FixedIndex.{FixedIndex}
use Rattle.fixed_index.specs.Writing.{IsBegun, FitsPieces}
use Rattle.fixed_index.proofs.Cutting.{begun_all}
use Rattle.fixed_index.proofs.Joining.{map-append}
use Rattle.fixed_index.proofs.writer.FixedWriter.append_all.Goals as goal

pub invariant_of-self-2 : goal.invariant_of-self-2
invariant_of-self-2 c =
    let w = c.self.inside in
    let pieces = c.args.pieces.now in
    let P : FixedIndex → Type 0 = λ x. FitsPieces x pieces in
    let appended = ap (map (λ (d : Digest32). d.0)) c.in_ok-append.ensures.items ∙ map-append w.digests.items _
    ∙ ap (λ ds. map (λ (d : Digest32). d.0) w.digests.items ++ ds) c.in_ok-more.ensures.values in
    subst (λ digests. IsBegun w.uuid w.ctime w.size w.chunk_size digests) (sym appended)
    (begun_all w.uuid w.ctime w.size w.chunk_size (map (λ d. d.0) w.digests.items) pieces c.self.invariant (subst P (sym c.self.view_is) c.requires)
    (subst (All (λ d. length d ≡ 32)) c.in_ok-more.ensures.values c.in_ok-more.ensures.lengths))
