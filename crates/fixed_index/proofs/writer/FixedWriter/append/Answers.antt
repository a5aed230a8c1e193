use Rattle.std.proofs.Common.{◌≡◌, ◌<◌, length, map, ap, subst, sym, ◌∙◌, arith}
use Rattle.store_types.specs.declared.names.Digest32.{Digest32}
use Rattle.store_files.specs.FixedIndex.{FixedIndex}
use Rattle.fixed_index.specs.Writing.{IsBegun, end_of}
use Rattle.fixed_index.proofs.Cutting.{begun_more}
use Rattle.fixed_index.proofs.Joining.{map-append}
use Rattle.fixed_index.proofs.writer.FixedWriter.append.Goals as goal

pub invariant_of-self-2 : goal.invariant_of-self-2
invariant_of-self-2 c =
    let w = c.self.inside in
    let P : FixedIndex → Type 0 = λ x. end_of x < x.size in
    let long : length c.args.digest.now.0 ≡ 32 = omega arith in
    let pushed = ap (map (λ (d : Digest32). d.0)) c.in_ok-push.ensures.items ∙ map-append w.digests.items _ in
    subst (λ digests. IsBegun w.uuid w.ctime w.size w.chunk_size digests) (sym pushed)
    (begun_more w.uuid w.ctime w.size w.chunk_size _ c.args.digest.now.0 c.self.invariant (subst P (sym c.self.view_is) c.requires.room) long)
