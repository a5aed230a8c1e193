use Rattle.std.proofs.Common.{◌<◌, length, get_or, [], ap, subst, sym, ◌∙◌, arith}
use Rattle.store_files.specs.FixedIndex.{FixedIndex}
use Rattle.fixed_index.proofs.Cells.{count_is, cell_at}
use Rattle.fixed_index.proofs.view.FixedView.digest.Goals as goal

pub digest_at-requires : goal.digest_at-requires
digest_at-requires c =
    let counts = count_is c.self.inside.bytes.now ∙ ap (λ x. length x.digests) c.self.view_is in
    omega (arith, counts, c.self.invariant.long, c.requires)

pub returns : goal.returns
returns c =
    let P : FixedIndex → Type 0 = λ x. c.args.i < length x.digests in
    let below = subst P (sym c.self.view_is) c.requires in
    c.digest_at.ensures ∙ cell_at c.self.inside.bytes.now c.args.i below
    ∙ ap (λ x. get_or x.digests c.args.i []) c.self.view_is
