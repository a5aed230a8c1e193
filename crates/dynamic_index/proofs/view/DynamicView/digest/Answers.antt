use Rattle.std.proofs.Common.{◌<◌, length, ap, subst, sym, ◌∙◌, arith}
use Rattle.store_files.specs.DynamicIndex.{DynamicIndex}
use Rattle.dynamic_index.specs.Pieces.{entry_at}
use Rattle.dynamic_index.proofs.Cells.{count_is, digest_is}
use Rattle.dynamic_index.proofs.view.DynamicView.digest.Goals as goal

pub digest_at-requires : goal.digest_at-requires
digest_at-requires c =
    let counts = count_is c.self.inside.bytes.now ∙ ap (λ x. length x.entries) c.self.view_is in
    omega (arith, counts, c.self.invariant.long, c.requires)

pub returns : goal.returns
returns c =
    let P : DynamicIndex → Type 0 = λ x. c.args.i < length x.entries in
    let below = subst P (sym c.self.view_is) c.requires in
    c.digest_at.ensures ∙ digest_is c.self.inside.bytes.now c.args.i below
    ∙ ap (λ (x : DynamicIndex). (entry_at x c.args.i).digest) c.self.view_is
