use Rattle.std.proofs.Common.{ap, ◌∙◌, arith}
use Rattle.store_files.specs.FixedIndex.{FixedIndex}
use Rattle.fixed_index.proofs.view.FixedView.chunk_size.Goals as goal

pub u64_at-requires : goal.u64_at-requires
u64_at-requires c = omega (arith, c.self.invariant.long)

pub returns : goal.returns
returns c = c.u64_at.ensures ∙ ap (λ (x : FixedIndex). x.chunk_size) c.self.view_is
