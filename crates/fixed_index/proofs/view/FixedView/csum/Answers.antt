use Rattle.std.proofs.Common.{ap, ◌∙◌, arith}
use Rattle.store_files.specs.FixedIndex.{csum_of}
use Rattle.fixed_index.proofs.view.FixedView.csum.Goals as goal

pub digest_at-requires : goal.digest_at-requires
digest_at-requires c = omega (arith, c.self.invariant.long)

pub returns : goal.returns
returns c = c.digest_at.ensures ∙ c.self.invariant.csum ∙ ap csum_of c.self.view_is
