use Rattle.std.proofs.Common.{◌≡◌, take}
use Rattle.std.specs.Prelude.{option_map}
use Rattle.core_state.proofs.CatalogueLemmas.{whole_in}
use Rattle.core_state.proofs.catalogue.Catalogue.latest_whole.Given as goal

abbrev pub invariant-loop-listed : goal.invariant-loop-listed
invariant-loop-listed l = option_map (λ whole. whole.now) l.whole ≡ whole_in (take l.listed-index l.listed-items)
