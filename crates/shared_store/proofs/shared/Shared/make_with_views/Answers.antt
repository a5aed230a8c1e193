use Rattle.std.proofs.Common.{sym, subst}
use contract.BorrowLft.{⊑_static}
use Rattle.shared_store.specs.Views.{IsNoted}
use Rattle.shared_store.proofs.Lives.{all_live, known_names}
use Rattle.shared_store.proofs.Noting.{noted_first}
use Rattle.shared_store.proofs.shared.Shared.make_with_views.Goals as goal

pub make-requires : goal.make-requires
make-requires g c κs within =
    (all_live _ g.row.D.lives g.row.E.lives g.row.C.lives g.row.N.lives within.0 within.1.0 within.1.1.0 within.1.1.1 known_names, (⊑_static _, c.new.ensures.stands))

pub invariant_of-result : goal.invariant_of-result
invariant_of-result g c = subst (IsNoted 0) (sym c.in-Ok-make.ensures.ok.1) (noted_first c.in-Ok-make.turn.id)
