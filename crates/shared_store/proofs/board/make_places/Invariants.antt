use Rattle.std.proofs.Common.{◌≡◌, length}
use Rattle.shared_store.proofs.board.make_places.Given as goal

abbrev pub invariant-loop-place : goal.invariant-loop-place
invariant-loop-place g l = length l.places.items ≡ l.place
