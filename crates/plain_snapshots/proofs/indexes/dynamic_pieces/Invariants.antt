use Rattle.std.proofs.Common.{◌≡◌, map, take}
use Rattle.store_model.specs.Load.{piece_in}
use Rattle.plain_snapshots.proofs.indexes.dynamic_pieces.Given as goal

abbrev pub invariant-loop-i : goal.invariant-loop-i
invariant-loop-i l = l.pieces.items ≡ map (λ e. piece_in l.files e.digest) (take l.i l.view.entries)
