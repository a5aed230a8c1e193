use Rattle.std.proofs.Common.{◌≡◌, take}
use Rattle.store_model.specs.VerifyJob.{fixed_pieces}
use Rattle.plain_lanes.proofs.judging.fixed_pieces.Given as goal

abbrev pub invariant-loop-i : goal.invariant-loop-i
invariant-loop-i l = l.pieces.items ≡ fixed_pieces l.view.size l.view.chunk_size 0 (take l.i l.view.digests)
