use Rattle.std.proofs.Common.{◌≡◌, take}
use Rattle.store_model.specs.VerifyJob.{dynamic_pieces}
use Rattle.plain_lanes.proofs.judging.dynamic_pieces.Given as goal

abbrev pub invariant-loop-i : goal.invariant-loop-i
invariant-loop-i l = l.pieces.items ≡ dynamic_pieces 0 (take l.i l.view.entries)
