use Rattle.std.proofs.Common.{◌≡◌, ◌++◌, drop}
use Rattle.store_model.specs.SyncJob.{entries_from}
use Rattle.plain_lanes.proofs.uploads.entries_of.Given as goal

abbrev pub invariant-loop-piece : goal.invariant-loop-piece
invariant-loop-piece l = l.entries.items ++ entries_from l.offset (drop l.piece-index l.pieces) ≡ entries_from 0 l.pieces
