use Rattle.std.proofs.Common.{◌≡◌, ◌++◌, drop}
use Rattle.plain_lanes.specs.Uploading.{chunks_of, sent_after}
use Rattle.plain_lanes.proofs.uploads.push_chunks.Given as goal

abbrev pub invariant-loop-piece : goal.invariant-loop-piece
invariant-loop-piece l =
    (l.commands.items ++ chunks_of l.sent (drop l.piece-index l.pieces) ≡ l.fn.commands.items ++ chunks_of l.fn.sent l.pieces)
    × (sent_after (drop l.piece-index l.pieces) l.sent ≡ sent_after l.pieces l.fn.sent)
