use Rattle.std.proofs.Common.{arith}
use Rattle.plain_sessions.proofs.Noted.{entry_beyond, entry_there}
use Rattle.plain_sessions.proofs.reader.blob_at.Goals as goal

pub returns-then-place-pieces-clause-gives : goal.returns-then-place-pieces-clause-gives
returns-then-place-pieces-clause-gives c = entry_beyond c.args.pieces.now c.args.entry (omega arith)

pub returns-clause-gives : goal.returns-clause-gives
returns-clause-gives c =
    entry_there c.args.pieces.now c.args.entry c.index-pieces-place.result c.in_ok-blob_of.field-0 (omega arith) c.index-pieces-place.is c.in_ok-blob_of.ensures.blob
