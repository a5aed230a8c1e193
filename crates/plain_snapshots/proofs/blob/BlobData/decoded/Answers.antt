use Rattle.blob_codec.proofs.Reading.{HasParts-from_data_of}
use Rattle.plain_snapshots.proofs.blob.BlobData.decoded.Goals as goal

pub of-requires : goal.of-requires
of-requires c = (HasParts-from_data_of c.args.bytes.now c.in-Ok.piece.now c.in-Ok.ensures).fits
