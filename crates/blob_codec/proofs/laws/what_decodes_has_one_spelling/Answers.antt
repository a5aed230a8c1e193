use Rattle.blob_codec.proofs.RoundTrips.{blob-from_data_of}
use Rattle.blob_codec.proofs.laws.what_decodes_has_one_spelling.Goals as goal

pub returns : goal.returns
returns c = blob-from_data_of
