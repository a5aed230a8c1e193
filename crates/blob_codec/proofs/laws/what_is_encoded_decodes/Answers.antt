use Rattle.blob_codec.proofs.RoundTrips.{data_of-blob}
use Rattle.blob_codec.proofs.laws.what_is_encoded_decodes.Goals as goal

pub returns : goal.returns
returns c = data_of-blob
