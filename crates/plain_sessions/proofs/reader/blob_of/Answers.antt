use Rattle.std.proofs.Common.{◌≤◌, List, ℕ, length, subst}
use Rattle.blob_codec.specs.Blob.{data_limit}
use Rattle.plain_sessions.proofs.Noted.{blob_short}
use Rattle.plain_sessions.proofs.reader.blob_of.Goals as goal

pub returns-clause-short : goal.returns-clause-short
returns-clause-short c =
    let few = subst (λ (l : List ℕ). length l ≤ data_limit) c.as_slice.ensures.value c.as_slice.ensures.limit in
    blob_short _ c.args.piece.now c.in_ok-text.text.items few c.in_ok-text.ensures c.from_vec.ensures
