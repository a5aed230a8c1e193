use Rattle.index_pages.proofs.Standing.{kept_by_bytes}
use Rattle.paged_indexes.proofs.laws.what_is_kept_has_the_sha256.Goals as goal

pub returns : goal.returns
returns c = kept_by_bytes
