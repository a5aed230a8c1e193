use Rattle.paged_indexes.proofs.PagesRead.{opened_is_index}
use Rattle.paged_indexes.proofs.laws.what_was_opened_is_the_index.Goals as goal

pub returns : goal.returns
returns c = opened_is_index
