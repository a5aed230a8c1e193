use Rattle.dynamic_index.proofs.InRange.{text-from_dynamic_of}
use Rattle.dynamic_index.proofs.laws.what_is_read_has_one_spelling.Goals as goal

pub returns : goal.returns
returns c = text-from_dynamic_of
