use Rattle.fixed_index.proofs.InRange.{text-from_fixed_of}
use Rattle.fixed_index.proofs.laws.what_is_read_has_one_spelling.Goals as goal

pub returns : goal.returns
returns c = text-from_fixed_of
