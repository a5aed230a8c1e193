use Rattle.fixed_index.proofs.Spelling.{fixed_of-fixed_text}
use Rattle.fixed_index.proofs.laws.what_is_written_is_read.Goals as goal

pub returns : goal.returns
returns c = fixed_of-fixed_text
