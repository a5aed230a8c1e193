use Rattle.dynamic_index.proofs.Spelling.{dynamic_of-dynamic_text}
use Rattle.dynamic_index.proofs.laws.what_is_written_is_read.Goals as goal

pub returns : goal.returns
returns c = dynamic_of-dynamic_text
