use Rattle.order_file.proofs.Whole.{is_text_of_read}
use Rattle.order_file.proofs.laws.what_is_read_has_one_spelling.Goals as goal

pub returns : goal.returns
returns c = is_text_of_read
