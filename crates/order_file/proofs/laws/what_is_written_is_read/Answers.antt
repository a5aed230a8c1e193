use Rattle.order_file.proofs.Whole.{read_again}
use Rattle.order_file.proofs.laws.what_is_written_is_read.Goals as goal

pub returns : goal.returns
returns c = read_again
