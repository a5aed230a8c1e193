use Rattle.restore_reader.proofs.Opened.{opened_is_kept}
use Rattle.restore_reader.proofs.laws.an_opened_index_is_its_files.Goals as goal

pub returns : goal.returns
returns c = opened_is_kept
