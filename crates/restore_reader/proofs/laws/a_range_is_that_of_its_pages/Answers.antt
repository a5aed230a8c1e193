use Rattle.restore_reader.proofs.Apart.{parts_before, parts_behind, parts_follow}
use Rattle.restore_reader.proofs.Bytes.{bytes_follow}
use Rattle.restore_reader.proofs.laws.a_range_is_that_of_its_pages.Goals as goal

pub returns-clause-parts : goal.returns-clause-parts
returns-clause-parts c = parts_follow

pub returns-clause-bytes : goal.returns-clause-bytes
returns-clause-bytes c = bytes_follow

pub returns-clause-before : goal.returns-clause-before
returns-clause-before c = parts_before

pub returns-clause-behind : goal.returns-clause-behind
returns-clause-behind c = λ from to start es fit behind. parts_behind from to start es behind fit
