use Rattle.std.proofs.lemmas.List.{get_or-replicate}
use Rattle.core_state.proofs.journal.Journal.new.Goals as goal

pub returns-clause-held : goal.returns-clause-held
returns-clause-held c = λ lane lt. get_or-replicate 64 lane 3 0 lt
