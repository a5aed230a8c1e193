use Rattle.paged_indexes.proofs.Standing.{dynamic_stays, fixed_stays}
use Rattle.paged_indexes.proofs.laws.what_stays_is_given.Goals as goal

pub returns-clause-dynamic : goal.returns-clause-dynamic
returns-clause-dynamic c = dynamic_stays

pub returns-clause-fixed : goal.returns-clause-fixed
returns-clause-fixed c = fixed_stays
