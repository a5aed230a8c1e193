use Rattle.paged_indexes.proofs.Standing.{dynamic_pages_are, fixed_pages_are}
use Rattle.paged_indexes.proofs.laws.a_page_is_of_the_view.Goals as goal

pub returns-clause-dynamic : goal.returns-clause-dynamic
returns-clause-dynamic c = dynamic_pages_are

pub returns-clause-fixed : goal.returns-clause-fixed
returns-clause-fixed c = fixed_pages_are
