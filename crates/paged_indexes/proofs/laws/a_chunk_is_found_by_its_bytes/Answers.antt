use Rattle.paged_indexes.proofs.Finding.{dynamic_chunks_are_found, fixed_chunks_are_found}
use Rattle.paged_indexes.proofs.laws.a_chunk_is_found_by_its_bytes.Goals as goal

pub returns-clause-dynamic : goal.returns-clause-dynamic
returns-clause-dynamic c = dynamic_chunks_are_found

pub returns-clause-fixed : goal.returns-clause-fixed
returns-clause-fixed c = fixed_chunks_are_found
