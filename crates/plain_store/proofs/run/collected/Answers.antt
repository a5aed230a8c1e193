use Rattle.store_types.specs.declared.refusal.Refusal.TheVariants.{NoMemory}
use Rattle.plain_store.proofs.Spelled.{refusal_spelled, collected_spelled}
use Rattle.plain_store.proofs.run.collected.Goals as goal

pub returns-then-is_out_of_memory-clause-spelled : goal.returns-then-is_out_of_memory-clause-spelled
returns-then-is_out_of_memory-clause-spelled c = refusal_spelled NoMemory tt

pub returns-clause-spelled : goal.returns-clause-spelled
returns-clause-spelled c = collected_spelled
