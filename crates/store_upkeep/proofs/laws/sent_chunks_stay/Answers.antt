use Rattle.store_upkeep.proofs.Sent.{sent_stays, sent_there}
use Rattle.store_upkeep.proofs.laws.sent_chunks_stay.Goals as goal

pub returns-clause-touched : goal.returns-clause-touched
returns-clause-touched c = sent_stays

pub returns-clause-there : goal.returns-clause-there
returns-clause-there c = sent_there
