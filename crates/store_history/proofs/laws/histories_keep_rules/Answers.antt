use Rattle.store_history.proofs.Rules.{served_rules}
use Rattle.store_history.proofs.laws.histories_keep_rules.Goals as goal

pub returns : goal.returns
returns c = served_rules
