use Rattle.pull_steps.proofs.Steps.{asks_else}
use Rattle.pull_steps.proofs.pull.Pull.next.Goals as goal

pub ask-requires-clause-asking : goal.ask-requires-clause-asking
ask-requires-clause-asking c = asks_else c.self.inside.state c.in_default.not-Over
