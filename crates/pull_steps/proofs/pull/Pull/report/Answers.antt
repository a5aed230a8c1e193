use Rattle.std.proofs.Common.{sym, subst}
use Rattle.pull_steps.specs.Asked.{IsOver}
use Rattle.pull_steps.proofs.Steps.{over_only}
use Rattle.pull_steps.proofs.pull.Pull.report.Goals as goal

pub unreachable-requires : goal.unreachable-requires
unreachable-requires c =
    let over = over_only c.self.inside.state (subst IsOver (sym c.self.view_is) c.requires) in
    c.in_default.not-Over over.0 over.1
