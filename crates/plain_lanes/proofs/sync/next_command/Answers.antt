use Rattle.std.proofs.Common.{◌≡◌, length, ap, ◌∙◌, arith}
use Rattle.store_model.specs.SyncJob.{next_snapshot}
use Rattle.plain_lanes.specs.Pulls.{shown_pull}
use Rattle.plain_lanes.proofs.SyncLemmas.{no_command, a_command}
use Rattle.plain_lanes.proofs.sync.next_command.Goals as goal

pub returns-in_default-clause-job : goal.returns-in_default-clause-job
returns-in_default-clause-job c =
    let empty : length c.args.commands.items ≡ 0 = omega (arith, (rw c.in_default.is at c.pop_front.ensures.cases)) in
    c.next_snapshot.ensures.job ∙ ap (λ keys. next_snapshot keys c.args.pull.later.items) c.in_ok-pulled.ensures.keys ∙ no_command (shown_pull c.args.pull) c.args.commands.items empty

pub returns-clause-job : goal.returns-clause-job
returns-clause-job c = a_command (shown_pull c.args.pull) c.args.commands.items c.pop_front.new.self.items c.in-Some.command c.in-Some.ensures.items
