use Rattle.std.proofs.Common.{sym, ap, ◌∙◌}
use Rattle.wire_commands.specs.declared.command.Command.{Command}
use Rattle.store_model.specs.Jobs.{job_of}
use Rattle.store_model.specs.Lanes.{plain, command_next}
use Rattle.plain_lanes.proofs.NextLemmas.{starts_job, no_job}
use Rattle.plain_lanes.proofs.next.command_next.Goals as goal

pub returns-in-Bye-clause-next : goal.returns-in-Bye-clause-next
unfolding command_next
returns-in-Bye-clause-next c = ap (λ (x : Command). command_next x c.args.left.now) (sym c.in-Bye.is)

pub returns-in-Gc-clause-next : goal.returns-in-Gc-clause-next
unfolding command_next
returns-in-Gc-clause-next c = ap (λ (x : Command). command_next x c.args.left.now) (sym c.in-Gc.is)

pub returns-in-Sync-clause-next : goal.returns-in-Sync-clause-next
unfolding command_next
returns-in-Sync-clause-next c = ap (λ (x : Command). command_next x c.args.left.now) (sym c.in-Sync.is)

pub returns-in-Ok : goal.returns-in-Ok
returns-in-Ok c = record { next = starts_job c.args.command c.args.left.now c.in-Ok.asking c.in-Ok.ensures; fits = tt }

pub returns-in-Err : goal.returns-in-Err
returns-in-Err c =
    let same = c.in-Err.ensures.1 in
    let none = ap job_of same ∙ c.in-Err.ensures.0 in
    record {
      next = ap (λ (x : Command). plain x c.args.left.now) same ∙ no_job c.args.command c.args.left.now c.in_default.not-Sync c.in_default.not-Gc c.in_default.not-Bye c.in-Err.ensures.0;
      fits = (none, λ e. c.in_default.not-Bye (sym same ∙ e));
    }
