use Rattle.plain_store.proofs.RunLemmas.{remote_told, remote_untold}
use Rattle.plain_store.proofs.run.Run.remote_failed.Goals as goal

pub returns-then-not-branch-clause-enters : goal.returns-then-not-branch-clause-enters
returns-then-not-branch-clause-enters c = remote_untold c.args.self.now c.args.lane c.in_ok-next_is_sync.field-0 c.in_ok-next_is_sync.ensures c.if-not-branch.true

pub returns-clause-enters : goal.returns-clause-enters
returns-clause-enters c =
    remote_told c.args.self.now c.args.lane c.in_ok-next_is_sync.field-0 c.tell_fault.new.self c.in_ok-next_is_sync.ensures c.if-not-branch.false c.in_ok-tell_fault.ensures.told
