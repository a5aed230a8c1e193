use Rattle.std.proofs.Common.{arith}
use Rattle.disk_trait.specs.Timeline.{all_by_later}
use Rattle.disk_trait.proofs.memory.MemoryDisk.tick.Goals as goal

pub invariant_of-self-clause-done : goal.invariant_of-self-clause-done
invariant_of-self-clause-done c = all_by_later c.args.self.now.calls _ _ (omega arith) c.args.self.now.done
