use Rattle.plain_store.proofs.RunLemmas.{passes_by}
use Rattle.plain_store.proofs.run.Run.passed.Goals as goal

pub returns : goal.returns
returns c = passes_by c.args.self.now c.args.lane c.next_is_sync.result c.requires.apart c.next_is_sync.ensures
