use Rattle.std.proofs.Common.{ap}
use Rattle.store_model.specs.Lanes.{Run}
use Rattle.plain_store.specs.Runs.{short_open}
use Rattle.plain_store.proofs.run.Run.be_short.Goals as goal

pub returns-clause-short : goal.returns-clause-short
returns-clause-short c = ap (λ (x : Run). short_open x c.args.lane) c.self.view_is
