use Rattle.std.proofs.Common.{◌∙◌, ap}
use Rattle.std.specs.Prelude.{option_map}
use Rattle.store_model.specs.Store.{Store}
use Rattle.store_model.specs.Lanes.{Run}
use Rattle.store_model.specs.Weave.{with_store, end_session}
use Rattle.plain_store.proofs.run.Run.end_session.Goals as goal

pub returns-clause-ended : goal.returns-clause-ended
unfolding end_session with_store
returns-clause-ended c =
    ap (λ (s : Store). (let r : Run = record { store = s; remote = option_map (λ p. p.now.snapshots) c.self.inside.remote; lanes = c.self.inside.lanes.items; collecting = c.self.inside.collecting; fault = c.self.inside.fault } in r)) c.end.ensures
    ∙ ap (λ (r : Run). end_session r c.args.lane) c.self.view_is
