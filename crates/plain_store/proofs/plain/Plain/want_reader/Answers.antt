use Rattle.std.proofs.Common.{subst}
use Rattle.store_model.specs.Store.{Session, want_reader}
use Rattle.plain_sessions.specs.Outcomes.{Tells}
use Rattle.plain_store.proofs.plain.Plain.want_reader.Goals as goal

pub returns-clause-test : goal.returns-clause-test
returns-clause-test c = subst (λ (x : Session). Tells c.want_reader.result (want_reader x) (λ y. y.now)) c.held.ensures c.want_reader.ensures.test
