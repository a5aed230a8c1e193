use Rattle.std.proofs.Common.{subst}
use Rattle.backup_session.specs.Session.{Session, IsPool}
use Rattle.backup_session.proofs.Asked.{is_pool}
use Rattle.backup_session.proofs.writer.Writer.knows.Goals as goal

pub returns-clause-pool : goal.returns-clause-pool
returns-clause-pool c = subst (λ (s : Session). IsPool (s.writer).pool) c.self.view_is (is_pool c.self.inside.pending c.self.inside.state c.knows.ensures.pool)
