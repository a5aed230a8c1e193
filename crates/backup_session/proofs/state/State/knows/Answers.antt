use Rattle.std.proofs.Common.{◌∙◌, sym, ap}
use Rattle.std.specs.Prelude.{is_some}
use Rattle.std.specs.FinMap.{get-entries}
use Rattle.backup_session.specs.Session.{Writing, length_at}
use Rattle.backup_session.proofs.state.State.knows.Goals as goal

pub returns-clause-value : goal.returns-clause-value
returns-clause-value c =
    let digest = c.args.digest.now.0 in
    c.is_some.ensures ∙ ap is_some (c.find.ensures ∙ get-entries c.self.inside.pool digest) ∙ ap (λ (w : Writing). is_some (length_at w.pool digest)) c.self.view_is

pub returns-clause-pool : goal.returns-clause-pool
returns-clause-pool c = (c.self.inside.pool, ap (λ (w : Writing). w.pool) (sym c.self.view_is))
