use Rattle.std.proofs.Common.{sym, subst}
use Rattle.store_model.specs.WriterSteps.{new_writer}
use Rattle.backup_session.specs.Shown.{Shows}
use Rattle.backup_session.proofs.Lifting.{opened_shown}
use Rattle.backup_session.proofs.writer.open_writer.Goals as goal

pub returns-clause-plain : goal.returns-clause-plain
returns-clause-plain c =
    let a = c.args in subst (λ s. Shows s (new_writer a.key a.start a.base)) (sym c.new-state.ensures) (opened_shown a.key a.start a.base)
