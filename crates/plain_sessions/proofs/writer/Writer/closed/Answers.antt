use Rattle.std.proofs.Common.{◌∙◌, ap, sym}
use Rattle.std.specs.List.{list_any}
use Rattle.store_model.specs.Store.{Writer}
use Rattle.store_model.specs.WriterCalls.{has_number}
use Rattle.plain_sessions.proofs.Counts.{found_any}
use Rattle.plain_sessions.proofs.writer.Writer.closed.Goals as goal

pub returns-clause-stands : goal.returns-clause-stands
returns-clause-stands c =
    let same = ap (λ (w : Writer). list_any (has_number c.args.number) w.begun) c.self.view_is in
    sym same ∙ found_any (has_number c.args.number) c.self.inside.begun c.in-Some.begun.now (sym c.in-Some.ensures)
