use Rattle.std.proofs.Common.{ap, ◌∙◌}
use Rattle.backup_session.specs.Steps as steps
use Rattle.backup_session.proofs.Lifting.{writer_is}
use Rattle.backup_session.proofs.Squares.{takes-agrees}
use Rattle.backup_session.proofs.writer.Writer.want_blob.Goals as goal

pub returns-clause-value : goal.returns-clause-value
returns-clause-value c = c.want_blob.ensures ∙ ap (steps.want_blob c.args.name.now) (writer_is c.self.inside.pending c.self.inside.state c.args.self.now c.self.view_is c.requires)

pub returns-clause-plain : goal.returns-clause-plain
returns-clause-plain c = λ w shows. returns-clause-value c ∙ ap (steps.want_blob c.args.name.now) shows.same ∙ takes-agrees c.args.name.now w
