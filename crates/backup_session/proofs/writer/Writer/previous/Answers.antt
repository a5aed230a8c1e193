use Rattle.backup_session.proofs.Lifting.{previous_leaves}
use Rattle.backup_session.proofs.writer.Writer.previous.Goals as goal

pub returns-clause-plain : goal.returns-clause-plain
returns-clause-plain c =
    let s = c.self.inside in
    previous_leaves s.pending s.state c.previous.new.self c.args.self.now c.args.pieces c.self.view_is c.requires.settled c.previous.result c.previous.ensures.ok
