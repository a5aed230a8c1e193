use Rattle.backup_session.proofs.Asked.{forgets}
use Rattle.backup_session.proofs.writer.Writer.forget.Goals as goal

pub returns-clause-back : goal.returns-clause-back
returns-clause-back c = λ before length pool none is.
    forgets c.self.inside.pending c.self.inside.state c.forget.new.self c.args.self.now c.args.digest.now.0 before length c.self.view_is c.requires c.forget.ensures pool none is
