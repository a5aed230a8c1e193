use Rattle.backup_session.proofs.Lifting.{chunk_leaves}
use Rattle.backup_session.proofs.writer.Writer.chunk.Goals as goal

pub returns-clause-plain : goal.returns-clause-plain
returns-clause-plain c =
    let s = c.self.inside in
    chunk_leaves s.pending s.state c.chunk.new.self c.args.self.now c.args.digest.now.0 c.args.length c.self.view_is c.requires.settled c.chunk.result c.chunk.ensures.ok
