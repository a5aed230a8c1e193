use Rattle.store_model.specs.WriterCalls as plain
use Rattle.backup_session.specs.Session.{settled}
use Rattle.backup_session.specs.Steps as steps
use Rattle.backup_session.specs.Kept.{session_of}
use Rattle.backup_session.proofs.Plainly.{plainly}
use Rattle.backup_session.proofs.Squares.{new_dynamic-agrees}
use Rattle.backup_session.proofs.Lifting.{lifted}
use Rattle.backup_session.proofs.writer.Writer.new_dynamic.Goals as goal

pub returns-clause-plain : goal.returns-clause-plain
returns-clause-plain c =
    let name = c.args.name in
    let ctime = c.args.ctime in
    let s = c.self.inside in
    plainly (λ n. n) settled c.args.self.now (session_of s.pending c.new_dynamic.new.self) (λ v. steps.new_dynamic v name ctime) (λ w. plain.new_dynamic w name ctime)
    (new_dynamic-agrees name ctime) c.new_dynamic.result
    (lifted (λ n. n) (λ v. steps.new_dynamic v name ctime) s.state c.new_dynamic.new.self s.pending c.args.self.now c.self.view_is c.requires.settled c.new_dynamic.result c.new_dynamic.ensures)
