use Rattle.store_model.specs.WriterCalls as plain
use Rattle.backup_session.specs.Session.{settled}
use Rattle.backup_session.specs.Steps as steps
use Rattle.backup_session.specs.Kept.{session_of}
use Rattle.backup_session.proofs.Plainly.{plainly}
use Rattle.backup_session.proofs.Squares.{append-agrees}
use Rattle.backup_session.proofs.Lifting.{lifted}
use Rattle.backup_session.proofs.writer.Writer.append.Goals as goal

pub returns-clause-plain : goal.returns-clause-plain
returns-clause-plain c =
    let number = c.args.number in
    let entries = c.args.entries.now in
    let s = c.self.inside in
    plainly (λ u. u) settled c.args.self.now (session_of s.pending c.append.new.self) (λ v. steps.append v number entries) (λ w. plain.append w number entries)
    (append-agrees number entries) c.append.result
    (lifted (λ u. u) (λ v. steps.append v number entries) s.state c.append.new.self s.pending c.args.self.now c.self.view_is c.requires c.append.result c.append.ensures.does)
