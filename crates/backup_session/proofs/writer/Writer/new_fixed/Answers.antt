use Rattle.std.proofs.Common.{◌<◌, ◌^◌, arith}
use Rattle.store_model.specs.WriterCalls as plain
use Rattle.backup_session.specs.Session.{settled}
use Rattle.backup_session.specs.Steps as steps
use Rattle.backup_session.specs.Kept.{session_of}
use Rattle.backup_session.proofs.Plainly.{plainly}
use Rattle.backup_session.proofs.Squares.{new_fixed-agrees}
use Rattle.backup_session.proofs.Lifting.{lifted}
use Rattle.backup_session.proofs.writer.Writer.new_fixed.Goals as goal

pub returns-clause-plain : goal.returns-clause-plain
returns-clause-plain c =
    let name = c.args.name in
    let size = c.args.size in
    let cut = c.args.chunk_size in
    let ctime = c.args.ctime in
    let s = c.self.inside in
    let small : size < 2 ^ 64 = omega (arith, c.ranges.size.fits) in
    plainly (λ n. n) settled c.args.self.now (session_of s.pending c.new_fixed.new.self) (λ v. steps.new_fixed v name size cut ctime) (λ w. plain.new_fixed w name size cut ctime)
    (new_fixed-agrees name size cut ctime small) c.new_fixed.result
    (lifted (λ n. n) (λ v. steps.new_fixed v name size cut ctime) s.state c.new_fixed.new.self s.pending c.args.self.now c.self.view_is c.requires.settled c.new_fixed.result c.new_fixed.ensures)
