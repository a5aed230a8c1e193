use Rattle.std.proofs.Common.{Ok}
use Rattle.store_model.specs.WriterCalls as plain
use Rattle.backup_session.specs.Session.{Writing, held}
use Rattle.backup_session.specs.Steps as steps
use Rattle.backup_session.specs.Kept.{before, after, session_of}
use Rattle.backup_session.proofs.Plainly.{plainly}
use Rattle.backup_session.proofs.Squares.{blob-agrees}
use Rattle.backup_session.proofs.Lifting.{held_leaves, session_stop}
use Rattle.backup_session.proofs.writer.Writer.blob.Goals as goal

pub returns-in_err-pending-clause-does : goal.returns-in_err-pending-clause-does
returns-in_err-pending-clause-does c =
    let step = λ (v : Writing). steps.blob v c.args.name c.args.text.now in
    session_stop (λ (u : Unit {0}). u) step c.self.inside.pending c.self.inside.state c.blob.new.self c.args.self.now c.from_residual.result c.in_err-pending.field-0.0
    c.self.view_is c.requires.settled c.from_residual.ensures.1 c.in_err-pending.ensures

pub returns-in_err-pending-clause-plain : goal.returns-in_err-pending-clause-plain
returns-in_err-pending-clause-plain c = λ contents is.
    let s = c.args.self.now in
    plainly (λ (u : Unit {0}). u) (held s.writer) s (session_of c.self.inside.pending c.blob.new.self) (λ (v : Writing). steps.blob v c.args.name c.args.text.now)
    (λ x. plain.put_data x c.args.name contents) (blob-agrees c.args.name contents c.args.text.now is) c.from_residual.result (returns-in_err-pending-clause-does c)

pub returns-clause-does : goal.returns-clause-does
returns-clause-does c =
    let step = λ (v : Writing). steps.blob v c.args.name c.args.text.now in
    held_leaves step c.self.inside.pending c.self.inside.state c.blob.new.self c.args.self.now c.in_ok-pending.pending tt c.self.view_is c.requires.settled c.in_ok-pending.ensures

pub returns-clause-plain : goal.returns-clause-plain
returns-clause-plain c = λ contents is w shows.
    let s = c.args.self.now in
    let new = c.blob.new.self in
    let pending = c.in_ok-pending.pending in
    plainly (λ (u : Unit {0}). u) (held s.writer) s (held (before pending new) (after pending new)) (λ v. steps.blob v c.args.name c.args.text.now)
    (λ x. plain.put_data x c.args.name contents) (blob-agrees c.args.name contents c.args.text.now is) (Ok tt) (returns-clause-does c) w shows
