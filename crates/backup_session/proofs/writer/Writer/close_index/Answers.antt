use Rattle.std.proofs.Common.{ℕ, List, Ok}
use Rattle.std.specs.Prelude.{Vec}
use Rattle.std.specs.declared.alloc.Global.{Global}
use Rattle.store_model.specs.WriterCalls as plain
use Rattle.backup_session.specs.Session.{Writing, held}
use Rattle.backup_session.specs.Steps as steps
use Rattle.backup_session.specs.Kept.{before, after, session_of}
use Rattle.backup_session.proofs.Plainly.{plainly}
use Rattle.backup_session.proofs.Squares.{close_index-agrees}
use Rattle.backup_session.proofs.Lifting.{held_leaves, session_stop}
use Rattle.backup_session.proofs.writer.Writer.close_index.Goals as goal

pub returns-in_err-closed-clause-does : goal.returns-in_err-closed-clause-does
returns-in_err-closed-clause-does c =
    let step = λ (v : Writing). steps.close_index v c.args.number c.args.count c.args.size c.args.csum.now in
    session_stop (λ (t : Vec ℕ Global). t.items) step c.self.inside.pending c.self.inside.state c.close_index.new.self c.args.self.now c.from_residual.result c.in_err-closed.field-0.0
    c.self.view_is c.requires c.from_residual.ensures.1 c.in_err-closed.ensures.does

pub returns-in_err-closed-clause-plain : goal.returns-in_err-closed-clause-plain
returns-in_err-closed-clause-plain c =
    let s = c.args.self.now in
    let number = c.args.number in
    let step = λ (v : Writing). steps.close_index v number c.args.count c.args.size c.args.csum.now in
    plainly (λ (t : Vec ℕ Global). t.items) (held s.writer) s (session_of c.self.inside.pending c.close_index.new.self) step (λ x. plain.close_index x number c.args.count c.args.size c.args.csum.now)
    (close_index-agrees number c.args.count c.args.size c.args.csum.now) c.from_residual.result (returns-in_err-closed-clause-does c)

pub returns-clause-plain : goal.returns-clause-plain
returns-clause-plain c = λ w shows.
    let s = c.args.self.now in
    let old = c.self.inside.state in
    let new = c.close_index.new.self in
    let number = c.args.number in
    let closed = c.in_ok-closed.closed in
    let step = λ (v : Writing). steps.close_index v number c.args.count c.args.size c.args.csum.now in
    plainly (λ (t : List ℕ). t) (held s.writer) s (held (before closed.1 new) (after closed.1 new)) step (λ x. plain.close_index x number c.args.count c.args.size c.args.csum.now)
    (close_index-agrees number c.args.count c.args.size c.args.csum.now) (Ok closed.0.items)
    (held_leaves step c.self.inside.pending old new s closed.1 closed.0.items c.self.view_is c.requires c.in_ok-closed.ensures.does) w shows
