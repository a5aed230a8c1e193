use Rattle.plain_sessions.specs.Finishing.{finished_of}
use Rattle.plain_store.proofs.Spelled.{done_spelled}
use Rattle.plain_store.proofs.Stopping.{does_refuse, refusal_fits, does_stop, stop_fits}
use Rattle.plain_store.proofs.WriterLemmas.{finish_not_writer, finish_refused, finish_as}
use Rattle.plain_store.proofs.plain.Plain.finish.Goals as goal

pub returns-in_err-w-clause-does : goal.returns-in_err-w-clause-does
returns-in_err-w-clause-does c =
    let r = c.in_err-w.field-0.0 in
    does_refuse _ c.from_residual.result r _ c.from_residual.ensures.1 (finish_not_writer c.args.self.now c.args.lane r (c.in_err-w.ensures.test))

pub returns-in_err-w-clause-spelled : goal.returns-in_err-w-clause-spelled
returns-in_err-w-clause-spelled c =
    refusal_fits c.from_residual.result c.in_err-w.field-0.0 c.from_residual.ensures.1 c.in_err-w.ensures.fits

pub returns-in_err-snapshot-clause-does : goal.returns-in_err-snapshot-clause-does
returns-in_err-snapshot-clause-does c =
    let w = c.in_ok-w.w.now in
    let writes = c.in_ok-w.ensures.test in
    does_stop (λ x. x) _ c.from_residual-in_err-snapshot.result c.in_err-snapshot.field-0.0 (finished_of w) _ c.from_residual-in_err-snapshot.ensures.1 c.in_err-snapshot.ensures.gives
    (finish_refused c.args.self.now c.args.lane w writes)

pub returns-in_err-snapshot-clause-spelled : goal.returns-in_err-snapshot-clause-spelled
returns-in_err-snapshot-clause-spelled c =
    stop_fits c.from_residual-in_err-snapshot.result c.in_err-snapshot.field-0.0 c.from_residual-in_err-snapshot.ensures.1 c.in_err-snapshot.ensures.fits

pub returns-clause-does : goal.returns-clause-does
returns-clause-does c =
    let w = c.in_ok-w.w.now in
    let writes = c.in_ok-w.ensures.test in
    finish_as c.args.self.now c.args.lane w writes c.in_ok-snapshot.snapshot c.in_ok-snapshot.ensures.gives c.self.inside.snapshots.items
    c.insert_snapshot.new.snapshots.items c.self.inside.sessions.items c.set_held.new.self c.self.view_is c.in_ok-insert_snapshot.ensures.ok c.set_held.ensures

pub returns-clause-spelled : goal.returns-clause-spelled
returns-clause-spelled c = done_spelled
