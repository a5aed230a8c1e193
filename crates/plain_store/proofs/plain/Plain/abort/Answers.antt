use Rattle.plain_store.proofs.Spelled.{done_spelled}
use Rattle.plain_store.proofs.Stopping.{does_refuse}
use Rattle.plain_store.proofs.WriterLemmas.{abort_not_writer, abort_goes}
use Rattle.plain_store.proofs.plain.Plain.abort.Goals as goal

pub returns-in_err-want_writer-clause-does : goal.returns-in_err-want_writer-clause-does
returns-in_err-want_writer-clause-does c =
    let r = c.in_err-want_writer.field-0.0 in
    does_refuse _ c.from_residual.result r _ c.from_residual.ensures.1 (abort_not_writer c.args.self.now c.args.lane r (c.in_err-want_writer.ensures.test))

pub returns-clause-does : goal.returns-clause-does
returns-clause-does c =
    abort_goes c.args.self.now c.args.lane c.in_ok-want_writer.field-0.now c.end.new.self
    (c.in_ok-want_writer.ensures.test) c.end.ensures

pub returns-clause-spelled : goal.returns-clause-spelled
returns-clause-spelled c = done_spelled
