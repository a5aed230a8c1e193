use Rattle.plain_store.proofs.Spelled.{done_spelled}
use Rattle.plain_store.proofs.Stopping.{does_refuse}
use Rattle.plain_store.proofs.ReaderLemmas.{close_not_reader, close_goes}
use Rattle.plain_store.proofs.plain.Plain.close_reader.Goals as goal

pub returns-in_err-want_reader-clause-does : goal.returns-in_err-want_reader-clause-does
returns-in_err-want_reader-clause-does c =
    let r = c.in_err-want_reader.field-0.0 in
    does_refuse _ c.from_residual.result r _ c.from_residual.ensures.1 (close_not_reader c.args.self.now c.args.lane r (c.in_err-want_reader.ensures.test))

pub returns-clause-does : goal.returns-clause-does
returns-clause-does c =
    close_goes c.args.self.now c.args.lane c.in_ok-want_reader.field-0.now c.end.new.self
    (c.in_ok-want_reader.ensures.test) c.end.ensures

pub returns-clause-spelled : goal.returns-clause-spelled
returns-clause-spelled c = done_spelled
