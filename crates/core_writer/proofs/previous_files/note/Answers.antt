use Rattle.core_writer.proofs.PreviousLemmas.{noted_ok, noted_err}
use Rattle.core_writer.proofs.previous_files.note.Goals as goal

pub returns-clause-ok : goal.returns-clause-ok
returns-clause-ok c =
    noted_ok c.previous.result c.args.session.now c.in-Writer.w c.previous.new.self c.args.pieces c.in-Writer.is c.previous.ensures.ok

pub returns-clause-err : goal.returns-clause-err
returns-clause-err c = noted_err c.previous.result c.args.session.now c.in-Writer.w c.previous.new.self c.in-Writer.is c.previous.ensures.err
