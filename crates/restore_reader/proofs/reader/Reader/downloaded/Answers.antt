use Rattle.std.proofs.lemmas.Result.{on_ok_weaker}
use Rattle.restore_reader.proofs.Plainly.{noted_also}
use Rattle.restore_reader.proofs.reader.Reader.downloaded.Goals as goal

pub returns-clause-plain : goal.returns-clause-plain
returns-clause-plain c =
    on_ok_weaker c.note.result
    (λ made files a r shows is of. noted_also files a r c.args.self.now c.note.new.self c.args.name c.args.table c.args.pages made shows is of)
    c.note.ensures.ok
