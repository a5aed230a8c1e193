use Rattle.std.proofs.Common.{sym, ◌∙◌}
use Rattle.std.proofs.lemmas.Result.{on_ok_weaker}
use Rattle.core_state.specs.Shown.{files_named}
use Rattle.core_reader.proofs.Noted.{shown_note, readings_same}
use Rattle.core_reader.proofs.downloading.note.Goals as goal

pub returns-clause-plain : goal.returns-clause-plain
returns-clause-plain c =
    on_ok_weaker c.downloaded.result
    (λ made snapshots r a shows at ends. shown_note snapshots r c.args.name a _ (made (files_named r.key snapshots) a r (readings_same _ _ (sym c.in-Reader.is ∙ shows)) at ends))
    c.downloaded.ensures.plain
