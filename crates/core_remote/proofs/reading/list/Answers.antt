use Rattle.core_state.proofs.Texts.{keys_has_text}
use Rattle.core_remote.proofs.reading.list.Goals as goal

pub returns-clause-text : goal.returns-clause-text
returns-clause-text g c = keys_has_text c.in_ok-texts.texts c.in_ok-texts.ensures.few c.in_ok-texts.ensures.short
