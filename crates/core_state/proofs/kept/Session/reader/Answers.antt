use Rattle.std.proofs.Common.{◌∙◌, Err, sym, ap}
use Rattle.store_types.specs.declared.refusal.Refusal.TheVariants.{WrongState}
use Rattle.core_state.proofs.Commanding.{no_reading}
use Rattle.core_state.proofs.Texts.{wrong_state_has_text}
use Rattle.core_state.proofs.kept.Session.reader.Goals as goal

pub returns-in_default-clause-value : goal.returns-in_default-clause-value
returns-in_default-clause-value c = no_reading c.args.self.now c.in_default.not-Reader ∙ ap (λ x. Err (WrongState x)) (sym c.state.ensures)

pub returns-in_default-clause-text : goal.returns-in_default-clause-text
returns-in_default-clause-text c = wrong_state_has_text c.state.result
