use Rattle.std.proofs.Common.{◌<◌, ◌∙◌, Err, length, sym, ap, arith}
use Rattle.std.proofs.lemmas.List.{get_or_default}
use Rattle.store_types.specs.declared.refusal.Refusal.TheVariants.{WrongState}
use Rattle.core_state.specs.Wanted.{want_idle}
use Rattle.core_state.specs.declared.kept.Session.TheVariants.{Idle}
use Rattle.core_state.proofs.Commanding.{no_idle}
use Rattle.core_state.proofs.Texts.{wrong_state_has_text}
use Rattle.core_state.proofs.parts.Parts.idle.Goals as goal

pub returns-in_default-clause-value : goal.returns-in_default-clause-value
returns-in_default-clause-value g c =
    let old = c.args.self.now in
    let within : c.args.lane < length old.sessions.items = omega (arith, old.lanes, old.sessions.ok.0, c.requires) in
    ap want_idle (sym (c.index.ensures ∙ get_or_default old.sessions.items c.args.lane c.index.result.now Idle within))
    ∙ no_idle c.index.result.now c.in_default.not-Idle ∙ ap (λ x. Err (WrongState x)) (sym c.state.ensures)

pub returns-in_default-clause-text : goal.returns-in_default-clause-text
returns-in_default-clause-text g c = wrong_state_has_text c.state.result
