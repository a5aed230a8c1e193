use Rattle.std.proofs.Common.{◌<◌, ◌∙◌, Err, length, sym, ap, arith}
use Rattle.std.proofs.lemmas.List.{get_or_default}
use Rattle.store_types.specs.declared.refusal.Refusal.TheVariants.{WrongState}
use Rattle.core_state.specs.declared.kept.Session.TheVariants.{Idle}
use Rattle.store_stops.specs.declared.stop.Stop.TheVariants.{Refused}
use Rattle.core_state.specs.States.{state_of}
use Rattle.core_state.proofs.Texts.{wrong_state_has_text}
use Rattle.core_collect.proofs.Passed.{collects_as, goes_uncut, is_refused, never_none}
use Rattle.core_collect.proofs.stepping.pass.Goals as goal

pub returns-then-not-is_on : goal.returns-then-not-is_on
returns-then-not-is_on g c =
    let old = c.args.parts.now in
    let within : c.args.at.lane < length old.sessions.items = omega (arith, old.lanes, old.sessions.ok.0, c.requires.lane) in
    let session = c.index.ensures ∙ get_or_default old.sessions.items c.args.at.lane c.index.result.now Idle within in
    is_refused g.D.Disk old c.args.upkeep.now c.args.collector.now c.args.at _ (sym c.is_on.ensures ∙ c.if-not-is_on.true)
    (ap (λ x. Err (Refused (WrongState x))) (c.state-state.ensures ∙ ap state_of session)) (wrong_state_has_text c.state-state.result)

pub collect-requires : goal.collect-requires
collect-requires g c = goes_uncut c.args.at.lane c.args.collector.now _ c.in-Some.is (sym c.is_on.ensures ∙ c.if-not-is_on.false) c.requires.uncut

pub returns : goal.returns
returns g c =
    collects_as g.D.Disk c.args.parts.now c.collect.new.parts c.args.upkeep.now c.collect.new.upkeep c.args.collector.now _ _ c.args.at c.collect.result c.in-Some.is (sym c.is_on.ensures ∙ c.if-not-is_on.false) c.collect.ensures

pub unreachable-requires : goal.unreachable-requires
unreachable-requires g c = never_none c.args.at.lane c.args.collector.now c.in-None.is (sym c.is_on.ensures ∙ c.if-not-is_on.false)
