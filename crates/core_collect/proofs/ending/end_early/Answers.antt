use Rattle.std.proofs.Common.{◌≡◌, true, Option, Some, None, ap, sym, subst, ◌∙◌, rules}
use Rattle.wire_commands.specs.declared.reply.Reply.TheVariants.{Refused}
use Rattle.core_state.specs.declared.collector.Collector.{Collector}
use Rattle.core_state.specs.Collectors.{is_cut}
use Rattle.core_collect.specs.Ending.{early_in}
use Rattle.core_collect.proofs.EndLemmas.{closes_early, cut_early, entered_text, halts_so}
use Rattle.core_collect.proofs.ending.end_early.Goals as goal

pub early_of-early-requires : goal.early_of-early-requires
early_of-early-requires g c =
    let next = c.next_place-at.ensures in
    cut_early c.args.lane _ (subst (λ (o : Option Collector). is_cut c.args.lane o ≡ true) (sym (c.take.ensures.value ∙ next.collector)) c.requires.cut)

pub returns-in-Some-clause-told : goal.returns-in-Some-clause-told
returns-in-Some-clause-told g c =
    let fault : c.next_place-at.new.core.fault ≡ Some c.in-Some.place = search rules in
    halts_so g.D.Disk _ c.args.core.now c.next_place-at.new.core c.enter.new.core c.args.lane c.next_place-at.result c.enter.result c.next_place-at.ensures c.in-Some.place c.halted.result fault c.halted.ensures.reply
    c.enter.ensures

pub returns-in-Some-clause-text : goal.returns-in-Some-clause-text
returns-in-Some-clause-text g c =
    entered_text g.D.Disk c.next_place-at.new.core c.enter.new.core c.next_place-at.result.lane c.next_place-at.result.moment 5 c.halted.result c.enter.result c.enter.ensures c.halted.ensures.text

pub returns-clause-told : goal.returns-clause-told
returns-clause-told g c =
    let none : c.next_place-at.new.core.fault ≡ None = search rules in
    closes_early g.D.Disk _ c.args.core.now c.next_place-at.new.core c.enter-2.new.core c.args.lane c.next_place-at.result c.enter-2.result c.next_place-at.ensures c.early_of-early.result c.take.new.self c.into_refusal.result _
    none (ap early_in (sym c.take.ensures.value) ∙ c.early_of-early.ensures) c.take.ensures.after c.into_refusal.ensures.value c.enter-2.ensures

pub returns-clause-text : goal.returns-clause-text
returns-clause-text g c =
    entered_text g.D.Disk _ c.enter-2.new.core c.next_place-at.result.lane c.next_place-at.result.moment 4 (Refused c.into_refusal.result) c.enter-2.result c.enter-2.ensures c.into_refusal.ensures.text
