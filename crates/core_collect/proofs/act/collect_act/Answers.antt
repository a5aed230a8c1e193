use Rattle.std.proofs.Common.{refl, sym, subst}
use Rattle.store_history.specs.declared.act.Act.TheVariants.{Start, Step}
use Rattle.core_state.specs.Applies.{ActApplies, ActKeeps}
use Rattle.core_state.specs.Tells.{CoreTells}
use Rattle.core_state.proofs.Untold.{untold_tells}
use Rattle.core_collect.specs.Acts.{CoreAnswersBy, asked_of_collector, collect_words}
use Rattle.core_collect.proofs.ActLemmas.{neither, start_unreadable, step_unreadable}
use Rattle.core_collect.proofs.act.collect_act.Goals as goal

pub returns-in-Start-clause-applies : goal.returns-in-Start-clause-applies
returns-in-Start-clause-applies g c = subst (λ a. ActApplies g.D.Disk g.C.Clock c.args.core.now c.start.new.core c.args.lane a c.start.result) (sym c.in-Start.is) c.start.ensures.applies

pub returns-in-Start-clause-keeps : goal.returns-in-Start-clause-keeps
returns-in-Start-clause-keeps g c = subst (λ a. ActKeeps g.D.Disk c.args.core.now c.start.new.core c.args.lane a c.start.result) (sym c.in-Start.is) c.start.ensures.keeps

pub returns-in-Start-clause-from_state : goal.returns-in-Start-clause-from_state
returns-in-Start-clause-from_state g c = subst (λ a. CoreAnswersBy g.D.Disk c.args.core.now c.start.new.core c.args.lane a c.start.result) (sym c.in-Start.is) c.start.ensures.told

pub returns-in-Start-clause-tells : goal.returns-in-Start-clause-tells
returns-in-Start-clause-tells g c =
    let old = c.args.core.now in
    let cause = c.start.ensures.applies.cause in
    subst (λ a. CoreTells (collect_words a old.collector) g.D.Disk old c.start.new.core c.args.lane c.start.result) (sym c.in-Start.is)
    (untold_tells g.D.Disk old c.start.new.core c.args.lane Start c.start.result (asked_of_collector Start old.collector) refl cause (λ digest found. refl)
    (start_unreadable g.D.Disk old c.start.new.core c.args.lane c.start.result cause c.start.ensures.told))

pub returns-in-Step-clause-applies : goal.returns-in-Step-clause-applies
returns-in-Step-clause-applies g c = subst (λ a. ActApplies g.D.Disk g.C.Clock c.args.core.now c.step.new.core c.args.lane a c.step.result) (sym c.in-Step.is) c.step.ensures.applies

pub returns-in-Step-clause-keeps : goal.returns-in-Step-clause-keeps
returns-in-Step-clause-keeps g c = subst (λ a. ActKeeps g.D.Disk c.args.core.now c.step.new.core c.args.lane a c.step.result) (sym c.in-Step.is) c.step.ensures.keeps

pub returns-in-Step-clause-from_state : goal.returns-in-Step-clause-from_state
returns-in-Step-clause-from_state g c = subst (λ a. CoreAnswersBy g.D.Disk c.args.core.now c.step.new.core c.args.lane a c.step.result) (sym c.in-Step.is) c.step.ensures.told

pub returns-in-Step-clause-tells : goal.returns-in-Step-clause-tells
returns-in-Step-clause-tells g c =
    let old = c.args.core.now in
    let cause = c.step.ensures.applies.cause in
    subst (λ a. CoreTells (collect_words a old.collector) g.D.Disk old c.step.new.core c.args.lane c.step.result) (sym c.in-Step.is)
    (untold_tells g.D.Disk old c.step.new.core c.args.lane Step c.step.result (asked_of_collector Step old.collector) refl cause (λ digest found. refl)
    (step_unreadable g.D.Disk old c.step.new.core c.args.lane c.step.result cause c.step.ensures.told))

pub unreachable-requires : goal.unreachable-requires
unreachable-requires g c = neither c.args.act c.requires.kind c.in_default.not-Start c.in_default.not-Step
