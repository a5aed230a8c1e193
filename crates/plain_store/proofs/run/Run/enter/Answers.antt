use Rattle.std.proofs.Common.{◌≢◌, ◌∙◌, arith, sym, subst, refl, ap, Option, Some}
use Rattle.std.specs.Prelude.{IfOk}
use Rattle.store_model.specs.Lanes.{Run}
use Rattle.store_model.specs.Weave.{Endings}
use Rattle.plain_store.specs.Runs.{Enters}
use Rattle.plain_store.proofs.RunLemmas.{entered_0, entered_1, entered_2, entered_3, entered_5, entered_6, entered_7, not_entered}
use Rattle.plain_store.proofs.run.Run.enter.Goals as goal

pub returns-in-Some-clause-enters : goal.returns-in-Some-clause-enters
returns-in-Some-clause-enters c = c.enter_open.ensures.enters c.args.later.now

pub returns-in-0-clause-enters : goal.returns-in-0-clause-enters
returns-in-0-clause-enters c =
    let r = c.args.self.now in
    let E : Endings = λ _ _. c.args.ending in
    subst (λ (o : Option Run). IfOk c.stepped.result (λ fits. Enters r c.stepped.new.self fits o)) (sym (entered_0 E r c.args.place c.args.entry.now c.args.later.now c.in-0.is)) c.stepped.ensures.enters

pub returns-in-2-clause-enters : goal.returns-in-2-clause-enters
returns-in-2-clause-enters c =
    let r = c.args.self.now in
    let E : Endings = λ _ _. c.args.ending in
    subst (λ (o : Option Run). IfOk c.short.result (λ fits. Enters r c.short.new.self fits o)) (sym (entered_2 E r c.args.place c.args.entry.now c.args.later.now c.in-2.is)) c.short.ensures.enters

pub returns-in-1-clause-enters : goal.returns-in-1-clause-enters
returns-in-1-clause-enters c =
    let r = c.args.self.now in
    let E : Endings = λ _ _. c.args.ending in
    subst (λ (o : Option Run). IfOk c.passed.result (λ fits. Enters r r fits o)) (sym (entered_1 E r c.args.place c.args.entry.now c.args.later.now c.in-1.is)) c.passed.ensures

pub returns-in-3-clause-enters : goal.returns-in-3-clause-enters
returns-in-3-clause-enters c =
    let r = c.args.self.now in
    let E : Endings = λ _ _. c.args.ending in
    subst (λ (o : Option Run). IfOk c.opens.result (λ fits. Enters r c.opens.new.self fits o)) (sym (entered_3 E r c.args.place c.args.entry.now c.args.later.now c.in-3.is)) c.opens.ensures.enters

pub returns-in-7-clause-enters : goal.returns-in-7-clause-enters
returns-in-7-clause-enters c =
    let r = c.args.self.now in
    let E : Endings = λ _ _. c.args.ending in
    subst (λ (o : Option Run). IfOk c.remote_failed.result (λ fits. Enters r c.remote_failed.new.self fits o)) (sym (entered_7 E r c.args.place c.args.entry.now c.args.later.now c.in-7.is))
    c.remote_failed.ensures.enters

pub returns-in-6-clause-enters : goal.returns-in-6-clause-enters
returns-in-6-clause-enters c =
    let r = c.args.self.now in
    let E : Endings = λ _ _. c.args.ending in
    subst (λ (o : Option Run). IfOk c.ends.result (λ fits. Enters r c.ends.new.self fits o)) (sym (entered_6 E r c.args.place c.args.entry.now c.args.later.now c.in-6.is)) c.ends.ensures.enters

pub returns-in_ok-faulted-in-5-clause-enters : goal.returns-in_ok-faulted-in-5-clause-enters
returns-in_ok-faulted-in-5-clause-enters c =
    let r = c.args.self.now in
    let E : Endings = λ _ _. c.args.ending in
    entered_5 E r c.args.place c.args.entry.now c.args.later.now c.in-5.is ∙ ap (λ (x : Run). Some x) (sym c.in_ok-faulted-in-5.ensures.told)

pub returns-in_default-kind-clause-enters : goal.returns-in_default-kind-clause-enters
returns-in_default-kind-clause-enters c =
    let r = c.args.self.now in
    let e = c.args.entry.now in
    let E : Endings = λ _ _. c.args.ending in
    let zero : e.kind ≢ 0 = omega arith in
    let one : e.kind ≢ 1 = omega arith in
    let two : e.kind ≢ 2 = omega arith in
    let three : e.kind ≢ 3 = omega arith in
    let five : e.kind ≢ 5 = omega arith in
    let six : e.kind ≢ 6 = omega arith in
    let seven : e.kind ≢ 7 = omega arith in
    (not_entered E r c.args.place e c.args.later.now (sym c.own_collector.ensures ∙ c.in_default.is) zero one two three five six seven, refl)
