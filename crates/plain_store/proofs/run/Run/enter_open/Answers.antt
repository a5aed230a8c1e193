use Rattle.std.proofs.Common.{◌≢◌, ◌∙◌, arith, sym, subst, refl, ap, Option, Some}
use Rattle.store_model.specs.Lanes.{Run}
use Rattle.store_model.specs.Weave.{Endings, close_collector}
use Rattle.plain_store.specs.Runs.{Enters}
use Rattle.plain_store.proofs.RunLemmas.{entered_1, entered_2, entered_4, entered_5, entered_6, own_passes, own_short, own_closes, own_faulted, own_ends, not_entered_open}
use Rattle.plain_store.proofs.run.Run.enter_open.Goals as goal

pub returns-in-1-clause-enters : goal.returns-in-1-clause-enters
returns-in-1-clause-enters c = λ later.
    let r = c.args.self.now in
    let e = c.args.entry.now in
    let E : Endings = λ _ _. c.args.ending in
    entered_1 E r c.args.place e later c.in-1.is ∙ own_passes r e.lane c.args.is_out_of_memory c.requires.open

pub returns-in-2-clause-enters : goal.returns-in-2-clause-enters
returns-in-2-clause-enters c = λ later.
    let r = c.args.self.now in
    let e = c.args.entry.now in
    let E : Endings = λ _ _. c.args.ending in
    entered_2 E r c.args.place e later c.in-2.is ∙ own_short r e.lane c.args.is_out_of_memory c.requires.open ∙ ap (λ (x : Run). Some x) (sym c.be_short.ensures.short)

pub returns-in_ok-close_collector-in-4-clause-enters : goal.returns-in_ok-close_collector-in-4-clause-enters
returns-in_ok-close_collector-in-4-clause-enters c = λ later.
    let r = c.args.self.now in
    let e = c.args.entry.now in
    let E : Endings = λ _ _. c.args.ending in
    entered_4 E r c.args.place e later c.in-4.is ∙ own_closes r e.lane c.args.is_out_of_memory c.requires.open
    ∙ ap (λ (x : Run). Some x) (sym (c.in_ok-close_collector-in-4.ensures.closed ∙ ap (close_collector r e.lane) c.collected.ensures.reply))

pub returns-in_ok-fault_open-in-5-clause-enters : goal.returns-in_ok-fault_open-in-5-clause-enters
returns-in_ok-fault_open-in-5-clause-enters c = λ later.
    let r = c.args.self.now in
    let e = c.args.entry.now in
    let E : Endings = λ _ _. c.args.ending in
    entered_5 E r c.args.place e later c.in-5.is
    ∙ ap (λ (x : Run). Some x) (own_faulted r e.lane c.args.is_out_of_memory c.requires.open c.args.place c.args.ending later ∙ sym c.in_ok-fault_open-in-5.ensures.told)

pub returns-in-6-clause-enters : goal.returns-in-6-clause-enters
returns-in-6-clause-enters c = λ later.
    let r = c.args.self.now in
    let e = c.args.entry.now in
    let E : Endings = λ _ _. c.args.ending in
    subst (λ (o : Option Run). Enters r c.end_open.new.self c.end_open.result o)
    (sym (entered_6 E r c.args.place e later c.in-6.is ∙ own_ends r e.lane c.args.is_out_of_memory c.requires.open c.args.ending)) c.end_open.ensures.enters

pub returns-in_default-clause-enters : goal.returns-in_default-clause-enters
returns-in_default-clause-enters c = λ later.
    let r = c.args.self.now in
    let e = c.args.entry.now in
    let E : Endings = λ _ _. c.args.ending in
    let one : e.kind ≢ 1 = omega arith in
    let two : e.kind ≢ 2 = omega arith in
    let four : e.kind ≢ 4 = omega arith in
    let five : e.kind ≢ 5 = omega arith in
    let six : e.kind ≢ 6 = omega arith in
    (not_entered_open E r c.args.place e later c.args.is_out_of_memory c.requires.open one two four five six, refl)
