use Rattle.std.proofs.Common.{length, get_or, arith, sym, ap, ◌∙◌, ◌++◌, [], Option, Err}
use Rattle.std.specs.List.{cons_option}
use Rattle.std.proofs.lemmas.List.{get_or_default}
use Rattle.store_types.specs.declared.order.Entry.{Entry}
use Rattle.store_model.specs.Weave.{misfit}
use Rattle.plain_store.specs.declared.frees.Free.{Free}
use Rattle.plain_store.proofs.WeaveLemmas.{entry_fits, turn_taken, turn_noted, turn_stopped}
use Rattle.plain_store.proofs.run.Run.take_turn.Goals as goal

abbrev no_entry : Entry
no_entry = record { lane = 0; moment = 0; kind = 0 }

pub ending_of-ending-requires : goal.ending_of-ending-requires
ending_of-ending-requires c =
    let e = get_or c.args.order.now c.args.place no_entry in
    let fit = entry_fits (length c.args.self.now.lanes) c.args.order.now c.args.place e c.requires.rules c.requires.place (get_or_default c.args.order.now c.args.place no_entry e c.requires.place) in
    omega (arith, fit.0, c.requires.endings)

pub freed-requires : goal.freed-requires
freed-requires c =
    let e = get_or c.args.order.now c.args.place no_entry in
    (entry_fits (length c.args.self.now.lanes) c.args.order.now c.args.place e c.requires.rules c.requires.place (get_or_default c.args.order.now c.args.place no_entry e c.requires.place)).0

pub enter-requires-clause-lane : goal.enter-requires-clause-lane
enter-requires-clause-lane c =
    let e = get_or c.args.order.now c.args.place no_entry in
    (entry_fits (length c.args.self.now.lanes) c.args.order.now c.args.place e c.requires.rules c.requires.place (get_or_default c.args.order.now c.args.place no_entry e c.requires.place)).0

pub enter-requires-clause-moment : goal.enter-requires-clause-moment
enter-requires-clause-moment c =
    let e = get_or c.args.order.now c.args.place no_entry in
    (entry_fits (length c.args.self.now.lanes) c.args.order.now c.args.place e c.requires.rules c.requires.place (get_or_default c.args.order.now c.args.place no_entry e c.requires.place)).1

pub misfit-requires : goal.misfit-requires
misfit-requires c =
    let e = get_or c.args.order.now c.args.place no_entry in
    let fit = entry_fits (length c.args.self.now.lanes) c.args.order.now c.args.place e c.requires.rules c.requires.place (get_or_default c.args.order.now c.args.place no_entry e c.requires.place) in
    omega (arith, fit.0, c.in_ok-enter.ensures.lanes)

pub returns-then-branch-clause-turn : goal.returns-then-branch-clause-turn
returns-then-branch-clause-turn c =
    let order = c.args.order.now in
    let e = get_or order c.args.place no_entry in
    let is = get_or_default order c.args.place no_entry e c.requires.place in
    let h = (rw c.if-branch.true at c.in_ok-enter.ensures.enters) in (
      turn_taken c.args.endings.now order c.args.place c.args.self.now c.enter.new.self e c.ending_of-ending.result c.requires.place is c.ending_of-ending.ensures h,
      turn_noted c.args.endings.now order c.args.place c.args.self.now c.enter.new.self e c.ending_of-ending.result c.requires.place is c.ending_of-ending.ensures _ _ h
          (c.in_ok-note.ensures ∙ ap (λ (o : Option Free). c.args.frees.now.items ++ cons_option o []) c.freed.ensures),
    )

pub returns-clause-turn : goal.returns-clause-turn
returns-clause-turn c =
    let order = c.args.order.now in
    let r = c.args.self.now in
    let e = get_or order c.args.place no_entry in
    let is = get_or_default order c.args.place no_entry e c.requires.place in
    let h = (rw c.if-branch.false at c.in_ok-enter.ensures.enters) in
    turn_stopped c.args.endings.now order c.args.place r r e c.ending_of-ending.result c.requires.place is c.ending_of-ending.ensures h.0
    ∙ ap (λ m. Err m) (ap (λ x. misfit x c.args.place e) (sym h.1) ∙ sym c.misfit.ensures)
