use Rattle.store_history.specs.declared.act.Act.TheVariants as acts
use Rattle.seat_history.proofs.Picking.{grown_more}
use Rattle.lane.specs.Acting.{Has}
use Rattle.lane.proofs.Acting.{ends_once}
use Rattle.lane.proofs.Closings.{ends_here, ends_again}
use Rattle.lane.proofs.ending.end.Goals as goal

pub returns-then-answer-eq-FAULT_KIND-clause-ends : goal.returns-then-answer-eq-FAULT_KIND-clause-ends
returns-then-answer-eq-FAULT_KIND-clause-ends g c = λ start.
    let first = c.act-answer.ensures in
    let second = c.act.ensures in
    ends_again (Has start c.args.seat.now) (Has start c.act-answer.new.seat) (Has start c.act.new.seat) c.args.lane c.act-answer.result c.act.result (first.entered).calls (second.entered).calls
    (λ h grown. grown_more start c.args.seat.now c.act-answer.new.seat h.events acts.End c.act-answer.result first.entered first.rises grown)
    (λ h grown. grown_more start c.act-answer.new.seat c.act.new.seat h.events acts.End c.act.result second.entered second.rises grown)
    (λ again. ends_once c.args.seat.now c.act-answer.new.seat c.act.new.seat c.act-answer.result c.act.result first.entered second.entered second.answered c.if-answer-eq-FAULT_KIND.true again)
    first.lane second.lane c.if-answer-eq-FAULT_KIND.true second.told

pub returns-clause-ends : goal.returns-clause-ends
returns-clause-ends g c = λ start. let acted = c.act-answer.ensures in
    ends_here (Has start c.args.seat.now) (Has start c.act-answer.new.seat) c.args.lane c.act-answer.result (acted.entered).calls
    (λ h grown. grown_more start c.args.seat.now c.act-answer.new.seat h.events acts.End c.act-answer.result acted.entered acted.rises grown)
    acted.lane c.if-answer-eq-FAULT_KIND.false acted.told
