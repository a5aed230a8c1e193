use Rattle.std.proofs.Common.{rules, sym, ap, subst, ◌++◌, ◌∷◌, [], option_map}
use mathlib.Core.List.{IsPrefix}
use contract.BorrowLft.{⊑_static}
use Rattle.left_right.specs.Sides.{view}
use Rattle.turn_lock.specs.State.{SeatState}
use Rattle.store_history.specs.declared.act.Event.{Event}
use Rattle.core_state.specs.History.{event_of}
use Rattle.listing_views.specs.Listings.{rows}
use Rattle.shared_store.specs.Acted.{ActsOn}
use Rattle.shared_store.specs.Comes.{AreAnswered, ComesTo, StandsFor}
use Rattle.shared_store.specs.Views.{IsNoteOf}
use Rattle.shared_store.proofs.Coming.{acts_on, came_to, comes_answered}
use Rattle.shared_store.proofs.Lives.{all_live, known_names, twice_lives}
use Rattle.shared_store.proofs.Noting.{noted_act}
use Rattle.shared_store.proofs.shared.Shared.act.Goals as goal

pub enter-answer-requires : goal.enter-answer-requires
enter-answer-requires g c κs within =
    (within.0, (within.1.0, (within.1.1.0, (within.1.1.1.0, (within.1.1.1.1, (c.requires.lane, (c.requires.formed, c.take-held.ensures.value)))))))

pub pass-requires : goal.pass-requires
pass-requires g c κs within =
    let known = c.enter-answer.new.self in
    let seen = c.take-held.new.seat.seen in
    let answer = c.enter-answer.result.0 in (
      all_live _ g.row.D.lives g.row.E.lives g.row.C.lives g.row.N.lives within.0 within.1.0 within.1.1.0 within.1.1.1 known_names,
      (
        ⊑_static _,
        (
          twice_lives _,
          (
            search rules,
            (
              search rules,
              subst (λ act. StandsFor g.D.Disk g.E.Disk g.C.Clock g.N.Origin.is known.core
                  (option_map (λ p. (view p.writer.desk.place, rows p.writer.desk.shown.value)) known.poster) (seen ++ event_of act answer (g.D.Disk.calls known.core.parts.disk) ∷ [])) (sym c.of-asked.ensures) c.enter-answer.ensures.stands,
            ),
          ),
        ),
      ),
    )

pub returns-clause-acts : goal.returns-clause-acts
returns-clause-acts g c =
    let core = c.enter-answer.new.self.core in
    let seen = c.take-held.new.seat.seen in
    let calls = g.D.Disk.calls core.parts.disk in
    let answer = c.enter-answer.result.0 in
    came_to (λ es. ActsOn g.D.Disk g.E.Disk g.C.Clock g.N.Origin.is c.args.lane c.args.act answer c.args.seat.now.seen es) c.take-held.new.seat c.pass.new.seat _
    (event_of c.args.act answer calls) c.pass.ensures.seat (ap (λ act. event_of act answer calls) c.of-asked.ensures)
    (acts_on g.D.Disk g.E.Disk g.C.Clock g.N.Origin.is core c.args.seat.now.seen seen c.args.lane c.args.act answer (subst (λ (z : SeatState Event). IsPrefix z.seen seen) c.seat.view_is c.take-held.ensures.seen) c.enter-answer.ensures.acted)

pub returns-clause-comes : goal.returns-clause-comes
returns-clause-comes g c =
    let core = c.enter-answer.new.self.core in
    let answer = c.enter-answer.result.0 in
    let calls = g.D.Disk.calls core.parts.disk in (
      core,
      came_to (λ es. ComesTo g.D.Disk g.E.Disk g.C.Clock g.N.Origin.is core es) c.take-held.new.seat c.pass.new.seat _ (event_of c.args.act answer calls) c.pass.ensures.seat
          (ap (λ act. event_of act answer calls) c.of-asked.ensures) c.enter-answer.ensures.acted.comes,
    )

pub returns-clause-answered : goal.returns-clause-answered
returns-clause-answered g c =
    let core = c.enter-answer.new.self.core in
    let answer = c.enter-answer.result.0 in
    let calls = g.D.Disk.calls core.parts.disk in
    came_to AreAnswered c.take-held.new.seat c.pass.new.seat _ (event_of c.args.act answer calls) c.pass.ensures.seat (ap (λ act. event_of act answer calls) c.of-asked.ensures)
    (comes_answered g.D.Disk g.E.Disk g.C.Clock g.N.Origin.is core _ c.enter-answer.ensures.acted.comes)

pub invariant_of-seat : goal.invariant_of-seat
invariant_of-seat g c =
    let core = c.enter-answer.new.self.core in
    let answer = c.enter-answer.result.0 in
    let note = c.enter-answer.result.1 in
    let calls = g.D.Disk.calls core.parts.disk in
    noted_act note c.pass.new.seat c.pass.ensures.rises
    (came_to (λ es. IsNoteOf note es) c.take-held.new.seat c.pass.new.seat _ (event_of c.args.act answer calls) c.pass.ensures.seat (ap (λ act. event_of act answer calls) c.of-asked.ensures)
    c.enter-answer.ensures.note)
