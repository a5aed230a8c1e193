use Rattle.std.proofs.Common.{rules, ◌≡◌, ◌++◌, ◌∷◌, [], length, Some, option_map, sym, ap, subst, ◌∙◌}
use contract.BorrowLft.{⊑_static}
use Rattle.std.specs.Arc.{arc_value}
use mathlib.Core.List.{IsPrefix}
use Rattle.left_right.specs.Sides.{view}
use Rattle.store_history.specs.declared.act.Event.{Event}
use Rattle.core_state.specs.History.{event_of}
use Rattle.listing_views.specs.Listings.{rows}
use Rattle.listing_views.specs.Rows.{all_rows}
use Rattle.shared_store.specs.Acted.{HasActed}
use Rattle.shared_store.specs.Comes.{CameTo, StandsFor}
use Rattle.shared_store.specs.Views.{rows_of}
use Rattle.shared_store.proofs.Coming.{comes_more}
use Rattle.shared_store.proofs.Lives.{all_live, came_names}
use Rattle.shared_store.proofs.Showing.{Shown, counted, longer, next_shows, note_of, shows_from, some_map, stands_from, stands_next, stands_room}
use Rattle.shared_store.proofs.known.Known.enter.Goals as goal

pub act_on-answer-requires-clause-rows : goal.act_on-answer-requires-clause-rows
act_on-answer-requires-clause-rows g c =
    let old = c.args.self.now in
    let h = g.history in
    let p = c.in-Some.poster in
    let v = view p.writer.desk.place in
    let r = rows p.writer.desk.shown.value in
    let is : old.poster ≡ Some p = search rules in
    let s : Shown g.D.Disk g.E.Disk g.C.Clock g.N.Origin.is old.core v r h =
    shows_from g.D.Disk g.E.Disk g.C.Clock g.N.Origin.is old.core (option_map (λ p. (view p.writer.desk.place, rows p.writer.desk.shown.value)) old.poster) h v r c.requires.1.1.1.1.1.1.1 (ap (option_map (λ p. (view p.writer.desk.place, rows p.writer.desk.shown.value))) is) in
    ap (λ z. rows z) c.shown.ensures ∙ s.rows_are ∙ ap (λ p. rows_of p.catalogue.listed) (sym c.make_room.ensures.same.parts)

pub show_next-poster-requires : goal.show_next-poster-requires
show_next-poster-requires g c κs within =
    let old = c.args.self.now in
    let h = g.history in
    let p = c.in-Some.poster in
    let v = view p.writer.desk.place in
    let r = rows p.writer.desk.shown.value in
    let is : old.poster ≡ Some p = search rules in
    let s : Shown g.D.Disk g.E.Disk g.C.Clock g.N.Origin.is old.core v r h =
    shows_from g.D.Disk g.E.Disk g.C.Clock g.N.Origin.is old.core (option_map (λ p. (view p.writer.desk.place, rows p.writer.desk.shown.value)) old.poster) h v r c.requires.1.1.1.1.1.1.1 (ap (option_map (λ p. (view p.writer.desk.place, rows p.writer.desk.shown.value))) is) in
    let core = c.act_on-answer.new.core in
    let answer = c.act_on-answer.result.0 in
    let calls = g.D.Disk.calls core.parts.disk in
    let e : Event = event_of c.args.act answer calls in
    let picked : Event = event_of c.of-asked.result.value c.of.result.value c.calls-calls.result in
    let same : picked ≡ e =
    ap (λ x. event_of x c.of.result.value c.calls-calls.result) c.of-asked.ensures ∙ ap (λ x. event_of c.args.act x c.calls-calls.result) c.of.ensures
    ∙ ap (λ n. event_of c.args.act answer n) c.calls-calls.ensures in
    let acted : HasActed g.D.Disk g.E.Disk g.C.Clock g.N.Origin.is core h c.args.lane c.args.act answer =
    comes_more g.D.Disk g.E.Disk g.C.Clock g.N.Origin.is old.core c.make_room.new.core core h c.args.lane c.args.act answer c.requires.1.1.1.1.1.0 c.make_room.ensures.same c.make_room.ensures.below c.act_on-answer.ensures.applied s.comes in
    let n : length (core.journal).entries.items ≡ c.len-count.result = search rules in (
      all_live _ g.row.D.lives g.row.E.lives g.row.C.lives g.row.N.lives within.0 within.1.0 within.1.1.0 within.1.1.1.0 came_names,
      (
        within.1.1.1.1,
        (
          ⊑_static _,
          (
            subst (λ (z : Event). IsPrefix v (h ++ z ∷ [])) (sym same) (longer v s.rest h e s.whole),
            (
              ap (λ (z : Event). length (h ++ z ∷ [])) same ∙ counted g.D.Disk g.E.Disk g.C.Clock g.N.Origin.is core (h ++ e ∷ []) acted.comes ∙ n,
              some_map c.act_on-answer.result.1 (λ x k. subst (λ (z : Event). CameTo g.D.Disk g.E.Disk g.C.Clock g.N.Origin.is (h ++ z ∷ []) (all_rows (arc_value x).items)) (sym same) k)
                  (next_shows g.D.Disk g.E.Disk g.C.Clock g.N.Origin.is c.act_on-answer.result.1 c.make_room.new.core core c.args.act answer (h ++ e ∷ []) acted.comes c.act_on-answer.ensures.next),
            ),
          ),
        ),
      ),
    )

pub returns-clause-acted : goal.returns-clause-acted
returns-clause-acted g c =
    let old = c.args.self.now in
    let h = g.history in
    let p = c.in-Some.poster in
    let v = view p.writer.desk.place in
    let r = rows p.writer.desk.shown.value in
    let is : old.poster ≡ Some p = search rules in
    let s : Shown g.D.Disk g.E.Disk g.C.Clock g.N.Origin.is old.core v r h =
    shows_from g.D.Disk g.E.Disk g.C.Clock g.N.Origin.is old.core (option_map (λ p. (view p.writer.desk.place, rows p.writer.desk.shown.value)) old.poster) h v r c.requires.1.1.1.1.1.1.1 (ap (option_map (λ p. (view p.writer.desk.place, rows p.writer.desk.shown.value))) is) in
    comes_more g.D.Disk g.E.Disk g.C.Clock g.N.Origin.is old.core c.make_room.new.core c.act_on-answer.new.core h c.args.lane c.args.act c.act_on-answer.result.0 c.requires.1.1.1.1.1.0 c.make_room.ensures.same c.make_room.ensures.below
    c.act_on-answer.ensures.applied s.comes

pub returns-clause-stands : goal.returns-clause-stands
returns-clause-stands g c =
    let old = c.args.self.now in
    let h = g.history in
    let p = c.in-Some.poster in
    let v = view p.writer.desk.place in
    let r = rows p.writer.desk.shown.value in
    let is : old.poster ≡ Some p = search rules in
    let s : Shown g.D.Disk g.E.Disk g.C.Clock g.N.Origin.is old.core v r h =
    shows_from g.D.Disk g.E.Disk g.C.Clock g.N.Origin.is old.core (option_map (λ p. (view p.writer.desk.place, rows p.writer.desk.shown.value)) old.poster) h v r c.requires.1.1.1.1.1.1.1 (ap (option_map (λ p. (view p.writer.desk.place, rows p.writer.desk.shown.value))) is) in
    let core = c.act_on-answer.new.core in
    let answer = c.act_on-answer.result.0 in
    let calls = g.D.Disk.calls core.parts.disk in
    let e : Event = event_of c.args.act answer calls in
    let picked : Event = event_of c.of-asked.result.value c.of.result.value c.calls-calls.result in
    let same : picked ≡ e =
    ap (λ x. event_of x c.of.result.value c.calls-calls.result) c.of-asked.ensures ∙ ap (λ x. event_of c.args.act x c.calls-calls.result) c.of.ensures
    ∙ ap (λ n. event_of c.args.act answer n) c.calls-calls.ensures in
    let acted : HasActed g.D.Disk g.E.Disk g.C.Clock g.N.Origin.is core h c.args.lane c.args.act answer =
    comes_more g.D.Disk g.E.Disk g.C.Clock g.N.Origin.is old.core c.make_room.new.core core h c.args.lane c.args.act answer c.requires.1.1.1.1.1.0 c.make_room.ensures.same c.make_room.ensures.below c.act_on-answer.ensures.applied s.comes in
    let after = c.show_next-poster.result in
    let stands : StandsFor g.D.Disk g.E.Disk g.C.Clock g.N.Origin.is core (Some (view after.writer.desk.place, rows after.writer.desk.shown.value)) (h ++ e ∷ []) =
    stands_from g.D.Disk g.E.Disk g.C.Clock g.N.Origin.is core (h ++ e ∷ []) (view after.writer.desk.place) (rows after.writer.desk.shown.value)
    (stands_next g.D.Disk g.E.Disk g.C.Clock g.N.Origin.is c.act_on-answer.result.1 c.make_room.new.core core c.args.act answer calls h v (view after.writer.desk.place) r (rows after.writer.desk.shown.value)
    (stands_room g.D.Disk g.E.Disk g.C.Clock g.N.Origin.is old.core c.make_room.new.core v h r c.make_room.ensures.same s) acted.comes c.act_on-answer.ensures.next
    (some_map c.act_on-answer.result.1 (λ x k. (k.0 ∙ ap (λ z. h ++ z ∷ []) same, k.1)) c.show_next-poster.ensures.some) c.show_next-poster.ensures.none) in
    let gone : c.replace-gone.new.dest ≡ Some after = c.replace-gone.ensures.after in
    subst (λ o. StandsFor g.D.Disk g.E.Disk g.C.Clock g.N.Origin.is core (option_map (λ p. (view p.writer.desk.place, rows p.writer.desk.shown.value)) o) (h ++ e ∷ [])) (sym gone) stands

pub returns-clause-note : goal.returns-clause-note
returns-clause-note g c =
    let old = c.args.self.now in
    let h = g.history in
    let p = c.in-Some.poster in
    let v = view p.writer.desk.place in
    let r = rows p.writer.desk.shown.value in
    let is : old.poster ≡ Some p = search rules in
    let s : Shown g.D.Disk g.E.Disk g.C.Clock g.N.Origin.is old.core v r h =
    shows_from g.D.Disk g.E.Disk g.C.Clock g.N.Origin.is old.core (option_map (λ p. (view p.writer.desk.place, rows p.writer.desk.shown.value)) old.poster) h v r c.requires.1.1.1.1.1.1.1 (ap (option_map (λ p. (view p.writer.desk.place, rows p.writer.desk.shown.value))) is) in
    let core = c.act_on-answer.new.core in
    let answer = c.act_on-answer.result.0 in
    let calls = g.D.Disk.calls core.parts.disk in
    let e : Event = event_of c.args.act answer calls in
    let picked : Event = event_of c.of-asked.result.value c.of.result.value c.calls-calls.result in
    let same : picked ≡ e =
    ap (λ x. event_of x c.of.result.value c.calls-calls.result) c.of-asked.ensures ∙ ap (λ x. event_of c.args.act x c.calls-calls.result) c.of.ensures
    ∙ ap (λ n. event_of c.args.act answer n) c.calls-calls.ensures in
    let acted : HasActed g.D.Disk g.E.Disk g.C.Clock g.N.Origin.is core h c.args.lane c.args.act answer =
    comes_more g.D.Disk g.E.Disk g.C.Clock g.N.Origin.is old.core c.make_room.new.core core h c.args.lane c.args.act answer c.requires.1.1.1.1.1.0 c.make_room.ensures.same c.make_room.ensures.below c.act_on-answer.ensures.applied s.comes in
    let after = c.show_next-poster.result in
    let next : Shown g.D.Disk g.E.Disk g.C.Clock g.N.Origin.is core (view after.writer.desk.place) (rows after.writer.desk.shown.value) (h ++ e ∷ []) =
    stands_next g.D.Disk g.E.Disk g.C.Clock g.N.Origin.is c.act_on-answer.result.1 c.make_room.new.core core c.args.act answer calls h v (view after.writer.desk.place) r (rows after.writer.desk.shown.value)
    (stands_room g.D.Disk g.E.Disk g.C.Clock g.N.Origin.is old.core c.make_room.new.core v h r c.make_room.ensures.same s) acted.comes c.act_on-answer.ensures.next
    (some_map c.act_on-answer.result.1 (λ x k. (k.0 ∙ ap (λ z. h ++ z ∷ []) same, k.1)) c.show_next-poster.ensures.some) c.show_next-poster.ensures.none in
    note_of c.shown-2.result.now.count (view after.writer.desk.place) next.rest (h ++ e ∷ []) (after.all ∙ sym (ap (λ z. z.count) c.shown-2.ensures)) next.whole next.quiet
