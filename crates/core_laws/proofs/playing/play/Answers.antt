use Rattle.std.proofs.Common.{◌<◌, ◌++◌, ◌∷◌, [], suc, length, ap, sym, subst, ◌∙◌, arith}
use Rattle.std.proofs.lemmas.List.{append_assoc}
use Rattle.std.specs.Vec.Iter.{into_iter_items}
use Rattle.core_laws.specs.Playing.{ArePlayable, HasPlayed}
use Rattle.core_laws.proofs.Played.{one_spare, played_more, stays_whole}
use Rattle.core_laws.proofs.playing.play.Goals as goal

pub loop-lane-preserved : goal.loop-lane-preserved
loop-lane-preserved g c =
    let lane = c.in-Some.lane in
    let act = c.in-Some.act in
    let left = into_iter_items c.next.new.self in
    let first = c.in-Some.ensures.steps.0 in
    let size = ap length first in
    let was = c.loop-lane.invariant in
    let room = was.room in
    let formed : ArePlayable ((lane, act) ∷ left) = subst ArePlayable first was.formed in
    let lt : lane < 64 = (formed 0 (lane, act) (omega arith)).0 in
    let some : 0 < (c.loop-lane.core.journal).spare = omega (arith, size, room) in
    let keeps = (c.apply.ensures.keeps).reserve in
    let one = one_spare c.loop-lane.core c.apply.new.core lane act c.apply.result lt some keeps was.whole in
    let place = was.place in
    let pushed = c.push_reserved.ensures.len in
    let holds = c.push_reserved.ensures.capacity in
    let more = played_more g.D.Disk g.E.Disk g.C.Clock c.args.core.now c.loop-lane.core c.apply.new.core c.loop-lane.yielded c.loop-lane.answers.items lane act c.apply.result lt
    c.apply.ensures.applies c.apply.ensures.alone c.apply.ensures.keeps was.played in
    record {
      can_next = tt;
      finite = tt;
      rest = append_assoc c.loop-lane.yielded ((lane, act) ∷ []) left ∙ ap (λ xs. c.loop-lane.yielded ++ xs) (sym first) ∙ was.rest;
      formed = λ k d below. formed (suc k) d (omega (arith, below));
      room = omega (arith, size, room, one);
      place = omega (arith, size, place, pushed, holds);
      whole = stays_whole c.loop-lane.core c.apply.new.core lane act c.apply.result lt some keeps was.whole;
      played = subst (λ answers. HasPlayed g.D.Disk g.E.Disk g.C.Clock c.args.core.now c.apply.new.core (c.loop-lane.yielded ++ (lane, act) ∷ []) answers) (sym c.push_reserved.ensures.items) more;
    }
