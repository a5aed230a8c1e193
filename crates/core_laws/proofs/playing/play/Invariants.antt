use Rattle.std.proofs.Common.{◌≡◌, ◌≤◌, ◌+◌, ◌++◌, length, vec_len, vec_capacity}
use Rattle.std.specs.Vec.Iter.{into_iter_items}
use Rattle.core_laws.specs.Playing.{AllWhole, ArePlayable, HasPlayed}
use Rattle.core_laws.proofs.playing.play.Given as goal

abbrev pub invariant-loop-lane : goal.invariant-loop-lane
invariant-loop-lane g l = record {
  can_next : (goal.iterator-loop-lane g).can_next l.lane-iterator;
  finite : (goal.iterator-loop-lane g).is_finite l.lane-iterator;
  rest : l.yielded ++ into_iter_items l.lane-iterator ≡ l.fn.acts.items;
  formed : ArePlayable (into_iter_items l.lane-iterator);
  room : length (into_iter_items l.lane-iterator) ≤ (l.core.journal).spare;
  place : vec_len l.answers + length (into_iter_items l.lane-iterator) ≤ vec_capacity l.answers;
  whole : AllWhole l.core;
  played : HasPlayed g.D.Disk g.E.Disk g.C.Clock l.fn.core l.core l.yielded l.answers.items;
}
