-- What a lane's end does.
use Rattle.std.specs.Prelude.{ℕ, ◌≡◌, List, [], ◌∷◌, ◌++◌, Option}
use Rattle.port_traits.specs.declared.sink.Sink as sinks
use Rattle.store_model.specs.declared.ending.Ending.{Ending}
use Rattle.store_history.specs.declared.act.Act.TheVariants as acts
use Rattle.store_history.specs.declared.act.Event.{Event}
use Rattle.store_history.specs.History.{kind, lane}
use Rattle.core_state.specs.History.{History}
use Rattle.shared_store.specs.Comes.{with_events}
use Rattle.lane.specs.declared.ending.Last.{Last}
use Rattle.turn_lock.specs.State.{SeatState}
use Rattle.lane.specs.Acting.{Has}
use Rattle.lane.specs.RanAlone.{RanAlone}
use Rattle.lane.specs.Progress.{Start, HasStopped}

pub record IsEndOf (k : ℕ) (v : Event) (n : ℕ) : Type 0 where
  pub asks : v.act ≡ acts.End
  pub lane_is : lane v ≡ k
  pub kind_is : kind v ≡ n

-- the lane's end; one that met a fault comes again
abbrev pub AreEndOf : ℕ → List Event → Type 0
AreEndOf k (v ∷ []) = IsEndOf k v 6
AreEndOf k (v ∷ u ∷ []) = IsEndOf k v 5 × IsEndOf k u 6
AreEndOf k _ = ⊥

abbrev pub EndsLane : (History → Type 0) → (History → Type 0) → ℕ → Type 0
EndsLane before after k = (h : History) → before h → (vs : List Event) × (after (with_events h (h.events ++ vs)) × AreEndOf k vs)

-- what a lane did whose commands have come to an end is then all that it does
abbrev pub Closes : (History → Type 0) → (History → Type 0) → ℕ → Option (List ℕ) → Option (List ℕ) → ℕ → ℕ → Last → Ending → Type 0
Closes before after k taken taken' given given' last ending =
    (start : Start) (left : Option (List ℕ)) (size : ℕ) → HasStopped before start k left taken size given last.ending last.words
    → RanAlone after start.history k start.left left start.taken taken' (record { taken = size; given = given'; ending = ending })

-- ---- of seats, from whatever they had before

abbrev pub SeatEnds : SeatState Event → SeatState Event → ℕ → Type 0
SeatEnds old new k =
    (start : SeatState Event) → EndsLane (Has start old) (Has start new) k

abbrev pub SeatCloses : {K : Type 0} → sinks.Ghosts K → SeatState Event → SeatState Event → ℕ → K → K → ℕ → ℕ → Last → Ending → Type 0
SeatCloses sink old new k into later given given' last ending =
    (start : SeatState Event) → Closes (Has start old) (Has start new) k (sink.taken into) (sink.taken later) given given' last ending
