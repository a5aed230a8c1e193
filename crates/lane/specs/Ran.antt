-- What a lane did.
use Rattle.std.specs.Prelude.{ℕ, ◌≡◌, List, [], ◌++◌, Option, IfSome}
use Rattle.port_traits.specs.declared.source.Source as sources
use Rattle.port_traits.specs.declared.sink.Sink as sinks
use Rattle.port_traits.specs.Bytes.{TakesFrom}
use Rattle.wire_frames.specs.Frames.{short, cut}
use Rattle.store_model.specs.declared.ending.Ending.{Ending}
use Rattle.store_model.specs.declared.ending.Ending.TheVariants as endings
use Rattle.store_history.specs.declared.act.Event.{Event}
use Rattle.store_history.specs.LaneRun.{Position, begin}
use Rattle.store_history.specs.SoFar.{Leads}
use Rattle.lane.specs.AtOnce.{AreEnds}

-- The source gave the input. What it has left after a fault is open.
abbrev pub Took : Ending → Option (List ℕ) → Option (List ℕ) → List ℕ → Type 0
Took endings.SourceFault left left' input = IfSome left (λ xs. (rest : List ℕ) × (xs ≡ input ++ rest))
Took e left left' input = TakesFrom left left' input

-- The events before the lane's end led to where the input was read. Where no more than a part of a frame stands there, the
-- source has nothing left.
pub record IsReadOut (input : List ℕ) (before ends : List Event) (left : Option (List ℕ)) : Type 0 where
  pub last : Position
  pub leads : Leads (begin input) before last
  pub ended : AreEnds ends
  pub nothing : cut last.left ≡ short → IfSome left (λ xs. xs ≡ [])

-- a lane that ends cleanly, or where no command stands, has read its input to there
abbrev pub ReadsOut : Ending → List ℕ → List Event → List Event → Option (List ℕ) → Type 0
ReadsOut endings.Clean input before ends left = IsReadOut input before ends left
ReadsOut (endings.Broken place) input before ends left = IsReadOut input before ends left
ReadsOut e input before ends left = Unit {0}

-- the lane's end stands behind the events of its commands
pub record EndsRead (e : Ending) (input : List ℕ) (events : List Event) (left : Option (List ℕ)) : Type 0 where
  pub before : List Event
  pub ends : List Event
  pub split : events ≡ before ++ ends
  pub read : ReadsOut e input before ends left
