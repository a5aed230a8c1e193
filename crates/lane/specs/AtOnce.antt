-- Which acts a lane makes once its sink has failed: its end alone.
use Rattle.std.specs.Prelude.{ℕ, Bool, false, true, ◌≡◌, ◌≤◌, ◌-◌, ◌^◌, min, List, [], ◌∷◌, ◌++◌, length, Option, None, option_to_list}
use Rattle.wire_commands.specs.declared.reply.Reply.{Reply}
use Rattle.store_model.specs.declared.ending.Ending.{Ending}
use Rattle.store_model.specs.declared.ending.Ending.TheVariants as endings
use Rattle.store_history.specs.declared.act.Act.TheVariants as acts
use Rattle.store_history.specs.declared.act.Event.{Event}
use Rattle.store_history.specs.LaneRun.{Position, begin, position_after, text}

-- each is a lane's end
abbrev pub AreEnds : List Event → Type 0
AreEnds [] = Unit {0}
AreEnds (v ∷ vs) = (v.act ≡ acts.End) × AreEnds vs

-- where these events of the lane led it to
abbrev pub position_by : Ending → Position → List Event → Position
position_by e p [] = p
position_by e p (v ∷ vs) = position_by e (position_after e p v) vs

-- all of these replies were given, but for the last at most; the count ends at 2^64 - 1
pub record GaveAllButOne (told : List Reply) (given : ℕ) : Type 0 where
  pub whole : List Reply
  pub last : Option Reply
  pub told_is : told ≡ whole ++ option_to_list last
  pub gave : min (length (text whole)) (2 ^ 64 - 1) ≤ given

-- As the lane's end comes, no job, SYNC or collection is open, and of what was told so far all was given, but for the last reply at most.
pub record HasEndedAtOnce (input : List ℕ) (events : List Event) (given : ℕ) : Type 0 where
  pub before : List Event
  pub ends : List Event
  pub split : events ≡ before ++ ends
  pub ended : AreEnds ends
  pub last : Position
  pub leads : position_by endings.SinkFault (begin input) before ≡ last
  pub off : last.task ≡ None
  pub gave : GaveAllButOne last.told given

-- a lane whose sink failed made no act more but its end
abbrev pub EndsAtOnce : Ending → List ℕ → List Event → ℕ → Type 0
EndsAtOnce endings.SinkFault input events given = HasEndedAtOnce input events given
EndsAtOnce e input events given = Unit {0}

-- all of the replies were given
abbrev pub gave_all : Ending → Bool
gave_all endings.SinkFault = false
gave_all e = true

-- where its commands have come to an end
abbrev pub GaveSo : Ending → List Reply → ℕ → Type 0
GaveSo endings.SinkFault told given = GaveAllButOne told given
GaveSo e told given = Unit {0}
