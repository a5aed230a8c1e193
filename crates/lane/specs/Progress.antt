-- What a lane did, while it runs and as its commands have come to an end.
use Rattle.std.specs.Prelude.{ℕ, ◌≡◌, ◌+◌, Bool, true, false, List, [], ◌++◌, length, Option, None, option_to_list}
use Rattle.port_traits.specs.Bytes.{TakesFrom, WritesCounted}
use Rattle.wire_frames.specs.Frames.{Tail}
use Rattle.wire_commands.specs.declared.reply.Reply.{Reply}
use Rattle.store_model.specs.declared.ending.Ending.{Ending}
use Rattle.store_model.specs.declared.ending.Ending.TheVariants as endings
use Rattle.store_history.specs.declared.act.Event.{Event}
use Rattle.store_history.specs.LaneRun.{Position, begin, text, next_at, last_words, EndsSo, Runs}
use Rattle.store_history.specs.Seats.{AreOf}
use Rattle.store_history.specs.SoFar.{Leads}
use Rattle.core_state.specs.History.{History}
use Rattle.shared_store.specs.Comes.{with_events}
use Rattle.lane.specs.AtOnce.{gave_all, GaveSo, position_by}
use Rattle.lane.specs.Ran.{Took, ReadsOut}

-- what a lane began with: the history without its events, what its source had left, and what its sink had taken
pub record Start : Type 0 where
  pub history : History
  pub left : Option (List ℕ)
  pub taken : Option (List ℕ)

abbrev pub position : List ℕ → List ℕ → List Reply → Position
position input left told = record { size = length input; left = left; task = None; is_unheld = false; is_spent = false; told = told; is_over = false }

-- These events led the lane to where it is. It goes on.
pub record HasServed (stands : History → Type 0) (start : Start) (k : ℕ) (left taken : Option (List ℕ)) (tail : Tail) (size given : ℕ) : Type 0 where
  pub events : List Event
  pub input : List ℕ
  pub told : List Reply
  pub stands_for : stands (with_events start.history events)
  pub lanes : AreOf k events
  pub leads : Leads (begin input) events (position input tail.bytes told)
  pub size_is : length input ≡ size
  pub held : tail.offset + length tail.bytes ≡ size
  pub took : TakesFrom start.left left input
  pub gave : WritesCounted start.taken taken 0 given (text told) true

-- the reply behind the lane's end
abbrev pub HasWords : Ending → Position → Option Reply → Type 0
HasWords endings.SinkFault p words = words ≡ None
HasWords e p words = (last_words e p (next_at p)).told ≡ p.told ++ option_to_list words

-- These events led the lane to where its commands have come to an end, but for the lane's end.
pub record HasStopped (stands : History → Type 0) (start : Start) (k : ℕ) (left taken : Option (List ℕ)) (size given : ℕ) (e : Ending) (words : Option Reply) : Type 0 where
  pub events : List Event
  pub input : List ℕ
  pub last : Position
  pub stands_for : stands (with_events start.history events)
  pub lanes : AreOf k events
  pub runs : (f : Ending) (vs : List Event) (told : List Reply) → Runs f last vs told → Runs f (begin input) (events ++ vs) told
  pub on : last.is_over ≡ false
  pub off : last.task ≡ None
  pub size_is : length input ≡ size
  pub took : Took e start.left left input
  pub gave : WritesCounted start.taken taken 0 given (text last.told) (gave_all e)
  pub so : EndsSo e last (next_at last)
  pub says : HasWords e last words
  pub read_out : ReadsOut e input events [] left
  pub comes : (is_unheld : Bool) × (position_by endings.SinkFault (begin input) events ≡ record last { is_unheld = is_unheld })
  pub all_but_one : GaveSo e last.told given
