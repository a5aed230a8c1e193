-- What holds of all seats of one history.
use Rattle.std.specs.Prelude.{ℕ, ◌≡◌, ◌≤◌, ◌+◌, ◌==◌, true, List, [], ◌∷◌, ◌++◌, length}
use Rattle.std.specs.List.{list_any, range_with_len}
use mathlib.Core.List.{IsPrefix}
use Rattle.turn_lock.specs.State.{SeatState, seat_after_join}
use Rattle.store_types.specs.declared.order.TheConstants.{MEMORY_KIND}
use Rattle.wire_commands.specs.declared.reply.Reply.{Reply}
use Rattle.store_model.specs.declared.ending.Ending.TheVariants.{NoMemory}
use Rattle.store_history.specs.declared.act.Act.{Act}
use Rattle.store_history.specs.declared.act.Answer.{Answer}
use Rattle.store_history.specs.declared.act.Event.{Event}
use Rattle.store_history.specs.History.{entries, own}
use Rattle.store_history.specs.LaneRun.{LaneRan}
use Rattle.store_history.specs.Seats.{AreOf}
use Rattle.seat_history.specs.Entered.{HasEntered, HasGrown, OwnRises, event_at, own_events}
use Rattle.seat_history.specs.Lanes.{AreWithin, KeepsLanes, LastsAreWants}

-- an act of a seat that has grown by these events makes it grow by its own event too
abbrev pub ActsGrow : Type 0
ActsGrow =
    (start old new : SeatState Event) (es : List Event) (act : Act) (answer : Answer) (x : HasEntered act answer old new)
    → OwnRises new → HasGrown start old es → HasGrown start new (es ++ event_at act answer x.calls ∷ [])

-- what a seat sees of others' acts is none of its own
abbrev pub OthersAddNothing : Type 0
OthersAddNothing =
    (seat : SeatState Event) (longer : List Event) → IsPrefix seat.seen longer → OwnRises seat
    → own_events (record seat { seen = longer }) ≡ own_events seat

-- a seat that had entered nothing, and has grown by events of one lane, has these alone
abbrev pub OneLaneOwns : Type 0
OneLaneOwns =
    (k : ℕ) (start now : SeatState Event) (es : List Event) → start.mine ≡ [] → HasGrown start now es → AreOf k es
    → AreWithin k (k + 1) (own_events now) × (own k (own_events now) ≡ es)

-- two seats whose own events are of lanes apart become one that keeps them, lane by lane
abbrev pub JoinsKeepLanes : Type 0
JoinsKeepLanes =
    (first middle last : ℕ) (left right both : SeatState Event) → first ≤ middle → middle ≤ last
    → both ≡ seat_after_join left right → IsPrefix left.seen both.seen → IsPrefix right.seen both.seen → OwnRises left → OwnRises right
    → AreWithin first middle (own_events left) → AreWithin middle last (own_events right) → KeepsLanes first middle last left right both

-- of a seat that has all places, all of the history is its own
abbrev pub WholeSeatsOwnAll : Type 0
WholeSeatsOwnAll = (seat : SeatState Event) → seat.mine ≡ range_with_len 0 (length seat.seen) → own_events seat ≡ seat.seen

-- a lane that ended for want of memory has an entry of it
abbrev pub WantsAreEntered : Type 0
WantsAreEntered = (input : List ℕ) (events : List Event) (told : List Reply) → LaneRan input NoMemory events told → LastsAreWants events
    → list_any (λ e. e.kind == MEMORY_KIND) (entries events) ≡ true
