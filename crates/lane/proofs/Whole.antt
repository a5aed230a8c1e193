-- A whole run: the seat that a new turn comes with serves all lanes, and then has all of the history for its own.
use Rattle.disk_trait.specs.declared.disk.Disk.{Ghosts}
use Rattle.std.proofs.Common.{◌≡◌, ◌≤◌, ◌+◌, ◌-◌, ◌^◌, ℕ, false, List, [], ◌∷◌, length, ap, subst, ◌∙◌, arith}
use Rattle.std.specs.List.{range_with_len}
use Rattle.port_traits.specs.declared.clock.Clock as clocks
use Rattle.port_traits.specs.declared.source.Source as sources
use Rattle.port_traits.specs.declared.sink.Sink as sinks
use Rattle.turn_lock.specs.State.{IsNewTurn, SeatState, TurnState}
use Rattle.store_history.specs.declared.act.Event.{Event}
use Rattle.store_history.specs.Woven.{AreLanes}
use Rattle.core_state.specs.declared.state.Core.{Core}
use Rattle.seat_history.specs.Entered.{own_events}
use Rattle.seat_history.specs.Lanes.{AreWithin}
use Rattle.seat_history.proofs.Picking.{whole_owns}
use Rattle.shared_store.specs.Comes.{ComesTo}
use Rattle.store_history.specs.declared.port.LaneReport.{LaneReport}
use Rattle.store_history.specs.declared.port.Port.{Port}
use Rattle.lane.specs.Served.{CanServe, EachRan, AreServed, RanAs}
use Rattle.lane.specs.Together.{RanTogether}

-- it may serve up to 64 lanes
pub may_begin : (turn : TurnState Event) (seat : SeatState Event) (n : ℕ) → IsNewTurn [] (turn, seat) → 1 ≤ n → n ≤ 64 → CanServe turn.id seat 0 n
may_begin turn seat n begun some few =
    let reach : seat.reach ≡ 2 ^ 32 = ap (λ (s : SeatState Event). s.reach) begun.1 in
    record {
      own = ap (λ (s : SeatState Event). s.turn) begun.1;
      idle = ap (λ (s : SeatState Event). s.holding) begun.1;
      none = ap (λ (s : SeatState Event). s.mine) begun.1;
      some = some;
      reach = omega (arith, few, reach);
      lanes = omega (arith, few);
    }

-- it may end the turn, once it has only seen and entered more
pub may_close : (turn : TurnState Event) (seat last : SeatState Event) → IsNewTurn [] (turn, seat) → last ≡ record seat { seen = last.seen; mine = last.mine }
    → (last.turn ≡ turn.id) × (last.holding ≡ false) × (last.reach ≡ 2 ^ 32)
may_close turn seat last begun same = (
  ap (λ (s : SeatState Event). s.turn) same ∙ ap (λ (s : SeatState Event). s.turn) begun.1,
  ap (λ (s : SeatState Event). s.holding) same ∙ ap (λ (s : SeatState Event). s.holding) begun.1,
  ap (λ (s : SeatState Event). s.reach) same ∙ ap (λ (s : SeatState Event). s.reach) begun.1,
)

-- a seat with all places since a beginning without events has all events
owns_all : (opening : List Event) (last : SeatState Event) → opening ≡ [] → last.mine ≡ range_with_len (length opening) (length last.seen - length opening) → own_events last ≡ last.seen
owns_all opening last none mine =
    let count : length opening ≡ 0 = ap length none in
    let rest : length last.seen - 0 ≡ length last.seen = omega arith in
    whole_owns last (mine ∙ ap (λ n. range_with_len n (length last.seen - n)) count ∙ ap (range_with_len 0) rest)

lanes_below : (n : ℕ) (es : List Event) → AreWithin 0 n es → AreLanes n es
lanes_below n [] within = tt
lanes_below n (e ∷ es) within = (within.0.1, lanes_below n es within.1)

pub ran_together : {D E C S K : Type 0} (d : Ghosts D) (e : Ghosts E) (clock : clocks.Ghosts C) (source : sources.Ghosts S) (sink : sinks.Ghosts K) (is_first : Core D E C → Type 0)
    (old new : List (Port S K)) (core : Core D E C) (reports : List LaneReport) (turn : TurnState Event) (seat last : SeatState Event)
    → IsNewTurn [] (turn, seat) → AreServed (RanAs source sink) 0 old new reports seat last → ComesTo d e clock is_first core last.seen
    → last.mine ≡ range_with_len (length turn.opening) (length last.seen - length turn.opening) → RanTogether d e clock source sink is_first old new core reports
ran_together d e clock source sink is_first old new core reports turn seat last begun served comes mine =
    let all : own_events last ≡ last.seen = owns_all turn.opening last begun.0 mine in
    let count : 0 + length old ≡ length old = omega arith in
    record {
      events = last.seen;
      runs = served.runs;
      comes = comes;
      lanes = lanes_below (length old) last.seen (subst (λ n. AreWithin 0 n last.seen) count (subst (λ es. AreWithin 0 (0 + length old) es) all served.lanes));
      each = subst (λ es. EachRan (RanAs source sink) 0 old new reports served.runs es) all served.each;
    }
