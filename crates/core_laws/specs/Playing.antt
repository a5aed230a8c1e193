-- What a list of acts does to a core.
use Rattle.std.specs.Prelude.{◌≡◌, ◌≤◌, ◌<◌, ℕ, List, ◌++◌, map}
use Rattle.std.specs.List.{All}
use Rattle.disk_trait.specs.declared.disk.Disk.{Ghosts}
use Rattle.port_traits.specs.declared.clock.Clock as clocks
use Rattle.store_history.specs.declared.act.Act.{Act}
use Rattle.store_history.specs.declared.act.Answer.{Answer}
use Rattle.store_history.specs.declared.act.Event.{Event}
use Rattle.store_history.specs.Acts.{IsWellFormed}
use Rattle.store_history.specs.History.{lane}
use Rattle.core_state.specs.declared.state.Core.{Core}
use Rattle.core_state.specs.Entering.{held_by}
use Rattle.core_state.specs.History.{History}
use Rattle.core_state.specs.Records.{Reaches}

-- the reserve of every lane is whole
abbrev pub AllWhole : {D E C : Type 0} → Core D E C → Type 0
AllWhole core = (lane : ℕ) → lane < 64 → 3 ≤ held_by core.journal lane

-- an act of a lane
abbrev pub IsPlayable : ℕ × Act → Type 0
IsPlayable asked = (asked.0 < 64) × IsWellFormed asked.1

abbrev pub ArePlayable : List (ℕ × Act) → Type 0
ArePlayable acts = All IsPlayable acts

-- with these events more
abbrev pub with_more : History → List Event → History
with_more h events = record h { events = h.events ++ events }

abbrev pub asked_in : Event → ℕ × Act
asked_in e = (lane e, e.act)

-- The acts were done in this order, each on its lane with its answer. Wherever acts had led from a first core and its history, these led on.
pub record HasPlayed {D E C : Type 0} (d : Ghosts D) (e : Ghosts E) (clock : clocks.Ghosts C) (old new : Core D E C) (acts : List (ℕ × Act)) (answers : List Answer) : Type 0 where
  pub events : List Event
  pub asked : map asked_in events ≡ acts
  pub answered : map (λ e. e.answer) events ≡ answers
  pub leads : (first : Core D E C) (began h : History) → Reaches d e clock.readings first began old h → Reaches d e clock.readings first began new (with_more h events)
