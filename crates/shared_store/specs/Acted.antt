-- What the turn promises of one act on the core behind it.
use Rattle.disk_trait.specs.declared.disk.Disk.{Ghosts}
use Rattle.std.specs.Prelude.{ℕ, ◌≡◌, List, [], ◌∷◌, ◌++◌}
use mathlib.Core.List.{IsPrefix}
use Rattle.port_traits.specs.declared.clock.Clock as clocks
use Rattle.store_history.specs.declared.act.Act.{Act}
use Rattle.store_history.specs.declared.act.Answer.{Answer}
use Rattle.store_history.specs.declared.act.Event.{Event}
use Rattle.core_state.specs.declared.state.Core.{Core}
use Rattle.core_state.specs.History.{event_of}
use Rattle.shared_store.specs.Applied.{HasApplied}
use Rattle.shared_store.specs.Comes.{ComesTo}

-- One act behind the turn: it found a core that had come to this history, and left it one that has come to that with the act's event more.
pub record HasActed {D E C : Type 0} (d : Ghosts D) (e : Ghosts E) (clock : clocks.Ghosts C) (is_first : Core D E C → Type 0) (left : Core D E C) (before : List Event) (lane : ℕ) (act : Act) (answer : Answer) : Type 0 where
  pub found : Core D E C
  pub came : ComesTo d e clock is_first found before
  pub applied : HasApplied d e clock found left lane act answer
  pub comes : ComesTo d e clock is_first left (before ++ event_of act answer (d.calls (left.parts).disk) ∷ [])

-- One act of a seat: the history that it found behind the turn begins with all that the seat had seen, and what the seat has seen now ends with
-- the act, as it was answered at the disk's count of calls.
pub record ActsOn {D E C : Type 0} (d : Ghosts D) (e : Ghosts E) (clock : clocks.Ghosts C) (is_first : Core D E C → Type 0) (lane : ℕ) (act : Act) (answer : Answer) (old now : List Event) : Type 0 where
  pub before : List Event
  pub seen : IsPrefix old before
  pub left : Core D E C
  pub acted : HasActed d e clock is_first left before lane act answer
  pub ends : now ≡ before ++ event_of act answer (d.calls (left.parts).disk) ∷ []
