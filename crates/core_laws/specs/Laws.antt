-- What holds of the disk after every list of acts.
use Rattle.std.specs.Prelude.{◌≡◌, ◌≤◌, ◌↔◌, ℕ, false, List, ◌∷◌, Option, Some, None, IsSome}
use Rattle.std.specs.FinMap.{get}
use Rattle.store_types.specs.declared.order.TheConstants.{STOP_KIND}
use Rattle.disk_trait.specs.declared.disk.Disk.{Ghosts}
use Rattle.port_traits.specs.Readings.{Readings}
use Rattle.port_traits.specs.declared.clock.Clock as clocks
use Rattle.store_files.specs.Folder.{IsDigest, chunk_name}
use Rattle.atime_book.specs.Touches.{NoneAfter}
use Rattle.store_history.specs.declared.act.Act.TheVariants.{Step}
use Rattle.store_history.specs.declared.act.Answer.{Answer}
use Rattle.store_history.specs.declared.act.Event.{Event}
use Rattle.store_history.specs.Saved.{HoldsBook}
use Rattle.store_history.specs.Sweeping.{Sweep}
use Rattle.store_upkeep.specs.Laws.{IsWhole, touched_all}
use Rattle.store_upkeep.specs.Safety.{OpensStocked}
use Rattle.core_state.specs.declared.state.Core.{Core}
use Rattle.core_state.specs.Applies.{ActApplies, ActKeeps}
use Rattle.core_state.specs.Collectors.{is_cut}
use Rattle.core_state.specs.History.{History, StandsFor, event_of, then_event, world}
use Rattle.core_state.specs.KeepsTouches.{KeepsTouches, swept_of, touches_of_history}
use Rattle.core_collect.specs.Stepping.{StepTells}
use Rattle.core_laws.specs.Playing.{with_more}

-- the chunk's last touch, had none been taken out since the start, is not before the cutoff
abbrev pub IsRecent : History → Event → List Event → Sweep → List ℕ → Type 0
IsRecent h start since sweep x =
    (when : ℕ) × ((touched_all h.remote (world h) (swept_of h) (swept_of h).touches (start ∷ since)).last x ≡ Some when) × (sweep.cutoff ≤ when)

-- A collector starts behind a history, and its sweep is over behind these events: the disk has a chunk file exactly of each recent chunk.
abbrev pub SweepsLeaveChunkFiles : {D E C : Type 0} → Ghosts D → (C → Option Readings) → Core D E C → Type 0
SweepsLeaveChunkFiles d readings core =
    (h : History) (start : Event) (since : List Event) (sweep : Sweep)
    → StandsFor d readings core (with_more h (start ∷ since)) → KeepsTouches d core (with_more h (start ∷ since)) → core.fault ≡ None → OpensStocked h.opening
    → IsWhole h.remote (world h) (swept_of h) start since sweep
    → (x : List ℕ) → IsDigest x → IsSome (get (d.content (core.parts).disk) (chunk_name x)) ↔ IsRecent h start since sweep x

-- A collector's end that was not brought about early, of each history that the core stood for.
abbrev pub EndsSaveTheBook : {D E C : Type 0} → Ghosts D → clocks.Ghosts C → Core D E C → Core D E C → Type 0
EndsSaveTheBook d clock old new =
    (h : History) (lane : ℕ) (answer : Answer) → ActApplies d clock old new lane Step answer → ActKeeps d old new lane Step answer → StepTells d old new lane answer
    → NoneAfter (old.upkeep).book old.last → StandsFor d clock.readings old h → KeepsTouches d old h → (answer.entry).kind ≡ STOP_KIND → is_cut lane old.collector ≡ false
    → HoldsBook (d.content (new.parts).disk) (answer.entry).moment (touches_of_history (then_event h (event_of Step answer (d.calls (new.parts).disk))))
