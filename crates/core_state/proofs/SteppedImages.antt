-- Each image stands for what the history gives by then, with one act more of a collector after its start.
use Rattle.std.proofs.Common.{◌≡◌, ◌==◌, ℕ, false, None, IfSome, refl, sym, ap, subst, ◌∙◌}
use Rattle.store_types.specs.declared.order.TheConstants.{FAULT_KIND}
use Rattle.disk_trait.specs.Files.{Files}
use Rattle.disk_trait.specs.declared.disk.Disk.{Ghosts}
use Rattle.port_traits.specs.declared.clock.Clock as clocks
use Rattle.store_model.specs.Stands.{StandsFor as Stands}
use Rattle.store_model.specs.Store.{Store}
use Rattle.store_history.specs.declared.act.Act.TheVariants.{Step}
use Rattle.store_history.specs.declared.act.Answer.{Answer}
use Rattle.store_history.specs.declared.act.Event.{Event}
use Rattle.store_history.specs.CrashPoints.{one_more}
use Rattle.store_history.specs.History.{World, kind}
use Rattle.core_state.specs.declared.state.Core.{Core}
use Rattle.core_state.specs.Changes.{Change, LeavesChange, MayLeave, stays}
use Rattle.core_state.specs.History.{History, StandsFor, event_of, then_event, world}
use Rattle.core_state.specs.Recovers.{Recovers, TellsMoments}
use Rattle.core_state.proofs.Leading.{leads_same}
use Rattle.core_state.proofs.Recovering.{one_is, recovers_here}
use Rattle.core_state.proofs.SameSnapshots.{next_keeps}

-- images that stood for the snapshots of now stand for them after the change
abbrev pub SparesStored : Change → Files → World → Type 0
SparesStored change read w = (b c : Files) → MayLeave change read b c → Stands b (w.store).snapshots → Stands c (w.store).snapshots

pub stays_spare : (change : Change) (read : Files) (w : World) → change ≡ stays → SparesStored change read w
stays_spare change read w none =
    subst (λ x. SparesStored x read w) (sym none) (λ b c same stood. subst (λ (m : Files). Stands m (w.store).snapshots) (sym same) stood)

module _ {D E C : Type 0} (d : Ghosts D) (clock : clocks.Ghosts C) (told : TellsMoments d) (old new : Core D E C) (answer : Answer) (h : History) where
  abbrev e : Event
  e = event_of Step answer (d.calls (new.parts).disk)

  -- it moves no manifest
  same : (one_more h.remote (world h) e).snapshots ≡ ((world h).store).snapshots
  same = ap (λ (x : Store). x.snapshots) (one_is h.remote (world h) e) ∙ next_keeps h.remote (world h) (answer.entry).lane (answer.entry).moment Step (answer.entry).kind tt refl

  pub recovers_step : StandsFor d clock.readings old h → IfSome old.fault (λ _. (new.parts).disk ≡ (old.parts).disk)
      → (change : Change) → LeavesChange d (old.parts).disk (new.parts).disk change → (old.fault ≡ None → SparesStored change (d.content (old.parts).disk) (world h))
      → (begin : ℕ) → Recovers d begin old h → Recovers d begin new (then_event h (event_of Step answer (d.calls (new.parts).disk)))
  recovers_step s halts change crash spares begin recovers =
      recovers_here d clock told old new Step answer h s halts change crash
      (λ none. leads_same d told (old.parts).disk (new.parts).disk ((kind e == FAULT_KIND) ≡ false) ((world h).store).snapshots (one_more h.remote (world h) e).snapshots change crash same (spares none))
      begin recovers
