-- What the core knows of the sweep of a history that it stands for.
use Rattle.disk_trait.specs.declared.disk.Disk.{Ghosts}
use Rattle.std.proofs.Common.{◌≡◌, ℕ, false, List, Option, Some, None, ap, ◌∙◌}
use Rattle.port_traits.specs.Readings.{Readings}
use Rattle.store_history.specs.declared.act.Act.TheVariants.{Step}
use Rattle.store_history.specs.declared.act.Event.{Event}
use Rattle.store_history.specs.Sweeping.{Sweep, next_taken, taken_by, taken_in}
use Rattle.store_upkeep.proofs.Digests.{chunks_digests}
use Rattle.store_upkeep.proofs.Listing.{lists_chunks, swept_rising}
use Rattle.store_upkeep.proofs.Stocking.{taken_unneeded}
use Rattle.core_state.specs.declared.state.Core.{Core}
use Rattle.core_state.specs.History.{History, StandsFor, event_of, world}
use Rattle.core_state.specs.KeepsTouches.{swept_of}
use Rattle.core_collect.specs.Beside.{IsSweepable}

-- a mark or a visit, as it may come next
next_pass : Event
next_pass = event_of Step (record { reply = None; entry = record { lane = 0; moment = 0; kind = 1 }; place = 0; last = false }) 0

taken_next : (h : History) (sweep : Sweep) (x : List ℕ) → (swept_of h).sweep ≡ Some sweep → next_taken (swept_of h) sweep sweep.unmarked ≡ Some x → taken_by (swept_of h) next_pass ≡ Some x
unfolding next_pass
taken_next h sweep x there taken = ap (taken_in (swept_of h)) there ∙ taken

pub sweepable : {D E C : Type 0} (d : Ghosts D) (readings : C → Option Readings) (core : Core D E C) (h : History) → StandsFor d readings core h → IsSweepable (world h).store (swept_of h)
sweepable d readings core h s = record {
  rise = swept_rising h.remote h.opening h.events;
  digests = chunks_digests h.remote h.opening h.events s.legal;
  lists = lists_chunks h.remote h.opening h.events;
  unneeded = λ sweep x there taken needed. taken_unneeded h.remote h.opening h.events next_pass x s.legal (taken_next h sweep x there taken) needed;
}
