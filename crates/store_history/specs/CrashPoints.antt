-- The plain store after a beginning of a history, and what opening a crashed disk may give. A crash point is a count of the disk's calls.
use Rattle.std.specs.Prelude.{ℕ, ◌≡◌, ◌+◌, ◌⊎◌, Bool, true, false, not, ◌&&◌, List, [], ◌∷◌, Option, is_none, if◌then◌else◌, ◌==◌, nat_le}
use Rattle.store_types.specs.declared.order.TheConstants.{FAULT_KIND}
use Rattle.store_files.specs.Archive.{Snapshot}
use Rattle.store_model.specs.Store.{Store}
use Rattle.store_model.specs.Steps.{answered}
use Rattle.store_history.specs.declared.act.Event.{Event}
use Rattle.store_history.specs.History.{World, lane, moment, kind, act_outcome, after}

-- the events that were answered by this count of the disk's calls are the first ones, since its calls never fall
abbrev pub answered_by : ℕ → List Event → ℕ
answered_by t [] = 0
answered_by t (e ∷ es) = if nat_le e.calls t then answered_by t es + 1 else 0

-- what the event's act gives where it meets no fault
abbrev pub undisturbed : Option (List Snapshot) → World → Event → Store
undisturbed remote w e = (answered w.store (act_outcome remote w (lane e) (moment e) e.act)).0

-- the event that comes next in the disk's life: as it was, or, where it met the first fault, as it was to be
abbrev pub one_more : Option (List Snapshot) → World → Event → Store
one_more remote w e = if kind e == FAULT_KIND then undisturbed remote w e else (after remote w e).store

-- a fault stops the disk: no event counts as answered from it on
abbrev pub is_past : ℕ → World → Event → Bool
is_past t w e = nat_le e.calls t && not (kind e == FAULT_KIND) && is_none w.fault

abbrev pub Either : Bool → Type 0 → Type 0 → Type 0
Either true A B = A
Either false A B = B

-- What an image of the disk at its call t may give when it is opened: the snapshots after the events that were answered by then, or after one more.
-- From the first fault on it is what its act found, or what it was to give.
abbrev pub Reopens : Option (List Snapshot) → World → List Event → ℕ → List Snapshot → Type 0
Reopens remote w [] t found = found ≡ (w.store).snapshots
Reopens remote w (e ∷ es) t found =
    Either (is_past t w e) (Reopens remote (after remote w e) es t found)
    ((found ≡ (w.store).snapshots) ⊎ (found ≡ (one_more remote w e).snapshots))
