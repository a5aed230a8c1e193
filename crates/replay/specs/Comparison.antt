-- A comparison that goes on, lane by lane.
use Rattle.std.specs.Option.{option_or}
use Rattle.std.specs.Prelude.{◌≡◌, ℕ, ◌+◌, ◌-◌, ◌==◌, List, [], ◌∷◌, nat_lt, if◌then◌else◌, Option, Some, Result, Ok, Err, slice_get, slice_index_or}
use Rattle.store_types.specs.declared.order.Entry.{Entry}
use Rattle.store_files.specs.Archive.{Snapshot}
use Rattle.store_model.specs.Weave.{Misfit, told_by_input, woven}
use Rattle.plain_store.specs.declared.weave.Replayed.{Replayed}
use Rattle.plain_store.specs.Frees.{frees}
use Rattle.replay.specs.declared.difference.Unequal.{Unequal}
use Rattle.replay.specs.declared.comparison.Comparison.{Comparison}
use Rattle.replay.specs.Compare.{compare, first_unequal, misfit_at}

-- what was found in the lanes before this one, or is found in the kept replies of the others
abbrev pub from_lane : Result Replayed Misfit → Option Unequal → ℕ → List (List ℕ) → Option Unequal
from_lane (Ok r) found lane kept = option_or found (first_unequal (r.frees).items (r.woven).replies lane kept)
from_lane (Err m) found lane kept =
    if nat_lt m.lane lane then found else Some (misfit_at m (slice_get (slice_index_or kept (m.lane - lane) []) m.replayed))

-- what it comes to, where these are the kept replies of the lanes that come
abbrev pub outcome : Comparison → List (List ℕ) → Option Unequal
outcome c kept = from_lane c.replayed c.found c.lane kept

-- what is found in the lanes up to one, where an entry does not fit and this was kept at its place there
abbrev pub found_with : Misfit → Option Unequal → ℕ → Option ℕ → Option Unequal
found_with m found lane kept = if m.lane == lane then Some (misfit_at m kept) else found

-- this is found where these are the kept replies of the lane that comes
abbrev pub FindsBy : Comparison → List ℕ → Option Unequal → Type 0
FindsBy c kept found = (others : List (List ℕ)) → from_lane c.replayed found (c.lane + 1) others ≡ outcome c (kept ∷ others)

-- it has begun, of this order over these snapshots, with how lanes ended by what their inputs tell
pub record Begins (c : Comparison) (snapshots : List Snapshot) (remote : Option (List Snapshot)) (order : List Entry) (inputs : List (List ℕ)) : Type 0 where
  pub lane : c.lane ≡ 0
  pub is : (kept : List (List ℕ)) → outcome c kept
      ≡ compare (woven told_by_input snapshots remote order inputs) (frees told_by_input snapshots remote order inputs) kept

-- these were the kept replies of the next lane
pub record Takes (old new : Comparison) (kept : List ℕ) : Type 0 where
  pub lane : new.lane ≡ old.lane + 1
  pub goes_on : (others : List (List ℕ)) → outcome new others ≡ outcome old (kept ∷ others)
