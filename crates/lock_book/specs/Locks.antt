-- Which lane has which group, and which lanes hold which snapshots.
use Rattle.std.specs.Prelude.{◌≡◌, ℕ, min, not, List, [], ◌∷◌, ◌++◌, map, filter, ◌==◌, if◌then◌else◌, Option, Some, None, option_map, Result, OnOk}
use Rattle.std.specs.Borrow.{Bor}
use Rattle.std.specs.List.{reduce}
use Rattle.std.specs.Map.{lookup}
use Rattle.std.specs.Option.{option_copied}
use Rattle.std.specs.Result.{result_err}
use Rattle.store_types.specs.declared.names.SnapshotKey.{SnapshotKey}
use Rattle.store_types.specs.declared.names.GroupKey.{GroupKey}
use Rattle.store_types.specs.Names.{same_key, same_group}
use Rattle.lock_book.specs.declared.LaneHolds.{LaneHolds}

-- the lane that has each group, and the claims to snapshots as they were taken
pub record Locks : Type 0 where
  pub groups : List (GroupKey × ℕ)
  pub shared : List (SnapshotKey × ℕ)

abbrev pub no_locks : Locks
no_locks = record { groups = []; shared = [] }

-- the lane that has the group
abbrev pub group_holder : Locks → GroupKey → Option ℕ
group_holder locks group = lookup (same_group group) locks.groups

-- the lanes that hold the snapshot
abbrev pub sharers : Locks → SnapshotKey → List ℕ
sharers locks key = map (λ claim. claim.1) (filter (λ claim. same_key claim.0 key) locks.shared)

-- the least of them
abbrev pub least_sharer : Locks → SnapshotKey → Option ℕ
least_sharer locks key = reduce min (sharers locks key)

-- the holder, unless it is this lane
abbrev pub other_than : ℕ → Option ℕ → Option ℕ
other_than lane None = None
other_than lane (Some holder) = if holder == lane then None else Some holder

-- a refusal tells the lane that has the group, and comes just where that is another one
abbrev pub TellsHolder : Locks → ℕ → GroupKey → Result (Unit {0}) LaneHolds → Type 0
TellsHolder locks lane group taken = option_map (λ e. e.lane) (result_err taken) ≡ other_than lane (group_holder locks group)

-- the lane's claim to the snapshot, where there is one
abbrev pub claim_by : ℕ → Option SnapshotKey → Option (SnapshotKey × ℕ)
claim_by lane key = option_map (λ k. (k, lane)) key

-- the same as a list
abbrev pub claims_of : ℕ → Option SnapshotKey → List (SnapshotKey × ℕ)
claims_of lane None = []
claims_of lane (Some key) = (key, lane) ∷ []

-- The lane has the group too, and nothing else has changed.
pub record TakesGroup (old new : Locks) (lane : ℕ) (group : GroupKey) : Type 0 where
  pub groups : (g : GroupKey) → group_holder new g ≡ (if same_group group g then Some lane else group_holder old g)
  pub shared : new.shared ≡ old.shared

-- The lane has the group too, and holds the base, where there is one. Nothing else has changed.
pub record TakesWriter (old new : Locks) (lane : ℕ) (group : GroupKey) (base : Option SnapshotKey) : Type 0 where
  pub groups : (g : GroupKey) → group_holder new g ≡ (if same_group group g then Some lane else group_holder old g)
  pub shared : new.shared ≡ old.shared ++ claims_of lane base

-- what an answer without a refusal means
abbrev pub OkTakesGroup : Locks → Locks → ℕ → GroupKey → Result (Unit {0}) LaneHolds → Type 0
OkTakesGroup old new lane group taken = OnOk taken (TakesGroup old new lane group)

abbrev pub OkTakesWriter : Locks → Locks → ℕ → GroupKey → Option (Bor SnapshotKey) → Result (Unit {0}) LaneHolds → Type 0
OkTakesWriter old new lane group base taken = OnOk taken (TakesWriter old new lane group (option_copied base))

-- The lane holds the snapshot too, and nothing else has changed.
pub record TakesShare (old new : Locks) (lane : ℕ) (key : SnapshotKey) : Type 0 where
  pub groups : new.groups ≡ old.groups
  pub shared : (k : SnapshotKey) → sharers new k ≡ sharers old k ++ (if same_key key k then lane ∷ [] else [])

-- The lane holds nothing, and each other lane what it held.
pub record Releases (old new : Locks) (lane : ℕ) : Type 0 where
  pub groups : (g : GroupKey) → group_holder new g ≡ other_than lane (group_holder old g)
  pub shared : (k : SnapshotKey) → sharers new k ≡ filter (λ l. not (l == lane)) (sharers old k)
