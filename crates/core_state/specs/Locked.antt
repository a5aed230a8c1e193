-- Who holds what is as the sessions say.
use Rattle.std.specs.Prelude.{◌≡◌, ◌↔◌, ℕ, IsTrue}
use Rattle.std.specs.List.{Contains}
use Rattle.store_types.specs.declared.names.GroupKey.{GroupKey}
use Rattle.store_types.specs.declared.names.SnapshotKey.{SnapshotKey}
use Rattle.lock_book.specs.Locks as book
use Rattle.lock_book.specs.Locks.{Locks, sharers}
use Rattle.store_model.specs.Store.{Store, group_holder, holds_snapshot, session}

-- A group is held by the lane whose writer has it; a snapshot by each lane whose writer has it as base or whose reader has it.
pub record Locked (locks : Locks) (s : Store) : Type 0 where
  pub groups : (group : GroupKey) → book.group_holder locks group ≡ group_holder s group
  pub shared : (key : SnapshotKey) (lane : ℕ) → Contains (sharers locks key) lane ↔ IsTrue (holds_snapshot key (session s lane))
