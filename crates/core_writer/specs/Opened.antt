-- OPEN_WRITER, by what the core keeps.
use Rattle.std.specs.Prelude.{◌≡◌, ℕ, List, [], map, length, nat_lt, Option, Result, Ok, Err, MatchResult}
use Rattle.std.specs.Borrow.{Bor}
use Rattle.store_types.specs.declared.names.SnapshotKey.{SnapshotKey}
use Rattle.store_types.specs.declared.names.GroupKey.{GroupKey}
use Rattle.store_types.specs.declared.refusal.Refusal.{Refusal}
use Rattle.store_types.specs.declared.refusal.Refusal.TheVariants.{GroupBusy, TooMany}
use Rattle.store_types.specs.Chain.Refusing.{◌>>=◌, unless, if_none}
use Rattle.store_types.specs.Names.{group_of_key}
use Rattle.lock_book.specs.Locks.{Locks, TakesWriter, group_holder, other_than}
use Rattle.store_model.specs.WriterSteps.{want_newer}
use Rattle.backup_session.specs.Session.{settled}
use Rattle.backup_session.specs.Steps as rows
use Rattle.core_state.specs.declared.kept.Kept.{Kept}
use Rattle.core_state.specs.declared.kept.Listed.{Listed}
use Rattle.core_state.specs.declared.kept.Writing.{Writing}
use Rattle.core_state.specs.Found.{kept_in, latest_kept, latest_whole, lent_key}
use Rattle.core_state.specs.Heads.{idle_key}
use Rattle.core_state.specs.Kept.{KeptAt}
use Rattle.core_writer.specs.declared.opening.Beginning.{Beginning}

-- The base of a writer of the group's snapshot of this time, unless it is refused; where another lane has the group, it is refused with that lane. A
-- damaged snapshot is no base, but it counts in both tests.
unfoldable pub base_in : List Kept → Option ℕ → GroupKey → ℕ → Result (Option SnapshotKey) Refusal
base_in kept holder group time = do
  _ ← if_none GroupBusy holder
  _ ← want_newer time (latest_kept group kept)
  _ ← unless (TooMany 4096) (nat_lt (length (kept_in group kept)) 4096)
  Ok (latest_whole group kept)

-- of a writer of the snapshot
abbrev pub base_kept : List Kept → Option ℕ → SnapshotKey → Result (Option SnapshotKey) Refusal
base_kept kept holder key = base_in kept holder (group_of_key key) key.time

-- ---- by the locks and the catalogue

-- the other lane whose writer has the group
abbrev pub other_holder : Locks → ℕ → GroupKey → Option ℕ
other_holder locks lane group = other_than lane (group_holder locks group)

-- the group has room for one more
abbrev pub wants_room : GroupKey → List Listed → Result (Unit {0}) Refusal
wants_room group catalogue = unless (TooMany 4096) (nat_lt (length (kept_in group (map (λ x. x.kept) catalogue))) 4096)

-- the base of a writer of the group's snapshot of this time on the lane that takes the group, or its refusal
abbrev pub base_on : Locks → List Listed → ℕ → GroupKey → ℕ → Result (Option SnapshotKey) Refusal
base_on locks catalogue lane group time = base_in (map (λ x. x.kept) catalogue) (other_holder locks lane group) group time

-- with the snapshot's own group
abbrev pub base_for : Locks → List Listed → ℕ → SnapshotKey → Result (Option SnapshotKey) Refusal
base_for locks catalogue lane key = base_on locks catalogue lane (group_of_key key) key.time

-- it is lent, or its refusal is told
abbrev pub LendsBase : Result (Option SnapshotKey) Refusal → Result (Option (Bor SnapshotKey)) Refusal → Type 0
LendsBase step result = MatchResult result (λ base. step ≡ Ok (lent_key base)) (λ refusal. step ≡ Err refusal)

-- ---- the tests in a row

-- the snapshot that the text names, and its writer's base, or the refusal
unfoldable pub to_write : List ℕ → KeptAt → Result (SnapshotKey × Option SnapshotKey) Refusal
to_write text k = do
  key ← idle_key text k
  base ← base_for k.locks k.catalogue k.lane key
  Ok (key, base)

abbrev pub begins_with : Beginning → SnapshotKey × Option SnapshotKey
begins_with b = (b.key, b.base)

-- the lane takes the group, and the base
abbrev pub TakesBase : Locks → Locks → ℕ → Beginning → Type 0
TakesBase old new lane b = TakesWriter old new lane b.group b.base

-- ---- the writer

abbrev pub new_writing : SnapshotKey → ℕ → Option SnapshotKey → Writing
new_writing key moment base = record { session = settled (rows.opened key moment base); files = [] }
