-- What a check tells.
use Rattle.std.specs.Prelude.{◌≡◌, ◌⊎◌, ℕ, ◌+◌, ◌*◌, ◌<◌, true, false, List, [], length, Option, Some, None, option_map, slice_index_or, string_bytes, Result, Ok, Err, IfOk}
use Rattle.disk_trait.specs.declared.disk.Disk.{Ghosts}
use Rattle.disk_trait.specs.Effects.{OnlyReads}
use Rattle.port_traits.specs.declared.source.Source as sources
use Rattle.store_types.specs.declared.order.Entry.{Entry}
use Rattle.store_files.specs.Archive.{Snapshot}
use Rattle.store_model.specs.Load.{load}
use Rattle.store_model.specs.Store.{Store}
use Rattle.store_model.specs.Weave.{told_by_input, woven}
use Rattle.plain_snapshots.specs.Loading.{has_damaged}
use Rattle.plain_store.specs.Frees.{frees}
use Rattle.store_history.specs.declared.port.Port.{Port}
use Rattle.replay.specs.Compare.{compare, line}
use Rattle.replay.specs.Orders.{faultless_order}
use Rattle.run_check.specs.declared.checking.Compared.{Compared}
use Rattle.run_check.specs.declared.fault.CheckFault.{CheckFault}
use Rattle.run_check.specs.declared.fault.CheckFault.TheVariants as faults
use Rattle.run_check.specs.Ports.{IsRead, SomeRose, SomeTooLong, left_at}
use Rattle.run_check.specs.Sessions.{HasNoOrder, sessions_of}

-- ---- the disks

-- the remote is there where it was
abbrev pub RemoteIsOnlyRead : {E : Type 0} → Ghosts E → Option E → Option E → Type 0 → Type 0
RemoteIsOnlyRead e None None failed = failed → ⊥
RemoteIsOnlyRead e (Some old) (Some new) failed = OnlyReads e old new failed
RemoteIsOnlyRead e _ _ failed = ⊥

-- it is honest, or there is none
abbrev pub IsHonest : {E : Type 0} → Ghosts E → Option E → Type 0
IsHonest e None = Unit {0}
IsHonest e (Some remote) = e.honest remote

abbrev pub loaded : {E : Type 0} → Ghosts E → Option E → Option (List Snapshot)
loaded e remote = option_map (λ r. load (e.content r)) remote

-- where memory is not wanting
abbrev pub TellsLoad : {A : Type 0} → CheckFault → Result A CheckFault → Type 0
TellsLoad failed (Ok told) = Unit {0}
TellsLoad failed (Err fault) = (fault ≡ failed) ⊎ (fault ≡ faults.NoMemory)

abbrev pub LoadsRemote : {E F : Type 0} → Ghosts E → Option E → Result (Option Store) F → Type 0
LoadsRemote e remote result = IsHonest e remote → IfOk result (λ store. option_map (λ s. s.snapshots) store ≡ loaded e remote)

-- ---- what was told

module _ {D E S K : Type 0} (d : Ghosts D) (e : Ghosts E) (source : sources.Ghosts S) where
  -- All ports were read to their ends: they held an order, an input of each session, and what was kept of its replies. On honest disks the
  -- order is not bad, and this is the first byte at which those replies differ from the replay's.
  pub record HasCompared (disk : D) (remote : Option E) (old new : List (Port S K)) (compared : Compared) : Type 0 where
    pub text : List ℕ
    pub order : List Entry
    pub inputs : List (List ℕ)
    pub kept : List (List ℕ)
    pub order_read : IsRead (left_at source old 0) (left_at source new 0) text
    pub sessions : length inputs ≡ sessions_of old
    pub outs : length kept ≡ sessions_of old
    pub inputs_read : (k : ℕ) → k < sessions_of old → IsRead (left_at source old (1 + 2 * k)) (left_at source new (1 + 2 * k)) (slice_index_or inputs k [])
    pub outs_read : (k : ℕ) → k < sessions_of old → IsRead (left_at source old (2 + 2 * k)) (left_at source new (2 + 2 * k)) (slice_index_or kept k [])
    pub order_is : faultless_order (sessions_of old) text ≡ Some order
    pub sound : d.honest disk → has_damaged (d.content disk) ≡ false
    pub is : d.honest disk → IsHonest e remote → compared.unequal ≡ compare (woven told_by_input (load (d.content disk)) (loaded e remote) order inputs)
        (frees told_by_input (load (d.content disk)) (loaded e remote) order inputs) kept
    -- and the line that tells it
    pub line_is : string_bytes compared.line ≡ line compared.unequal

  -- what it comes to, and why
  abbrev pub Checks : D → Option E → List (Port S K) → List (Port S K) → Result Compared CheckFault → Type 0
  Checks disk remote old new (Ok compared) = HasCompared disk remote old new compared
  Checks disk remote old new (Err faults.BadOrder) = (d.honest disk → has_damaged (d.content disk) ≡ true) ⊎ HasNoOrder source old new
  Checks disk remote old new (Err faults.SourceFault) = SomeRose source old new
  Checks disk remote old new (Err faults.SourceTooLong) = SomeTooLong source old new
  Checks disk remote old new (Err other) = Unit {0}
