-- When the core stands for a history.
use Rattle.disk_trait.specs.declared.disk.Disk.{Ghosts}
use Rattle.std.specs.Prelude.{◌≡◌, ◌≤◌, ℕ, List, [], ◌∷◌, ◌++◌, map, Option, Some, None, IfSome, is_some}
use Rattle.port_traits.specs.Readings.{Readings}
use Rattle.store_files.specs.Archive.{Snapshot}
use Rattle.store_history.specs.declared.act.Act.{Act}
use Rattle.store_history.specs.declared.act.Answer.{Answer}
use Rattle.store_history.specs.declared.act.Event.{Event}
use Rattle.store_model.specs.Clash.{NoClash}
use Rattle.store_history.specs.History.{Opening, World, opened, after_all, entries, sent}
use Rattle.store_history.specs.Legal.{IsLegal, IsTimed, readings_left}
use Rattle.core_state.specs.declared.state.Core.{Core}
use Rattle.core_state.specs.Collectors.{open_in, shown_collecting}
use Rattle.core_state.specs.Holds.{Shows, IsOnDisk}
use Rattle.store_history.specs.ChunkFiles.{HoldsOnly}

-- an opening, the remote's snapshots where there is a remote, the clock's readings where they are told, and the events
pub record History : Type 0 where
  pub opening : Opening
  pub remote : Option (List Snapshot)
  pub clock : Option Readings
  pub events : List Event

-- with no event yet
abbrev pub began : Opening → Option (List Snapshot) → Option Readings → History
began o remote clock = record { opening = o; remote = remote; clock = clock; events = [] }

-- where the history leads
abbrev pub world : History → World
world h = after_all h.remote (opened h.opening) h.events

-- with one more event
abbrev pub then_event : History → Event → History
then_event h e = record h { events = h.events ++ e ∷ [] }

-- the pieces of the chunk files at opening, and those of each CHUNK since
abbrev pub pieces_of : History → List (List ℕ)
pieces_of h = (h.opening).chunks ++ sent h.events

-- no two unequal ones have one digest
abbrev pub IsClear : History → Type 0
IsClear h = NoClash (pieces_of h)

-- the event of an act, as it was answered at this count of the disk's calls
abbrev pub event_of : Act → Answer → ℕ → Event
event_of act answer calls = record { act = act; answer = answer; calls = calls }

-- moments are by the clock's readings, of which those that are left are still to come
abbrev pub KeepsTime : {C : Type 0} → (C → Option Readings) → C → History → Type 0
KeepsTime readings clock h =
    IfSome h.clock (λ c. IsTimed c (h.opening).moment h.events × (readings clock ≡ Some (readings_left c h.events)))

-- The core stands for the history. Order and calls are the history's; catalogue, sessions and locks are
-- those of the plain store that it gives; the open collector is the history's; on the disk are this store's files, until the disk failed, and no chunk file but of a piece
-- that was there at opening or was sent.
pub record StandsFor {D E C : Type 0} (d : Ghosts D) (readings : C → Option Readings) (core : Core D E C) (h : History) : Type 0 where
  pub legal : IsLegal h.remote (opened h.opening) h.events
  pub entries : (core.journal).entries.items ≡ entries h.events
  pub calls : (core.journal).calls.items ≡ map (λ e. e.calls) h.events
  pub fault : core.fault ≡ (world h).fault
  pub last : core.last ≡ (world h).moment
  pub time : KeepsTime readings core.clock h
  pub reached : (world h).calls ≤ d.calls (core.parts).disk
  pub honest : d.honest (core.parts).disk
  -- there is a remote where the history has its list
  pub remote : is_some core.remote ≡ is_some h.remote
  pub shows : Shows core.parts (world h).store
  pub collecting : open_in core.collector ≡ shown_collecting (world h).collecting
  pub files : (world h).fault ≡ None → IsOnDisk (d.content (core.parts).disk) (world h).store
  pub chunks : (world h).fault ≡ None → HoldsOnly (d.content (core.parts).disk) (pieces_of h)
