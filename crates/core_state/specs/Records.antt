-- What the core keeps of a history, on any disk.
use Rattle.disk_trait.specs.declared.disk.Disk.{Ghosts}
use Rattle.std.specs.Prelude.{◌≡◌, ◌≤◌, ◌+◌, ◌⊎◌, ℕ, List, ◌∷◌, ◌++◌, length, map, Option, None}
use Rattle.port_traits.specs.Readings.{Readings}
use Rattle.atime_book.specs.Touches.{NoneAfter}
use Rattle.store_files.specs.Archive.{Snapshot}
use Rattle.store_history.specs.declared.act.Answer.{Answer}
use Rattle.store_history.specs.declared.act.Event.{Event}
use Rattle.store_history.specs.History.{entries, moment}
use Rattle.store_history.specs.Legal.{moment_after}
use Rattle.core_state.specs.declared.state.Core.{Core}
use Rattle.store_history.specs.Answered.{AreKept, fault_in}
use Rattle.core_state.specs.Begins.{ReadsClock}
use Rattle.store_history.specs.Foreign.{KeepsForeign}
use Rattle.core_state.specs.History.{History, KeepsTime, IsClear, StandsFor}
use Rattle.core_state.specs.KeepsTouches.{KeepsTouches}
use Rattle.core_state.specs.Numbers.{AreNumbered}
use Rattle.core_state.specs.Recovers.{Recovers, TellsMoments}
use Rattle.core_state.specs.Remotes.{RemoteServes}
use Rattle.store_history.specs.RemoteDisk.{ReadNoRemote, ShowsRead}

-- the clock was read once for the act's moment, which is the last one then
pub record IsTimely {D E C : Type 0} (readings : C → Option Readings) (old new : Core D E C) (answer : Answer) : Type 0 where
  pub clock : ReadsClock readings old.clock new.clock old.last (answer.entry).moment
  pub last : new.last ≡ (answer.entry).moment

-- The core's order, counts, first fault and last moment are the history's, moments are by the clock's readings, and each act has one
-- of the answers that it may have. Of the store's content nothing is said.
pub record Records {D E C : Type 0} (readings : C → Option Readings) (core : Core D E C) (h : History) : Type 0 where
  pub kept : AreKept 0 None (h.opening).moment h.events
  pub entries : (core.journal).entries.items ≡ entries h.events
  pub calls : (core.journal).calls.items ≡ map (λ e. e.calls) h.events
  pub fault : core.fault ≡ fault_in 0 None h.events
  pub last : core.last ≡ moment_after (h.opening).moment h.events
  pub time : KeepsTime readings core.clock h
  -- no chunk was touched after the last moment
  pub early : NoneAfter (core.upkeep).book core.last
  -- no two snapshots of the catalogue have one number
  pub numbers : AreNumbered (length (core.journal).entries.items) (core.parts).catalogue.listed

-- opened with these snapshots, beside those of the remote
abbrev pub opened_with : List Snapshot → Option (List Snapshot) → History → History
opened_with snapshots remote h = record h { opening = record (h.opening) { snapshots = snapshots }; remote = remote }

-- A first core stands for its history, and its book is that of the history.
pub record Starts {D E C : Type 0} (d : Ghosts D) (readings : C → Option Readings) (first : Core D E C) (h : History) : Type 0 where
  pub stands : StandsFor d readings first h
  pub touches : KeepsTouches d first h

-- From a first core and its history the core came by more acts to this history: it records it. Opened with whatever snapshots, it stands for it
-- where the first core stood for its own, beside a remote that stands for what the history's has, or that none of these acts read; and no two
-- pieces of the history have one digest; and what stood at names that are none of the store's stands there still, where the disk has not failed.
-- Its remote was read alone, and where no act read it, it is as it was.
pub record Reaches {D E C : Type 0} (d : Ghosts D) (e : Ghosts E) (readings : C → Option Readings) (first : Core D E C) (began : History) (core : Core D E C) (h : History) : Type 0 where
  pub records : Records readings core h
  -- these acts
  pub since : List Event
  pub behind : h.events ≡ began.events ++ since
  pub stands : (L : List Snapshot) (R : Option (List Snapshot)) → Starts d readings first (opened_with L R began) → ShowsRead e first.remote R since → IsClear h
      → StandsFor d readings core (opened_with L R h)
  pub foreign : (L : List Snapshot) (R : Option (List Snapshot)) → Starts d readings first (opened_with L R began) → ShowsRead e first.remote R since → IsClear h
      → core.fault ≡ None → KeepsForeign d (first.parts).disk (core.parts).disk
  -- what a crash leaves since a moment of the opening stands for what the history gives by then
  pub recovers : TellsMoments d → (start : ℕ) (L : List Snapshot) (R : Option (List Snapshot)) → Starts d readings first (opened_with L R began)
      → ShowsRead e first.remote R since → Recovers d start first (opened_with L R began) → IsClear h → Recovers d start core (opened_with L R h)
  -- the core's book is that of the history
  pub touches : (L : List Snapshot) (R : Option (List Snapshot)) → Starts d readings first (opened_with L R began) → ShowsRead e first.remote R since → IsClear h
      → KeepsTouches d core (opened_with L R h)
  pub remote : RemoteServes e first core
  pub alone : ReadNoRemote since → core.remote ≡ first.remote
