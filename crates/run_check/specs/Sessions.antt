-- The ports, read one after another.
use Rattle.std.specs.Prelude.{◌≡◌, ◌≢◌, ℕ, ◌/◌, List, length, Option, None, Some, Result, Ok, Err, Vec}
use Rattle.std.specs.declared.alloc.Global.{Global}
use Rattle.port_traits.specs.declared.source.Source as sources
use Rattle.store_types.specs.declared.order.Entry.{Entry}
use Rattle.store_history.specs.declared.port.Port.{Port}
use Rattle.replay.specs.declared.difference.Unequal.{Unequal}
use Rattle.replay.specs.declared.comparison.Comparison.{Comparison}
use Rattle.replay.specs.Comparison.{outcome}
use Rattle.replay.specs.Orders.{faultless_order, IsFaultless}
use Rattle.run_check.specs.declared.fault.CheckFault.{CheckFault}
use Rattle.run_check.specs.declared.fault.CheckFault.TheVariants as faults
use Rattle.run_check.specs.Ports.{IsRead, ReadsEach, NthTooLong, SomeRose, left_at}

-- of the order's port, and two of each session
abbrev pub sessions_of : {P : Type 0} → List P → ℕ
sessions_of ports = length ports / 2

module _ {S K : Type 0} (source : sources.Ghosts S) where
  -- why one of each second port from this one on was not read
  abbrev pub IsWhy : ℕ → List (Port S K) → List (Port S K) → CheckFault → Type 0
  IsWhy first old new faults.SourceFault = SomeRose source old new
  IsWhy first old new faults.SourceTooLong = NthTooLong source first old new
  IsWhy first old new faults.NoMemory = Unit {0}
  IsWhy first old new other = ⊥

  -- an order that may be replayed, by the first port
  pub record ReadsOrder (old new : List (Port S K)) (order : List Entry) : Type 0 where
    pub text : List ℕ
    pub read : IsRead (left_at source old 0) (left_at source new 0) text
    pub others : (i : ℕ) → i ≢ 0 → left_at source new i ≡ left_at source old i
    pub is : faultless_order (sessions_of old) text ≡ Some order
    pub faultless : IsFaultless (sessions_of old) order

  -- the first port was read to its end, and has none
  pub record HasNoOrder (old new : List (Port S K)) : Type 0 where
    pub text : List ℕ
    pub read : IsRead (left_at source old 0) (left_at source new 0) text
    pub none : faultless_order (sessions_of old) text ≡ None

  abbrev pub TellsOrder : List (Port S K) → List (Port S K) → Result (Vec Entry Global) CheckFault → Type 0
  TellsOrder old new (Ok order) = ReadsOrder old new order.items
  TellsOrder old new (Err faults.BadOrder) = HasNoOrder old new
  TellsOrder old new (Err fault) = IsWhy 0 old new fault

  -- an input of each session
  pub record ReadsInputs (old new : List (Port S K)) (inputs : List (List ℕ)) : Type 0 where
    pub many : length inputs ≡ sessions_of old
    pub read : ReadsEach source 1 old new inputs

  abbrev pub TellsInputs : List (Port S K) → List (Port S K) → Result (Vec (List ℕ) Global) CheckFault → Type 0
  TellsInputs old new (Ok inputs) = ReadsInputs old new inputs.items
  TellsInputs old new (Err fault) = IsWhy 1 old new fault

  -- the kept replies of each session, and what their comparison comes to
  pub record ComparesOuts (c : Comparison) (old new : List (Port S K)) (unequal : Option Unequal) : Type 0 where
    pub kept : List (List ℕ)
    pub many : length kept ≡ sessions_of old
    pub read : ReadsEach source 2 old new kept
    pub is : unequal ≡ outcome c kept

  abbrev pub TellsOuts : Comparison → List (Port S K) → List (Port S K) → Result (Option Unequal) CheckFault → Type 0
  TellsOuts c old new (Ok unequal) = ComparesOuts c old new unequal
  TellsOuts c old new (Err fault) = IsWhy 2 old new fault
