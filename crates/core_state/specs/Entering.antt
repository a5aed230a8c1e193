-- What is made of the entries in reserve.
use Rattle.std.specs.Prelude.{◌≡◌, ◌≤◌, ◌<◌, ◌+◌, ◌⊎◌, ℕ, Bool, true, false, slice_index}
use Rattle.core_state.specs.declared.journal.Journal.{Journal}

-- how many entries a lane holds
abbrev pub held_by : Journal → ℕ → ℕ
held_by j lane = slice_index j.held lane

-- every lane's reserve is whole
abbrev pub AllHeld : Journal → Type 0
AllHeld j = (lane : ℕ) → lane < 64 → held_by j lane ≡ 3

pub record SameEntries (old new : Journal) : Type 0 where
  pub entries : new.entries.items ≡ old.entries.items
  pub calls : new.calls.items ≡ old.calls.items

-- the other lanes' reserves are as before
abbrev pub OthersHold : Journal → Journal → ℕ → Type 0
OthersHold old new lane = (other : ℕ) → (other ≡ lane → ⊥) → held_by new other ≡ held_by old other

-- no entry is lost to the lane
abbrev pub NoneLost : Journal → Journal → ℕ → Type 0
NoneLost old new lane = old.spare + held_by old lane ≤ new.spare + held_by new lane

-- The lane holds what it held, or there is a spare entry besides: no entry is first put into the reserve and then taken from it.
abbrev pub FillsFirst : Journal → Journal → ℕ → Type 0
FillsFirst old new lane = (held_by new lane ≡ held_by old lane) ⊎ (0 < new.spare)

-- a reserve that is whole stays as it is
abbrev pub StaysWhole : Journal → Journal → ℕ → Type 0
StaysWhole old new lane = 3 ≤ held_by old lane → held_by new lane ≡ held_by old lane

-- the lane's reserve is whole, and there is a spare entry
pub record Fills (old new : Journal) (lane : ℕ) : Type 0 where
  pub whole : 3 ≤ held_by new lane
  pub spare : 0 < new.spare
  pub more : held_by old lane ≤ held_by new lane
  pub others : OthersHold old new lane

-- one entry was used: of the lane's reserve, or a spare one
abbrev pub Uses : Journal → Journal → ℕ → Bool → Type 0
Uses old new lane true = (old.spare ≡ 0) × (held_by new lane + 1 ≡ held_by old lane)
Uses old new lane false = (new.spare + 1 ≡ old.spare) × (held_by new lane ≡ held_by old lane)

pub record Enters (old new : Journal) (lane : ℕ) (is_held : Bool) : Type 0 where
  pub uses : Uses old new lane is_held
  pub others : OthersHold old new lane
