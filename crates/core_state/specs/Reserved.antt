-- What an act leaves of a lane's reserve.
use Rattle.std.specs.Prelude.{◌≡◌, ◌≤◌, ◌<◌, ◌+◌, ◌↔◌, ◌⊎◌, ℕ, Bool, true, false}
use Rattle.store_types.specs.declared.order.TheConstants.{MEMORY_KIND, FAULT_KIND, END_KIND}
use Rattle.store_history.specs.declared.act.Act.{Act}
use Rattle.store_history.specs.declared.act.Answer.{Answer}
use Rattle.store_history.specs.Acts.{Class, sweeping, ending, class_of}
use Rattle.core_state.specs.declared.journal.Journal.{Journal}
use Rattle.core_state.specs.declared.state.Core.{Core}
use Rattle.core_state.specs.Entering.{held_by, OthersHold}
use Rattle.core_state.specs.Closing.{is_closing, ends_by}
use Rattle.core_state.specs.Collectors.{is_cut}
use Rattle.core_state.specs.Wanted.{session_at}
use Rattle.core_state.specs.declared.kept.Session.TheVariants.{Idle}

-- an entry for an act of the lane is to be had without memory
abbrev pub HasRoom : {D E C : Type 0} → Core D E C → ℕ → Type 0
HasRoom core lane = (0 < (core.journal).spare) ⊎ (0 < held_by core.journal lane)

-- the lane's end has its entries
abbrev pub CanEnd : {D E C : Type 0} → Core D E C → ℕ → Type 0
CanEnd core lane = ends_by core lane ≤ held_by core.journal lane

-- and a want of memory before it has one
abbrev pub Reserved : {D E C : Type 0} → Core D E C → ℕ → Type 0
Reserved core lane = ends_by core lane < held_by core.journal lane

-- Where the lane's reserve is whole and an entry is spare, the reserve stays whole and one spare entry is used at most: what was reserved
-- for so many acts is there for them.
abbrev pub KeepsSpare : Journal → Journal → ℕ → Type 0
KeepsSpare old new lane = 3 ≤ held_by old lane → 0 < old.spare → (3 ≤ held_by new lane) × (old.spare ≤ new.spare + 1)

-- An act that is no lane's end uses one entry of the lane's reserve at most, and none of another lane's. It leaves what the lane
-- must have in reserve, and where its answer is the last, what the lane's end must have. Its answer is the last exactly where it is
-- want of memory by an entry of the lane's reserve, which then has one less. Unless it ends a session it fills the reserve up, or is
-- want of memory. One that ends a session leaves what the lane's end must have also where there was no more than that.
pub record KeepsReserve {D E C : Type 0} (old new : Core D E C) (lane : ℕ) (closing : Bool) (answer : Answer) : Type 0 where
  pub one : held_by old.journal lane ≤ held_by new.journal lane + 1
  pub kept : answer.last ≡ false → Reserved old lane → Reserved new lane
  pub left : Reserved old lane → CanEnd new lane
  pub spent : (answer.last ≡ true) ↔ (((answer.entry).kind ≡ MEMORY_KIND) × (held_by new.journal lane + 1 ≡ held_by old.journal lane))
  pub filled : closing ≡ false → ((answer.entry).kind ≡ MEMORY_KIND → ⊥) → 3 ≤ held_by new.journal lane
  pub closed : closing ≡ true → CanEnd old lane → CanEnd new lane
  pub spare : KeepsSpare old.journal new.journal lane
  pub others : OthersHold old.journal new.journal lane

-- A lane's end uses one entry of its reserve at most, and none of another lane's. One that met a fault leaves what it must have
-- when it comes again. Without a session it meets none.
pub record EndKeeps {D E C : Type 0} (old new : Core D E C) (lane : ℕ) (answer : Answer) : Type 0 where
  pub one : held_by old.journal lane ≤ held_by new.journal lane + 1
  pub left : CanEnd old lane → (answer.entry).kind ≡ FAULT_KIND → CanEnd new lane
  pub idle : session_at old.parts lane ≡ Idle → (answer.entry).kind ≡ END_KIND
  pub spare : KeepsSpare old.journal new.journal lane
  pub others : OthersHold old.journal new.journal lane

-- An act of a collector after its start uses one entry of the lane's reserve at most, and none of another lane's. Unless it is the end of a
-- collector that was ended early, it fills the reserve up, or is want of memory; such an end is none.
pub record StepKeeps {D E C : Type 0} (old new : Core D E C) (lane : ℕ) (answer : Answer) : Type 0 where
  pub one : held_by old.journal lane ≤ held_by new.journal lane + 1
  pub spent : (answer.last ≡ true) ↔ (((answer.entry).kind ≡ MEMORY_KIND) × (held_by new.journal lane + 1 ≡ held_by old.journal lane))
  pub filled : is_cut lane old.collector ≡ false → ((answer.entry).kind ≡ MEMORY_KIND → ⊥) → 3 ≤ held_by new.journal lane
  pub ends : is_cut lane old.collector ≡ true → (answer.entry).kind ≡ MEMORY_KIND → ⊥
  pub spare : KeepsSpare old.journal new.journal lane
  pub others : OthersHold old.journal new.journal lane

abbrev pub ClassKeeps : {D E C : Type 0} → Class → Core D E C → Core D E C → ℕ → Bool → Answer → Type 0
ClassKeeps ending old new lane closing answer = EndKeeps old new lane answer
ClassKeeps sweeping old new lane closing answer = StepKeeps old new lane answer
ClassKeeps _ old new lane closing answer = KeepsReserve old new lane closing answer

abbrev pub Keeps : {D E C : Type 0} → Act → Core D E C → Core D E C → ℕ → Answer → Type 0
Keeps act old new lane answer = ClassKeeps (class_of act) old new lane (is_closing old lane act) answer
