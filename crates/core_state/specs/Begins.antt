-- What comes before an act.
use Rattle.disk_trait.specs.declared.disk.Disk.{Ghosts}
use Rattle.std.specs.Prelude.{◌≡◌, ◌≤◌, ◌<◌, ℕ, false, length, Option, Some, None, IfSome}
use Rattle.port_traits.specs.Readings.{Readings}
use Rattle.store_types.specs.Times.{last_moment}
use Rattle.store_types.specs.declared.refusal.Refusal.TheVariants.{NoMemory, Halted}
use Rattle.store_types.specs.declared.order.TheConstants.{MEMORY_KIND}
use Rattle.wire_commands.specs.declared.reply.Reply.TheVariants.{Refused}
use Rattle.wire_commands.specs.HasText.{ReplyHasText}
use Rattle.store_history.specs.declared.act.Act.{Act}
use Rattle.store_history.specs.declared.act.Answer.{Answer}
use Rattle.store_history.specs.Legal.{moment_at, later}
use Rattle.core_state.specs.declared.journal.Journal.{Journal}
use Rattle.core_state.specs.declared.state.Core.{Core}
use Rattle.core_state.specs.declared.entering.Place.{Place}
use Rattle.core_state.specs.declared.entering.Admitted.{Admitted}
use Rattle.core_state.specs.declared.entering.Admitted.TheVariants.{At, Answered}
use Rattle.core_state.specs.Closing.{is_closing}
use Rattle.core_state.specs.Entering.{SameEntries, OthersHold, NoneLost, FillsFirst, StaysWhole, held_by}
use Rattle.core_state.specs.Reserved.{HasRoom}
use Rattle.core_state.specs.Settles.{IsEntered}

-- The clock was read once: by its reading, where that is told, the moment is the rule's.
pub record ReadsClock {C : Type 0} (readings : C → Option Readings) (old new : C) (last moment : ℕ) : Type 0 where
  pub rule : (c : Readings) → readings old ≡ Some c → (moment ≡ moment_at c last) × (readings new ≡ Some (later c))
  pub risen : last ≤ moment
  pub in_time : moment ≤ last_moment

-- The clock was read for the place of the lane's next act, and nothing else has happened.
pub record IsNext {D E C : Type 0} (readings : C → Option Readings) (old new : Core D E C) (lane : ℕ) (at : Place) : Type 0 where
  pub lane_is : at.lane ≡ lane
  pub number_is : at.number ≡ length (new.journal).entries.items
  pub clock : ReadsClock readings old.clock new.clock old.last at.moment
  pub parts : new.parts ≡ old.parts
  pub remote : new.remote ≡ old.remote
  pub fault : new.fault ≡ old.fault
  pub last : new.last ≡ old.last
  pub upkeep : new.upkeep ≡ old.upkeep
  pub collector : new.collector ≡ old.collector
  pub journal : new.journal ≡ old.journal

-- the clock was read, and the lane's reserve may have been filled up
pub record IsBegun {D E C : Type 0} (readings : C → Option Readings) (old new : Core D E C) (lane moment : ℕ) : Type 0 where
  pub clock : ReadsClock readings old.clock new.clock old.last moment
  pub parts : new.parts ≡ old.parts
  pub remote : new.remote ≡ old.remote
  pub fault : new.fault ≡ old.fault
  pub last : new.last ≡ old.last
  pub upkeep : new.upkeep ≡ old.upkeep
  pub collector : new.collector ≡ old.collector
  pub entries : SameEntries old.journal new.journal
  pub more : held_by old.journal lane ≤ held_by new.journal lane
  pub none_lost : NoneLost old.journal new.journal lane
  pub filled : FillsFirst old.journal new.journal lane
  pub whole : StaysWhole old.journal new.journal lane
  pub others : OthersHold old.journal new.journal lane

-- want of memory
pub record IsShort {D E C : Type 0} (d : Ghosts D) (readings : C → Option Readings) (old new : Core D E C) (lane : ℕ) (answer : Answer) : Type 0 where
  pub moment : ℕ
  pub between : Core D E C
  pub begun : IsBegun readings old between lane moment
  pub entered : IsEntered d between new lane moment 2 (Some (Refused NoMemory)) answer

-- the disk failed before
pub record IsHalted {D E C : Type 0} (d : Ghosts D) (readings : C → Option Readings) (old new : Core D E C) (lane : ℕ) (answer : Answer) : Type 0 where
  pub moment : ℕ
  pub first : ℕ
  pub between : Core D E C
  pub begun : IsBegun readings old between lane moment
  pub fault : old.fault ≡ Some first
  pub whole : 3 ≤ held_by between.journal lane
  pub spare : 0 < (between.journal).spare
  pub entered : IsEntered d between new lane moment 5 (Some (Refused (Halted first))) answer

pub data Refuses {D E C : Type 0} (d : Ghosts D) (readings : C → Option Readings) (old new : Core D E C) (lane : ℕ) (answer : Answer) : Type 0 where
  short : IsShort d readings old new lane answer → Refuses d readings old new lane answer
  halted : IsHalted d readings old new lane answer → Refuses d readings old new lane answer

-- the act may be done: an entry is to be had
pub record IsReady {D E C : Type 0} (readings : C → Option Readings) (old new : Core D E C) (lane moment : ℕ) : Type 0 where
  pub begun : IsBegun readings old new lane moment
  pub room : HasRoom new lane
  pub no_fault : old.fault ≡ None

-- and this is its place
pub record IsAdmitted {D E C : Type 0} (readings : C → Option Readings) (old new : Core D E C) (lane : ℕ) (at : Place) : Type 0 where
  pub lane_is : at.lane ≡ lane
  pub number_is : at.number ≡ length (new.journal).entries.items
  pub ready : IsReady readings old new lane at.moment

abbrev pub Begins : {D E C : Type 0} → Ghosts D → (C → Option Readings) → Core D E C → Core D E C → ℕ → Admitted → Type 0
Begins d readings old new lane (At at) = IsAdmitted readings old new lane at
Begins d readings old new lane (Answered answer) = Refuses d readings old new lane answer

-- where the act may be done, the lane's reserve is whole and there is a spare entry
abbrev pub IsFilled : Journal → ℕ → Admitted → Type 0
IsFilled j lane (At at) = (3 ≤ held_by j lane) × (0 < j.spare)
IsFilled j lane (Answered answer) = ((answer.entry).kind ≡ MEMORY_KIND → ⊥) → 3 ≤ held_by j lane

-- so it is for an act that ends no session
abbrev pub FillsUp : {D E C : Type 0} → Core D E C → Core D E C → ℕ → Act → Admitted → Type 0
FillsUp old new lane act admitted = is_closing old lane act ≡ false → IsFilled new.journal lane admitted

-- it is not answered by want of memory
abbrev pub IsNotShort : Admitted → Type 0
IsNotShort (At at) = Unit {0}
IsNotShort (Answered answer) = (answer.entry).kind ≡ MEMORY_KIND → ⊥

-- what is answered has a spelling
abbrev pub AdmittedHasText : Admitted → Type 0
AdmittedHasText (At at) = Unit {0}
AdmittedHasText (Answered answer) = IfSome answer.reply ReplyHasText
