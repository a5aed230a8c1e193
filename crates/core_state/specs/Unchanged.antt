-- What a refused act leaves as it was.
use Rattle.disk_trait.specs.Effects.{SameContent}
use Rattle.disk_trait.specs.declared.disk.Disk.{Ghosts}
use Rattle.std.specs.Prelude.{◌≡◌, Bool, true, false}
use Rattle.store_types.specs.declared.refusal.Refusal.{Refusal}
use Rattle.store_types.specs.declared.refusal.Refusal.TheVariants.{BadRange, Damaged, Unreadable, DiskFault, NoMemory}
use Rattle.wire_commands.specs.declared.reply.Reply.{Reply}
use Rattle.wire_commands.specs.declared.reply.Reply.TheVariants.{Refused}
use Rattle.core_state.specs.declared.parts.Parts.{Parts}

-- catalogue, sessions and locks are as before, on any disk
pub record SamePlain {D : Type 0} (old new : Parts D) : Type 0 where
  pub catalogue : new.catalogue.listed ≡ old.catalogue.listed
  pub sessions : new.sessions.items ≡ old.sessions.items
  pub locks : new.locks ≡ old.locks

-- and what is kept of indexes
pub record SameKept {D : Type 0} (old new : Parts D) : Type 0 where
  pub catalogue : new.catalogue.listed ≡ old.catalogue.listed
  pub sessions : new.sessions.items ≡ old.sessions.items
  pub locks : new.locks ≡ old.locks
  pub indexes : new.indexes.items ≡ old.indexes.items

-- the refusals that come without a call of the disk: all but those by what a read gave, want of memory and a fault
abbrev pub is_uncalled : Refusal → Bool
is_uncalled (BadRange size) = false
is_uncalled (Damaged digest fault) = false
is_uncalled (Unreadable name) = false
is_uncalled DiskFault = false
is_uncalled NoMemory = false
is_uncalled _ = true

-- Catalogue, sessions and locks are as before, and the disk reads as before unless it failed. Where it wasn't called it is the same,
-- whatever disk it is.
pub record LeavesAll {D : Type 0} (d : Ghosts D) (old new : Parts D) (refusal : Refusal) : Type 0 where
  pub kept : SamePlain old new
  pub uncalled : is_uncalled refusal ≡ true → new.disk ≡ old.disk
  pub disk : (refusal ≡ DiskFault → ⊥) → SameContent d old.disk new.disk

-- an act with this reply has changed nothing where it is a refusal, want of memory among these
abbrev pub Unchanged : {D : Type 0} → Ghosts D → Parts D → Parts D → Reply → Type 0
Unchanged d old new (Refused refusal) = LeavesAll d old new refusal
Unchanged d old new reply = Unit {0}
