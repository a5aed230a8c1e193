-- What the commands with many arguments promise of their acts.
use Rattle.std.specs.Prelude.{ℕ, List, Result}
use Rattle.disk_trait.specs.declared.disk.Disk.{Ghosts}
use Rattle.store_types.specs.declared.names.Digest32.{Digest32}
use Rattle.wire_commands.specs.declared.command.Command.TheVariants.{CloseIndex, NewFixed}
use Rattle.wire_commands.specs.declared.reply.Reply.{Reply}
use Rattle.core_state.specs.declared.entering.Place.{Place}
use Rattle.core_state.specs.declared.parts.Parts.{Parts}
use Rattle.store_stops.specs.declared.stop.Stop.{Stop}
use Rattle.core_state.specs.Commands.{PlainDoes, PlainLeaves}

-- ---- the two of a NEW_FIXED

abbrev pub FixedDoes : {D : Type 0} → Ghosts D → Parts D → Parts D → Place → List ℕ → ℕ → ℕ → Result Reply Stop → Type 0
FixedDoes d old new at name size chunk_size result = PlainDoes d old new at (NewFixed name size chunk_size) result

abbrev pub FixedLeaves : {D : Type 0} → Ghosts D → Parts D → Parts D → Place → List ℕ → ℕ → ℕ → Result Reply Stop → Type 0
FixedLeaves d old new at name size chunk_size result = PlainLeaves d old new at (NewFixed name size chunk_size) result

-- ---- the two of a CLOSE_INDEX

abbrev pub ClosingDoes : {D : Type 0} → Ghosts D → Parts D → Parts D → Place → ℕ → ℕ → ℕ → Digest32 → Result Reply Stop → Type 0
ClosingDoes d old new at number count size csum result = PlainDoes d old new at (CloseIndex number count size csum) result

abbrev pub ClosingLeaves : {D : Type 0} → Ghosts D → Parts D → Parts D → Place → ℕ → ℕ → ℕ → Digest32 → Result Reply Stop → Type 0
ClosingLeaves d old new at number count size csum result = PlainLeaves d old new at (CloseIndex number count size csum) result
