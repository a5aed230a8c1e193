-- The two records of a RANGE.
use Rattle.std.specs.Prelude.{◌≡◌, ℕ, true, List, Some, Result}
use Rattle.disk_trait.specs.declared.disk.Disk.{Ghosts}
use Rattle.wire_commands.specs.declared.command.Command.TheVariants.{OpenReader, Range}
use Rattle.wire_commands.specs.declared.reply.Reply.{Reply}
use Rattle.wire_commands.specs.declared.reply.Reply.TheVariants.{Done}
use Rattle.store_history.specs.declared.act.Act.{Act}
use Rattle.store_history.specs.declared.act.Act.TheVariants.{Plain}
use Rattle.store_history.specs.declared.act.Answer.{Answer}
use Rattle.core_state.specs.Closing.{is_reader}
use Rattle.core_state.specs.Wanted.{session_at}
use Rattle.core_state.specs.declared.entering.Place.{Place}
use Rattle.core_state.specs.declared.parts.Parts.{Parts}
use Rattle.core_state.specs.declared.state.Core.{Core}
use Rattle.store_stops.specs.declared.stop.Stop.{Stop}
use Rattle.core_state.specs.Commands.{PlainDoes, PlainLeaves}

abbrev pub RangeDoes : {D : Type 0} → Ghosts D → Parts D → Parts D → Place → List ℕ → ℕ → ℕ → Result Reply Stop → Type 0
RangeDoes d old new at file offset len result = PlainDoes d old new at (Range file offset len) result

abbrev pub RangeLeaves : {D : Type 0} → Ghosts D → Parts D → Parts D → Place → List ℕ → ℕ → ℕ → Result Reply Stop → Type 0
RangeLeaves d old new at file offset len result = PlainLeaves d old new at (Range file offset len) result
