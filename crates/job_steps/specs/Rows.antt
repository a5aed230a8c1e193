-- The rows of a prune, and the one that is to go next.
use Rattle.std.specs.Prelude.{◌≡◌, ℕ, ◌+◌, List, [], take, drop, slice_index_or, Option, Some, None, Result, IfOk}
use Rattle.prune_rules.specs.declared.Mark.{Mark}
use Rattle.store_types.specs.declared.refusal.Refusal.TheVariants.{SnapshotBusy, NoSnapshot}
use Rattle.wire_commands.specs.declared.command.Command.{Command}
use Rattle.wire_commands.specs.declared.command.Command.TheVariants.{Forget}
use Rattle.wire_commands.specs.declared.rows.PruneMark.{PruneMark}
use Rattle.wire_commands.specs.declared.rows.PruneMark.TheVariants.{Removed, Held, Gone}
use Rattle.wire_commands.specs.declared.rows.PruneRow.{PruneRow}
use Rattle.wire_commands.specs.declared.reply.Reply.{Reply}
use Rattle.wire_commands.specs.declared.reply.Reply.TheVariants.{Done, Marks, Refused}
use Rattle.store_model.specs.Job.{Job, over, asking, forgetting}
use Rattle.store_model.specs.PruneJob.{row, meant}

-- what the rule means for a snapshot
abbrev pub row_of : List ℕ × Mark → PruneRow
row_of p = row (meant p.1) p.0

abbrev pub row_at : List PruneRow → ℕ → PruneRow
row_at rows place = slice_index_or rows place (row Removed [])

-- the FORGET of the snapshot of a row
abbrev pub forget_at : List PruneRow → ℕ → Command
forget_at rows place = Forget (row_at rows place).snapshot

abbrev pub GivesCommand : {E : Type 0} → Result Command E → Command → Type 0
GivesCommand result command = IfOk result (λ given. given ≡ command)

-- The rows before this place are done, and its own is to go.
abbrev pub asked_at : List PruneRow → ℕ → Job
asked_at rows place = asking (forgetting (take place rows) (row_at rows place).snapshot (drop (place + 1) rows))

-- the same, where there may be no row that is to go
abbrev pub asked_first : List PruneRow → Option ℕ → Job
asked_first rows None = over (Marks rows)
asked_first rows (Some place) = asked_at rows place

-- what became of a snapshot by the reply to its FORGET, where the job goes on
abbrev pub mark_told : Reply → Option PruneMark
mark_told Done = Some Removed
mark_told (Refused (SnapshotBusy lane)) = Some Held
mark_told (Refused NoSnapshot) = Some Gone
mark_told _ = None
