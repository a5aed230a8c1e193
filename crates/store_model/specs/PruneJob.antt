-- PRUNE: the group's snapshots, and then FORGET of each that no option keeps, the newest first.
use Rattle.std.specs.Prelude.{ℕ, Bool, true, false, List, [], ◌∷◌, ◌++◌, map, reverse, zip, option_map, unwrap_or, if◌then◌else◌}
use Rattle.store_types.specs.declared.names.Keep.{Keep}
use Rattle.store_types.specs.declared.refusal.Refusal.TheVariants.{SnapshotBusy, NoSnapshot}
use Rattle.store_types.specs.Names.{key_of}
use Rattle.prune_rules.specs.declared.Item.{Item}
use Rattle.prune_rules.specs.declared.Mark.{Mark}
use Rattle.prune_rules.specs.declared.Mark.TheVariants as rules
use Rattle.prune_rules.specs.Prune.{marks}
use Rattle.wire_commands.specs.declared.rows.PruneMark.{PruneMark}
use Rattle.wire_commands.specs.declared.rows.PruneMark.TheVariants.{Removed, Kept, Held, Gone}
use Rattle.wire_commands.specs.declared.rows.PruneRow.{PruneRow}
use Rattle.wire_commands.specs.declared.reply.Reply.{Reply}
use Rattle.wire_commands.specs.declared.reply.Reply.TheVariants.{Done, Keys, Marks, Refused}
use Rattle.store_model.specs.Job.{Job, over, asking, forgetting}

abbrev pub row : PruneMark → List ℕ → PruneRow
row mark snapshot = record { snapshot = snapshot; mark = mark }

-- ---- what is meant to be done

-- each snapshot that GROUP tells is finished
abbrev pub item_of : List ℕ → Item
item_of snapshot = record { time = unwrap_or (option_map (λ key. key.time) (key_of snapshot)) 0; finished = true }

abbrev pub meant : Mark → PruneMark
meant rules.Kept = Kept
meant rules.Removed = Removed

-- the group's snapshots by the rule, the newest first
unfoldable pub rows_meant : Keep → List (List ℕ) → List PruneRow
rows_meant keep oldest_first =
    let snapshots = reverse oldest_first in
    map (λ p. row (meant p.1) p.0) (zip snapshots (marks (map item_of snapshots) keep))

-- ---- what is done

abbrev pub is_to_go : PruneRow → Bool
is_to_go r = elim r.mark [ Removed ↦ true | Kept ↦ false | Held ↦ false | Gone ↦ false ]

-- on to the first row that is to go, behind those that are done
unfoldable pub go_on : List PruneRow → List PruneRow → Job
go_on before [] = over (Marks before)
go_on before (r ∷ later) = if is_to_go r then asking (forgetting before r.snapshot later) else go_on (before ++ r ∷ []) later

-- In a dry run what is meant is all.
unfoldable pub grouped : Keep → Bool → Reply → Job
grouped keep dry (Keys snapshots) = if dry then over (Marks (rows_meant keep snapshots)) else go_on [] (rows_meant keep snapshots)
grouped keep dry reply = over reply

-- A snapshot that a lane holds stays, and one may be gone before. Any other refusal is the job's answer.
unfoldable pub forgot : List PruneRow → List ℕ → List PruneRow → Reply → Job
forgot before snapshot later Done = go_on (before ++ row Removed snapshot ∷ []) later
forgot before snapshot later (Refused (SnapshotBusy lane)) = go_on (before ++ row Held snapshot ∷ []) later
forgot before snapshot later (Refused NoSnapshot) = go_on (before ++ row Gone snapshot ∷ []) later
forgot before snapshot later reply = over reply
