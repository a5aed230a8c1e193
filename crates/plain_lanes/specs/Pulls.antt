-- What a SYNC makes of the replies to its steps.
use Rattle.std.specs.Prelude.{ℕ, Bool, true, false, List, [], ◌∷◌, ◌++◌}
use Rattle.store_types.specs.declared.names.SnapshotKey.{SnapshotKey}
use Rattle.store_types.specs.Names.{key_text}
use Rattle.wire_commands.specs.declared.reply.Reply.{Reply}
use Rattle.wire_commands.specs.declared.reply.Reply.TheVariants.{Base}
use Rattle.store_model.specs.Job as model
use Rattle.plain_lanes.specs.declared.pull.Pull.{Pull}

abbrev pub shown_pull : Pull → model.Pull
shown_pull p = record { snapshot = p.snapshot; later = p.later.items; pulled = p.pulled.items }

-- one more snapshot is pulled
abbrev pub keys_with : List (List ℕ) → SnapshotKey → List (List ℕ)
keys_with pulled key = pulled ++ key_text key ∷ []

abbrev pub is_base : Reply → Bool
is_base (Base snapshot) = true
is_base _ = false
