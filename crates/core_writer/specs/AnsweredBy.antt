-- What OPEN_WRITER answers by what the core keeps, on any disk.
use Rattle.std.specs.Prelude.{ℕ, List, Option, Result, Ok}
use Rattle.store_types.specs.declared.names.SnapshotKey.{SnapshotKey}
use Rattle.store_types.specs.declared.refusal.Refusal.{Refusal}
use Rattle.store_types.specs.Chain.Refusing.{◌>>=◌}
use Rattle.wire_commands.specs.declared.reply.Reply.{Reply}
use Rattle.wire_commands.specs.declared.reply.Reply.TheVariants.{Base}
use Rattle.store_model.specs.WriterSteps.{base_text}
use Rattle.core_state.specs.Kept.{KeptAt}
use Rattle.core_writer.specs.Opened.{to_write}

-- the base is told by its text, which is empty where there is none
abbrev pub tells_base : Option SnapshotKey → Result Reply Refusal
tells_base base = Ok (Base (base_text base))

-- the text of the group's latest whole snapshot, or the refusal
abbrev pub writer_told : List ℕ → KeptAt → Result Reply Refusal
writer_told text k = to_write text k >>= λ b. tells_base b.1
