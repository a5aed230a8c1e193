-- NEW_DYNAMIC and NEW_FIXED, by which index is begun.
use Rattle.std.specs.Prelude.{ℕ, Bool, List, Result}
use Rattle.store_types.specs.declared.refusal.Refusal.{Refusal}
use Rattle.store_files.specs.Archive.{Layout, dynamic, fixed}
use Rattle.wire_commands.specs.declared.command.Command.{Command}
use Rattle.wire_commands.specs.declared.command.Command.TheVariants as commands
use Rattle.wire_commands.specs.declared.reply.Reply.{Reply}
use Rattle.store_model.specs.Store as model
use Rattle.store_model.specs.WriterCalls as calls
use Rattle.backup_session.specs.Session.{Writing}
use Rattle.backup_session.specs.Steps as rows
use Rattle.store_history.specs.Replies.{answers_index, answers_fixed}
use Rattle.core_writer.specs.declared.archives.NewIndex.{NewIndex}
use Rattle.core_writer.specs.declared.archives.NewIndex.TheVariants.{Dynamic, Fixed}

abbrev pub layout_of : NewIndex → Layout
layout_of Dynamic = dynamic
layout_of (Fixed size chunk_size) = fixed size chunk_size

-- the command that begins it as the file of a name
abbrev pub new_command : NewIndex → List ℕ → Command
new_command Dynamic name = commands.NewDynamic name
new_command (Fixed size chunk_size) name = commands.NewFixed name size chunk_size

-- what it does to a writer, and to what the session keeps of one
abbrev pub new_plain : NewIndex → model.Writer → List ℕ → ℕ → Result (model.Writer × ℕ) Refusal
new_plain Dynamic w name moment = calls.new_dynamic w name moment
new_plain (Fixed size chunk_size) w name moment = calls.new_fixed w name size chunk_size moment

abbrev pub new_rows : NewIndex → Writing → List ℕ → ℕ → Result (Writing × ℕ) Refusal
new_rows Dynamic w name moment = rows.new_dynamic w name moment
new_rows (Fixed size chunk_size) w name moment = rows.new_fixed w name size chunk_size moment

abbrev pub answers_new : NewIndex → Reply → Bool
answers_new Dynamic reply = answers_index reply
answers_new (Fixed size chunk_size) reply = answers_fixed reply
