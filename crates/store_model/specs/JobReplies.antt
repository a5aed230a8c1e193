-- Which replies a job's steps have.
use Rattle.std.specs.Prelude.{◌≤◌, length, ⊤, Option, Some, None, IsSome}
use Rattle.wire_commands.specs.declared.command.Command.{Command}
use Rattle.wire_commands.specs.declared.command.Command.TheVariants.{OpenWriter, NewFixed, NewDynamic, Chunk, Append, CloseIndex, Blob, Finish, Abort, OpenReader, Files, CloseReader, Forget, Prune}
use Rattle.wire_commands.specs.declared.reply.Reply.{Reply}
use Rattle.wire_commands.specs.declared.reply.Reply.TheVariants.{Keys}
use Rattle.wire_commands.specs.ReplyText.{Form, empty, base, part, rest, number, files, keys, HasForm}
use Rattle.store_model.specs.declared.step.Step.{Step}
use Rattle.store_model.specs.declared.step.Step.TheVariants as steps
use Rattle.store_model.specs.Stands.{group_limit}

-- the form of the reply to a command that a job asks, where it is no refusal; PRUNE's own asks for its group's snapshots
abbrev pub step_form : Command → Option Form
step_form (OpenWriter snapshot) = Some base
step_form (NewFixed file size chunk_size) = Some number
step_form (NewDynamic file) = Some number
step_form (Chunk digest blob) = Some empty
step_form (Append n entries) = Some empty
step_form (CloseIndex n count size csum) = Some empty
step_form (Blob file blob) = Some empty
step_form Finish = Some empty
step_form Abort = Some empty
step_form (OpenReader snapshot) = Some empty
step_form (Files snapshot) = Some files
step_form CloseReader = Some empty
step_form (Forget snapshot) = Some empty
step_form (Prune group keep dry) = Some keys
step_form _ = None

-- a step that a job may ask
abbrev pub IsJobStep : Step → Type 0
IsJobStep (steps.Command c) = IsSome (step_form c)
IsJobStep _ = ⊤

-- of a group no more are told than that
abbrev pub IsWithinGroup : Reply → Type 0
IsWithinGroup (Keys snapshots) = length snapshots ≤ group_limit
IsWithinGroup _ = ⊤

abbrev pub IsReplyTo : Step → Reply → Type 0
IsReplyTo (steps.Command c) reply = HasForm (step_form c) reply × IsWithinGroup reply
IsReplyTo (steps.ReadFile name offset) reply = HasForm (Some part) reply
IsReplyTo (steps.ReadChunk name entry) reply = HasForm (Some rest) reply
