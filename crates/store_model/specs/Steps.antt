-- What a command does to the plain store, and what is replied.
use Rattle.std.specs.Prelude.{ℕ, Ok, Err}
use Rattle.wire_commands.specs.declared.command.Command.{Command}
use Rattle.wire_commands.specs.declared.command.Command.TheVariants.{OpenWriter, Previous, NewFixed, NewDynamic, Chunk, Append, CloseIndex, Blob, Finish, Abort, OpenReader, Download, GetChunk, Range, CloseReader, List as ListAll, Files, Forget, Prune, Verify, Sync, Gc, Group, Bye}
use Rattle.wire_commands.specs.declared.reply.Reply.{Reply}
use Rattle.wire_commands.specs.declared.reply.Reply.TheVariants.{Done, Refused}
use Rattle.store_model.specs.Store.{Store, Outcome, ended}
use Rattle.store_model.specs.WriterSteps.{open_writer, previous, put_blob, finish, abort}
use Rattle.store_model.specs.ArchiveSteps.{new_fixed, new_dynamic, put_chunk, append, close_index}
use Rattle.store_model.specs.ReaderSteps.{open_reader, download, get_chunk, range, close_reader}
use Rattle.store_model.specs.AdminSteps.{list, files, forget, group, prune_group}

unfoldable pub outcome : Store → ℕ → ℕ → Command → Outcome
outcome s lane moment (OpenWriter snapshot) = open_writer s lane moment snapshot
outcome s lane moment (Previous file offset) = previous s lane file offset
outcome s lane moment (NewFixed file size chunk_size) = new_fixed s lane moment file size chunk_size
outcome s lane moment (NewDynamic file) = new_dynamic s lane moment file
outcome s lane moment (Chunk digest blob) = put_chunk s lane digest blob
outcome s lane moment (Append number entries) = append s lane number entries
outcome s lane moment (CloseIndex number count size csum) = close_index s lane number count size csum
outcome s lane moment (Blob file blob) = put_blob s lane file blob
outcome s lane moment Finish = finish s lane
outcome s lane moment Abort = abort s lane
outcome s lane moment (OpenReader snapshot) = open_reader s lane snapshot
outcome s lane moment (Download file offset) = download s lane file offset
outcome s lane moment (GetChunk digest) = get_chunk s lane digest
outcome s lane moment (Range file offset length) = range s lane file offset length
outcome s lane moment CloseReader = close_reader s lane
outcome s lane moment (ListAll after) = list s lane after
outcome s lane moment (Files snapshot) = files s lane snapshot
outcome s lane moment (Forget snapshot) = forget s lane snapshot
-- a job's first step
outcome s lane moment (Prune group keep dry) = prune_group s lane group keep
-- what is done for these jobs is not done by their own commands
outcome s lane moment (Verify snapshot) = Ok (s, Done)
outcome s lane moment (Sync name) = Ok (s, Done)
outcome s lane moment Gc = Ok (s, Done)
outcome s lane moment (Group name) = group s lane name
outcome s lane moment Bye = Ok (ended s lane, Done)

-- a refused step changes nothing
abbrev pub answered : Store → Outcome → Store × Reply
answered s (Ok after) = after
answered s (Err refusal) = (s, Refused refusal)

unfoldable pub step : Store → ℕ → ℕ → Command → Store × Reply
step s lane moment c = answered s (outcome s lane moment c)
