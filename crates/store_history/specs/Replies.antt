-- What a command's own tests may answer: what it was asked for, or one of its refusals.
use Rattle.std.specs.Prelude.{ℕ, Bool, true, false, ◌||◌, Result, Ok, Err, length, nat_le, nat_lt}
use Rattle.store_types.specs.declared.refusal.Refusal.{Refusal}
use Rattle.store_types.specs.declared.refusal.Refusal.TheVariants.{WrongState, BadName, GroupBusy, SnapshotBusy, NotNewer, NoSnapshot, NoFile, Exists, BadBlob, WrongDigest, WrongSize, UnknownChunk, BadOffset, BadClose, OpenIndexes, TooMany, BadRange, Unreadable, BadManifest, ManifestMismatch, NotAllowed, Damaged, CollectorBusy, NoMemory, NoRemote}
use Rattle.wire_commands.specs.declared.command.Command.{Command}
use Rattle.wire_commands.specs.declared.command.Command.TheVariants as commands
use Rattle.wire_commands.specs.declared.reply.Reply.{Reply}
use Rattle.wire_commands.specs.declared.reply.Reply.TheVariants.{Done, Base, Part, Data, Number, Listing, Files, Keys, Collected, Refused}
use Rattle.store_model.specs.Stands.{group_limit}
use Rattle.store_history.specs.declared.act.Act.{Act}
use Rattle.store_history.specs.declared.act.Act.TheVariants as acts

-- ---- the refusals of each command

abbrev pub refuses_writer : Refusal → Bool
refuses_writer (WrongState state) = true
refuses_writer BadName = true
refuses_writer (GroupBusy lane) = true
refuses_writer (NotNewer latest) = true
refuses_writer (TooMany limit) = true
refuses_writer _ = false

abbrev pub refuses_previous : Refusal → Bool
refuses_previous (WrongState state) = true
refuses_previous BadName = true
refuses_previous NoSnapshot = true
refuses_previous NoFile = true
refuses_previous (BadRange size) = true
refuses_previous (Unreadable name) = true
refuses_previous _ = false

-- a NEW_FIXED
abbrev pub refuses_fixed : Refusal → Bool
refuses_fixed (WrongState state) = true
refuses_fixed BadName = true
refuses_fixed Exists = true
refuses_fixed (TooMany limit) = true
refuses_fixed (WrongSize place size) = true
refuses_fixed _ = false

-- a NEW_DYNAMIC
abbrev pub refuses_index : Refusal → Bool
refuses_index (WrongState state) = true
refuses_index BadName = true
refuses_index Exists = true
refuses_index (TooMany limit) = true
refuses_index _ = false

abbrev pub refuses_chunk : Refusal → Bool
refuses_chunk (WrongState state) = true
refuses_chunk (BadBlob cause) = true
refuses_chunk (WrongSize place size) = true
refuses_chunk (WrongDigest found) = true
refuses_chunk _ = false

abbrev pub refuses_append : Refusal → Bool
refuses_append (WrongState state) = true
refuses_append NoFile = true
refuses_append (TooMany limit) = true
refuses_append (UnknownChunk place) = true
refuses_append (BadOffset place expected) = true
refuses_append (WrongSize place size) = true
refuses_append _ = false

-- a CLOSE_INDEX
abbrev pub refuses_closing : Refusal → Bool
refuses_closing (WrongState state) = true
refuses_closing NoFile = true
refuses_closing (BadClose fault) = true
refuses_closing _ = false

abbrev pub refuses_blob : Refusal → Bool
refuses_blob (WrongState state) = true
refuses_blob BadName = true
refuses_blob Exists = true
refuses_blob (TooMany limit) = true
refuses_blob (BadBlob cause) = true
refuses_blob _ = false

abbrev pub refuses_finish : Refusal → Bool
refuses_finish (WrongState state) = true
refuses_finish (OpenIndexes count) = true
refuses_finish NoFile = true
refuses_finish (BadManifest cause) = true
refuses_finish (ManifestMismatch file field) = true
refuses_finish _ = false

abbrev pub refuses_reader : Refusal → Bool
refuses_reader (WrongState state) = true
refuses_reader BadName = true
refuses_reader NoSnapshot = true
refuses_reader (Unreadable name) = true
refuses_reader _ = false

abbrev pub refuses_download : Refusal → Bool
refuses_download (WrongState state) = true
refuses_download BadName = true
refuses_download NoFile = true
refuses_download (BadRange size) = true
refuses_download (Unreadable name) = true
refuses_download _ = false

-- a VERIFY's read of a part of a file
abbrev pub refuses_part : Refusal → Bool
refuses_part (WrongState state) = true
refuses_part NoFile = true
refuses_part (BadRange size) = true
refuses_part (Unreadable name) = true
refuses_part _ = false

-- and of a chunk
abbrev pub refuses_entry : Refusal → Bool
refuses_entry (WrongState state) = true
refuses_entry NoFile = true
refuses_entry (BadRange count) = true
refuses_entry (Damaged digest fault) = true
refuses_entry (Unreadable name) = true
refuses_entry _ = false

-- a GET_CHUNK
abbrev pub refuses_get : Refusal → Bool
refuses_get (WrongState state) = true
refuses_get NotAllowed = true
refuses_get (Damaged digest fault) = true
refuses_get _ = false

abbrev pub refuses_range : Refusal → Bool
refuses_range (WrongState state) = true
refuses_range BadName = true
refuses_range NoFile = true
refuses_range NotAllowed = true
refuses_range (TooMany limit) = true
refuses_range (BadRange size) = true
refuses_range (Damaged digest fault) = true
refuses_range (Unreadable name) = true
refuses_range _ = false

-- an ABORT, or a CLOSE_READER
abbrev pub refuses_close : Refusal → Bool
refuses_close (WrongState state) = true
refuses_close _ = false

-- a LIST, or a GROUP
abbrev pub refuses_name : Refusal → Bool
refuses_name BadName = true
refuses_name _ = false

abbrev pub refuses_files : Refusal → Bool
refuses_files BadName = true
refuses_files NoSnapshot = true
refuses_files (Unreadable name) = true
refuses_files _ = false

abbrev pub refuses_forget : Refusal → Bool
refuses_forget (WrongState state) = true
refuses_forget BadName = true
refuses_forget NoSnapshot = true
refuses_forget (SnapshotBusy lane) = true
refuses_forget _ = false

-- the first step of a PRUNE
abbrev pub refuses_prune : Refusal → Bool
refuses_prune (WrongState state) = true
refuses_prune BadName = true
refuses_prune (TooMany limit) = true
refuses_prune _ = false

-- the first step of a SYNC
abbrev pub refuses_sync : Refusal → Bool
refuses_sync (WrongState state) = true
refuses_sync BadName = true
refuses_sync NoRemote = true
refuses_sync _ = false

-- the start of a collector
abbrev pub refuses_start : Refusal → Bool
refuses_start (WrongState state) = true
refuses_start (CollectorBusy lane) = true
refuses_start (Unreadable name) = true
refuses_start _ = false

-- an act of a collector that is not open on the lane
abbrev pub refuses_step : Refusal → Bool
refuses_step (WrongState state) = true
refuses_step _ = false

-- what ends a collector early
abbrev pub refuses_end : Refusal → Bool
refuses_end NoMemory = true
refuses_end (Unreadable name) = true
refuses_end _ = false

-- ---- the replies

abbrev pub answers_writer : Reply → Bool
answers_writer (Base snapshot) = true
answers_writer (Refused refusal) = refuses_writer refusal
answers_writer _ = false

abbrev pub answers_previous : Reply → Bool
answers_previous (Part total bytes) = true
answers_previous (Refused refusal) = refuses_previous refusal
answers_previous _ = false

abbrev pub answers_fixed : Reply → Bool
answers_fixed (Number number) = true
answers_fixed (Refused refusal) = refuses_fixed refusal
answers_fixed _ = false

abbrev pub answers_index : Reply → Bool
answers_index (Number number) = true
answers_index (Refused refusal) = refuses_index refusal
answers_index _ = false

abbrev pub answers_chunk : Reply → Bool
answers_chunk Done = true
answers_chunk (Refused refusal) = refuses_chunk refusal
answers_chunk _ = false

abbrev pub answers_append : Reply → Bool
answers_append Done = true
answers_append (Refused refusal) = refuses_append refusal
answers_append _ = false

abbrev pub answers_closing : Reply → Bool
answers_closing Done = true
answers_closing (Refused refusal) = refuses_closing refusal
answers_closing _ = false

abbrev pub answers_blob : Reply → Bool
answers_blob Done = true
answers_blob (Refused refusal) = refuses_blob refusal
answers_blob _ = false

abbrev pub answers_finish : Reply → Bool
answers_finish Done = true
answers_finish (Refused refusal) = refuses_finish refusal
answers_finish _ = false

abbrev pub answers_reader : Reply → Bool
answers_reader Done = true
answers_reader (Refused refusal) = refuses_reader refusal
answers_reader _ = false

abbrev pub answers_download : Reply → Bool
answers_download (Part total bytes) = true
answers_download (Refused refusal) = refuses_download refusal
answers_download _ = false

-- a part is not empty before the file's end
abbrev pub answers_part : ℕ → Reply → Bool
answers_part offset (Part total bytes) = nat_le total offset || nat_lt 0 (length bytes)
answers_part offset (Refused refusal) = refuses_part refusal
answers_part offset _ = false

abbrev pub answers_entry : Reply → Bool
answers_entry (Data bytes) = true
answers_entry (Refused refusal) = refuses_entry refusal
answers_entry _ = false

abbrev pub answers_get : Reply → Bool
answers_get (Data bytes) = true
answers_get (Refused refusal) = refuses_get refusal
answers_get _ = false

abbrev pub answers_range : Reply → Bool
answers_range (Data bytes) = true
answers_range (Refused refusal) = refuses_range refusal
answers_range _ = false

abbrev pub answers_close : Reply → Bool
answers_close Done = true
answers_close (Refused refusal) = refuses_close refusal
answers_close _ = false

abbrev pub answers_list : Reply → Bool
answers_list (Listing rows) = true
answers_list (Refused refusal) = refuses_name refusal
answers_list _ = false

abbrev pub answers_files : Reply → Bool
answers_files (Files rows) = true
answers_files (Refused refusal) = refuses_files refusal
answers_files _ = false

abbrev pub answers_forget : Reply → Bool
answers_forget Done = true
answers_forget (Refused refusal) = refuses_forget refusal
answers_forget _ = false

abbrev pub answers_group : Reply → Bool
answers_group (Keys snapshots) = true
answers_group (Refused refusal) = refuses_name refusal
answers_group _ = false

-- the first step of a PRUNE is answered as a GROUP, of as many snapshots as a group has at most
abbrev pub answers_prune : Reply → Bool
answers_prune (Keys snapshots) = nat_le (length snapshots) group_limit
answers_prune (Refused refusal) = refuses_prune refusal
answers_prune _ = false

-- a lane's end, whose reply is not told
abbrev pub answers_end : Reply → Bool
answers_end Done = true
answers_end _ = false

-- the first step of a SYNC, where the remote is not read
abbrev pub answers_sync : Reply → Bool
answers_sync (Refused refusal) = refuses_sync refusal
answers_sync _ = false

-- and any other read of the remote
abbrev pub answers_unread : Reply → Bool
answers_unread (Refused NoRemote) = true
answers_unread _ = false

-- what the remote has of a group: no more than a group has at most
abbrev pub gives_keys : Reply → Bool
gives_keys (Keys snapshots) = nat_le (length snapshots) group_limit
gives_keys _ = false

-- a part of one of its files, and the blob of a chunk, or what is refused as it stands there
abbrev pub gives_file : ℕ → Reply → Bool
gives_file offset (Part total bytes) = nat_le total offset || nat_lt 0 (length bytes)
gives_file offset (Refused (BadRange size)) = true
gives_file offset (Refused (Unreadable name)) = true
gives_file offset _ = false

abbrev pub gives_blob : Reply → Bool
gives_blob (Data bytes) = true
gives_blob (Refused (Damaged digest fault)) = true
gives_blob _ = false

-- what a read of the remote gives
abbrev pub may_give : Act → Reply → Bool
may_give (acts.Plain command) reply = false
may_give (acts.JobGroup command) reply = false
may_give (acts.Blob name checked) reply = false
may_give (acts.Chunk digest checked) reply = false
may_give (acts.ReadFile name offset) reply = false
may_give (acts.ReadChunk name entry) reply = false
may_give (acts.RemoteList command) reply = gives_keys reply
may_give (acts.RemoteFile snapshot name offset) reply = gives_file offset reply
may_give (acts.RemoteChunk digest) reply = gives_blob reply
may_give acts.Start reply = false
may_give acts.Step reply = false
may_give acts.Short reply = false
may_give acts.End reply = false

-- a collector that starts has no reply
abbrev pub answers_start : Reply → Bool
answers_start (Refused refusal) = refuses_start refusal
answers_start _ = false

-- and none that marks or visits
abbrev pub answers_step : Reply → Bool
answers_step (Refused refusal) = refuses_step refusal
answers_step _ = false

-- a collector's end
abbrev pub may_end : Reply → Bool
may_end (Collected start cutoff used pending removed) = true
may_end (Refused refusal) = refuses_end refusal
may_end _ = false

abbrev pub command_answers : Command → Reply → Bool
command_answers (commands.OpenWriter snapshot) reply = answers_writer reply
command_answers (commands.Previous file offset) reply = answers_previous reply
command_answers (commands.NewFixed file size chunk_size) reply = answers_fixed reply
command_answers (commands.NewDynamic file) reply = answers_index reply
command_answers (commands.Append number entries) reply = answers_append reply
command_answers (commands.CloseIndex number count size csum) reply = answers_closing reply
command_answers commands.Finish reply = answers_finish reply
command_answers commands.Abort reply = answers_close reply
command_answers commands.CloseReader reply = answers_close reply
command_answers (commands.OpenReader snapshot) reply = answers_reader reply
command_answers (commands.Download file offset) reply = answers_download reply
command_answers (commands.GetChunk digest) reply = answers_get reply
command_answers (commands.Range file offset len) reply = answers_range reply
command_answers (commands.List after) reply = answers_list reply
command_answers (commands.Files snapshot) reply = answers_files reply
command_answers (commands.Forget snapshot) reply = answers_forget reply
command_answers (commands.Group name) reply = answers_group reply
command_answers (commands.Chunk digest blob) reply = false
command_answers (commands.Blob file blob) reply = false
command_answers (commands.Prune group keep dry) reply = false
command_answers (commands.Verify snapshot) reply = false
command_answers (commands.Sync group) reply = false
command_answers commands.Gc reply = false
command_answers commands.Bye reply = false

-- the first step of a job
abbrev pub job_answers : Command → Reply → Bool
job_answers (commands.Prune group keep dry) reply = answers_prune reply
job_answers _ reply = false

abbrev pub may_answer : Act → Reply → Bool
may_answer (acts.Plain command) reply = command_answers command reply
may_answer (acts.JobGroup command) reply = job_answers command reply
may_answer (acts.Blob name checked) reply = answers_blob reply
may_answer (acts.Chunk digest checked) reply = answers_chunk reply
may_answer (acts.ReadFile name offset) reply = answers_part offset reply
may_answer (acts.ReadChunk name entry) reply = answers_entry reply
may_answer (acts.RemoteList command) reply = answers_sync reply
may_answer (acts.RemoteFile snapshot name offset) reply = answers_unread reply
may_answer (acts.RemoteChunk digest) reply = answers_unread reply
may_answer acts.Start reply = answers_start reply
may_answer acts.Step reply = answers_step reply
may_answer acts.End reply = answers_end reply
may_answer acts.Short reply = false

-- what a command gives, or its refusal, as a reply
abbrev pub reply_told : Result Reply Refusal → Reply
reply_told (Ok reply) = reply
reply_told (Err refusal) = Refused refusal
