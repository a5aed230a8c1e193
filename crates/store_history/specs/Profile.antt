-- One row an act: what it does to the disk, to sessions and locks, to what its lane keeps of indexes, and to the list of snapshots. What is told
-- holds of an act that was done. A refused one does nothing, but see `may_be_paged`.
use Rattle.std.specs.Prelude.{ℕ, Bool, true, false, List, Result}
use Rattle.store_types.specs.declared.names.Digest32.{Digest32}
use Rattle.store_types.specs.declared.refusal.Refusal.{Refusal}
use Rattle.wire_commands.specs.declared.command.Command.{Command}
use Rattle.wire_commands.specs.declared.command.Command.TheVariants as commands
use Rattle.store_history.specs.declared.act.Act.{Act}
use Rattle.store_history.specs.declared.act.Act.TheVariants as acts

-- ---- the columns

pub data DiskChange : Type 0 where
  -- a file of the lane's writer, where the check of the upload found data in its bytes
  new_file : List ℕ → Result (List ℕ) Refusal → DiskChange
  -- a chunk's blob, where the check found the digest's piece in it
  new_chunk : Digest32 → Result (List ℕ) Refusal → DiskChange
  -- the writer's index of this number
  new_index : ℕ → DiskChange
  -- the writer's manifest
  new_manifest : DiskChange
  -- the writer's files are gone
  no_files : DiskChange
  -- the snapshot that the text names is gone
  no_snapshot : List ℕ → DiskChange
  -- of a mark, a visit, or the end of a collector
  swept : DiskChange

pub data OnDisk : Type 0 where
  no_call : OnDisk
  only_reads : OnDisk
  disk_change : DiskChange → OnDisk

pub data OnSessions : Type 0 where
  -- sessions and locks are as before
  same_sessions : OnSessions
  begins_writer : OnSessions
  begins_reader : OnSessions
  -- the lane's writer goes on
  writer_goes_on : OnSessions
  -- the lane's writer or reader goes on, and has noted a file
  notes : OnSessions
  -- the lane has no session
  ends : OnSessions
  -- the same, and no memory is wanting for it where the lane had a writer, or a reader
  ends_writer : OnSessions
  ends_reader : OnSessions

pub data OnRow : Type 0 where
  -- the lane keeps what it kept
  same_row : OnRow
  -- it may keep something else
  may_be_other : OnRow
  -- and also where the act is refused by a damaged chunk
  may_be_paged : OnRow
  -- it keeps nothing
  no_row : OnRow

pub data OnList : Type 0 where
  same_list : OnList
  -- the snapshot of the lane's writer is in it
  lists : OnList
  -- the one that the text names is not
  takes_out : List ℕ → OnList

pub record Profile : Type 0 where
  pub disk : OnDisk
  pub sessions : OnSessions
  pub row : OnRow
  pub list : OnList

-- ---- rows

-- what leaves sessions, rows and list
abbrev pub still : OnDisk → Profile
still disk = record { disk = disk; sessions = same_sessions; row = same_row; list = same_list }

-- what leaves rows and list
abbrev pub moving : OnDisk → OnSessions → Profile
moving disk sessions = record { disk = disk; sessions = sessions; row = same_row; list = same_list }

-- what ends the session
abbrev pub closing_by : OnDisk → OnSessions → OnList → Profile
closing_by disk sessions list = record { disk = disk; sessions = sessions; row = no_row; list = list }

-- one that is no act of its own (`IsPlain`) does nothing
abbrev pub command_profile : Command → Profile
command_profile (commands.OpenWriter snapshot) = moving no_call begins_writer
command_profile (commands.Previous file offset) = record { disk = only_reads; sessions = notes; row = may_be_other; list = same_list }
command_profile (commands.NewFixed file size chunk_size) = moving no_call writer_goes_on
command_profile (commands.NewDynamic file) = moving no_call writer_goes_on
command_profile (commands.Chunk digest blob) = still no_call
command_profile (commands.Append number entries) = moving no_call writer_goes_on
command_profile (commands.CloseIndex number count size csum) = moving (disk_change (new_index number)) writer_goes_on
command_profile (commands.Blob file blob) = still no_call
command_profile commands.Finish = closing_by (disk_change new_manifest) ends lists
command_profile commands.Abort = closing_by (disk_change no_files) ends_writer same_list
command_profile (commands.OpenReader snapshot) = moving no_call begins_reader
command_profile (commands.Download file offset) = moving only_reads notes
command_profile (commands.GetChunk digest) = still only_reads
command_profile (commands.Range file offset length) = record { disk = only_reads; sessions = same_sessions; row = may_be_other; list = same_list }
command_profile commands.CloseReader = closing_by no_call ends_reader same_list
command_profile (commands.List after) = still no_call
command_profile (commands.Files snapshot) = still only_reads
command_profile (commands.Forget snapshot) = record { disk = disk_change (no_snapshot snapshot); sessions = same_sessions; row = same_row; list = takes_out snapshot }
command_profile (commands.Prune group keep dry) = still no_call
command_profile (commands.Verify snapshot) = still no_call
command_profile (commands.Sync group) = still no_call
command_profile commands.Gc = still no_call
command_profile (commands.Group group) = still no_call
command_profile commands.Bye = still no_call

abbrev pub profile : Act → Profile
profile (acts.Plain command) = command_profile command
profile (acts.JobGroup command) = still no_call
profile (acts.Blob name checked) = moving (disk_change (new_file name checked)) writer_goes_on
profile (acts.Chunk digest checked) = moving (disk_change (new_chunk digest checked)) writer_goes_on
profile (acts.ReadFile name offset) = still only_reads
profile (acts.ReadChunk name entry) = record { disk = only_reads; sessions = same_sessions; row = may_be_paged; list = same_list }
profile (acts.RemoteList command) = still no_call
profile (acts.RemoteFile snapshot name offset) = still no_call
profile (acts.RemoteChunk digest) = still no_call
profile acts.Start = still no_call
profile acts.Step = still (disk_change swept)
profile acts.Short = still no_call
profile acts.End = closing_by (disk_change no_files) ends same_list

-- ---- what is told of them

abbrev pub is_called : OnDisk → Bool
is_called no_call = false
is_called only_reads = true
is_called (disk_change change) = true

abbrev pub is_changed : OnDisk → Bool
is_changed no_call = false
is_changed only_reads = false
is_changed (disk_change change) = true

abbrev pub are_same : OnSessions → Bool
are_same same_sessions = true
are_same sessions = false

-- the lane has a writer then
abbrev pub have_writer : OnSessions → Bool
have_writer begins_writer = true
have_writer writer_goes_on = true
have_writer sessions = false

-- the lane has no session then
abbrev pub are_ended : OnSessions → Bool
are_ended ends = true
are_ended ends_writer = true
are_ended ends_reader = true
are_ended sessions = false

abbrev pub is_same_row : OnRow → Bool
is_same_row same_row = true
is_same_row row = false

abbrev pub is_paged : OnRow → Bool
is_paged may_be_paged = true
is_paged row = false

abbrev pub is_other_list : OnList → Bool
is_other_list same_list = false
is_other_list lists = true
is_other_list (takes_out snapshot) = true
