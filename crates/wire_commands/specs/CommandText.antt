-- The one spelling of each command, and the command that a body spells.
use Rattle.std.specs.Prelude.{ℕ, List, [], ◌∷◌, ◌++◌, length, ◌==◌, nat_le, if◌then◌else◌, Option, Some, None}
use Rattle.std.specs.List.{flat_map}
use Rattle.std.specs.Int.{w16, w32, w64}
use Rattle.store_types.specs.declared.append.AppendEntry.{AppendEntry}
use Rattle.store_types.specs.declared.names.Keep.{Keep}
use Rattle.store_types.specs.Chain.Reading.{◌>>=◌, only_if}
use Rattle.wire_frames.specs.Frames.{body_limit}
use Rattle.wire_commands.specs.declared.command.Command.{Command}
use Rattle.wire_commands.specs.declared.command.Command.TheVariants.{OpenWriter, Previous, NewFixed, NewDynamic, Chunk, Append, CloseIndex, Blob, Finish, Abort, OpenReader, Download, GetChunk, Range, CloseReader, List as ListAll, Files, Forget, Prune, Verify, Sync, Gc, Group, Bye}
use Rattle.wire_commands.specs.Fields.{Read, u16, u32, u64, text, flag, rows, whole, byte_at, number_at, digest_at, text_at, flag_at, rows_at}

abbrev pub entry_text : AppendEntry → List ℕ
entry_text e = e.digest.0 ++ u64 e.offset

-- the counts in the order of their periods
abbrev pub keep_text : Keep → List ℕ
keep_text k = u16 k.last ++ u16 k.hourly ++ u16 k.daily ++ u16 k.weekly ++ u16 k.monthly ++ u16 k.yearly

unfoldable pub command_text : Command → List ℕ
command_text (OpenWriter snapshot) = 10 ∷ text snapshot
command_text (Previous file offset) = 11 ∷ text file ++ u64 offset
command_text (NewFixed file size chunk_size) = 12 ∷ text file ++ u64 size ++ u64 chunk_size
command_text (NewDynamic file) = 13 ∷ text file
command_text (Chunk digest blob) = 14 ∷ digest.0 ++ blob
command_text (Append number entries) = 15 ∷ number ∷ rows entry_text entries
command_text (CloseIndex number count size csum) = 16 ∷ number ∷ u64 count ++ u64 size ++ csum.0
command_text (Blob file blob) = 17 ∷ text file ++ blob
command_text Finish = 18 ∷ []
command_text Abort = 19 ∷ []
command_text (OpenReader snapshot) = 20 ∷ text snapshot
command_text (Download file offset) = 21 ∷ text file ++ u64 offset
command_text (GetChunk digest) = 22 ∷ digest.0
command_text (Range file offset len) = 23 ∷ text file ++ u64 offset ++ u32 len
command_text CloseReader = 24 ∷ []
command_text (ListAll after) = 30 ∷ text after
command_text (Files snapshot) = 31 ∷ text snapshot
command_text (Forget snapshot) = 32 ∷ text snapshot
command_text (Prune group keep dry) = 33 ∷ text group ++ keep_text keep ++ flag dry
command_text (Verify snapshot) = 34 ∷ text snapshot
command_text (Sync group) = 35 ∷ text group
command_text Gc = 36 ∷ []
command_text (Group group) = 40 ∷ text group
command_text Bye = 63 ∷ []

-- the entries that stand between the head of a text and its rest
abbrev pub entries_of : Command → List AppendEntry
entries_of (Append number entries) = entries
entries_of _ = []

-- ---- reading

abbrev pub Reader : Type 0
Reader = List ℕ → Option Command

unfoldable pub nothing_more : Command → Reader
nothing_more c bytes = if length bytes == 0 then Some c else None

unfoldable pub one_text : (List ℕ → Command) → Reader
one_text make bytes = do
  t ← whole (text_at bytes)
  Some (make t)

unfoldable pub text_and_offset : (List ℕ → ℕ → Command) → Reader
text_and_offset make bytes = do
  t ← text_at bytes
  offset ← whole (number_at w64 t.1)
  Some (make t.0 offset)

unfoldable pub new_fixed : Reader
new_fixed bytes = do
  file ← text_at bytes
  size ← number_at w64 file.1
  chunk_size ← whole (number_at w64 size.1)
  Some (NewFixed file.0 size.0 chunk_size)

unfoldable pub chunk : Reader
chunk bytes = do
  digest ← digest_at bytes
  Some (Chunk digest.0 digest.1)

abbrev pub entry_at : List ℕ → Read AppendEntry
entry_at bytes = do
  digest ← digest_at bytes
  offset ← number_at w64 digest.1
  Some (record { digest = digest.0; offset = offset.0 }, offset.1)

unfoldable pub append : Reader
append bytes = do
  number ← byte_at bytes
  entries ← whole (rows_at entry_at number.1)
  Some (Append number.0 entries)

unfoldable pub close_index : Reader
close_index bytes = do
  number ← byte_at bytes
  count ← number_at w64 number.1
  size ← number_at w64 count.1
  csum ← whole (digest_at size.1)
  Some (CloseIndex number.0 count.0 size.0 csum)

unfoldable pub blob : Reader
blob bytes = do
  file ← text_at bytes
  Some (Blob file.0 file.1)

unfoldable pub get_chunk : Reader
get_chunk bytes = do
  digest ← whole (digest_at bytes)
  Some (GetChunk digest)

unfoldable pub range : Reader
range bytes = do
  file ← text_at bytes
  offset ← number_at w64 file.1
  len ← whole (number_at w32 offset.1)
  Some (Range file.0 offset.0 len)

abbrev pub keep_at : List ℕ → Read Keep
keep_at bytes = do
  last ← number_at w16 bytes
  hourly ← number_at w16 last.1
  daily ← number_at w16 hourly.1
  weekly ← number_at w16 daily.1
  monthly ← number_at w16 weekly.1
  yearly ← number_at w16 monthly.1
  Some (record { last = last.0; hourly = hourly.0; daily = daily.0; weekly = weekly.0; monthly = monthly.0; yearly = yearly.0 }, yearly.1)

unfoldable pub prune : Reader
prune bytes = do
  group ← text_at bytes
  keep ← keep_at group.1
  dry ← whole (flag_at keep.1)
  Some (Prune group.0 keep.0 dry)

-- what the fields of a code make
unfoldable pub fields_of : ℕ → Reader
fields_of code bytes =
    if code == 10 then one_text OpenWriter bytes else
    if code == 11 then text_and_offset Previous bytes else
    if code == 12 then new_fixed bytes else
    if code == 13 then one_text NewDynamic bytes else
    if code == 14 then chunk bytes else
    if code == 15 then append bytes else
    if code == 16 then close_index bytes else
    if code == 17 then blob bytes else
    if code == 18 then nothing_more Finish bytes else
    if code == 19 then nothing_more Abort bytes else
    if code == 20 then one_text OpenReader bytes else
    if code == 21 then text_and_offset Download bytes else
    if code == 22 then get_chunk bytes else
    if code == 23 then range bytes else
    if code == 24 then nothing_more CloseReader bytes else
    if code == 30 then one_text ListAll bytes else
    if code == 31 then one_text Files bytes else
    if code == 32 then one_text Forget bytes else
    if code == 33 then prune bytes else
    if code == 34 then one_text Verify bytes else
    if code == 35 then one_text Sync bytes else
    if code == 36 then nothing_more Gc bytes else
    if code == 40 then one_text Group bytes else
    if code == 63 then nothing_more Bye bytes else
    None

-- the command whose text this is; no body is longer than a frame holds
unfoldable pub command_of : List ℕ → Option Command
command_of body = do
  _ ← only_if (nat_le (length body) body_limit)
  code ← byte_at body
  fields_of code.0 code.1

-- the entries of a command between its head and the rest
abbrev pub with_entries : List ℕ → Command → List ℕ → List ℕ
with_entries head c rest = head ++ flat_map entry_text (entries_of c) ++ rest
