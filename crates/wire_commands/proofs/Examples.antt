-- Frames, commands, replies and refusals, computed.
use Rattle.std.specs.Prelude.{◌≡◌, ℕ, List, [], ◌∷◌, ◌++◌, codes, refl, Some, None}
use Rattle.store_types.specs.declared.append.AppendEntry.{AppendEntry}
use Rattle.store_types.specs.declared.names.Digest32.{Digest32}
use Rattle.store_types.specs.declared.refusal.SessionState.TheVariants.{Idle, Writer, Reader}
use Rattle.store_types.specs.declared.refusal.BadBlob.TheVariants as blobs
use Rattle.store_types.specs.declared.refusal.CloseFault.TheVariants.{Count, Size, Csum, Rest}
use Rattle.store_types.specs.declared.refusal.ChunkFault.TheVariants.{Nothing, NotABlob, Other}
use Rattle.store_types.specs.declared.refusal.Refusal.{Refusal}
use Rattle.store_types.specs.declared.refusal.Refusal.TheVariants.{BadFrame, TooLong, WrongState, BadName, GroupBusy, SnapshotBusy, NotNewer, NoSnapshot, NoFile, Exists, BadBlob, WrongDigest, WrongSize, UnknownChunk, BadOffset, BadClose, OpenIndexes, BadManifest, ManifestMismatch, NotAllowed, TooMany, BadRange, Damaged, Unreadable, CollectorBusy, DiskFault, Halted, NoMemory, NoRemote, RemoteFault}
use Rattle.wire_frames.specs.Frames.{frame}
use Rattle.wire_commands.specs.declared.command.Command.TheVariants.{OpenWriter, Previous, NewFixed, NewDynamic, Chunk, Append, CloseIndex, Blob, Finish, Abort, OpenReader, Download, GetChunk, Range, CloseReader, Verify, Sync, Gc, Bye}
use Rattle.wire_commands.specs.declared.reply.Reply.TheVariants.{Done, Base, Part, Data, Number, Keys, Verified, Collected, Refused}
use Rattle.wire_commands.specs.declared.rows.FileFault.{FileFault}
use Rattle.wire_commands.specs.declared.rows.FileFault.TheVariants as file_faults
use Rattle.wire_commands.specs.declared.rows.FaultRow.{FaultRow}
use Rattle.wire_commands.specs.CommandText.{command_text, command_of}
use Rattle.wire_commands.specs.ReplyText.{reply_text}
use Rattle.wire_commands.specs.ReplyReading.{reply_of}
use Rattle.wire_commands.specs.Inputs.{front, nothing, no_command, over_limit, frames}
use Rattle.wire_commands.proofs.OnLiterals.{wire_commands_on_literals}
use Rattle.wire_commands.proofs.Hexadecimal.{hex}

abbrev snapshot : List ℕ
snapshot = codes "host/a/2020-01-15T06:30:03Z"

abbrev manifest : List ℕ
manifest = codes "index.json.blob"

-- the blob of a manifest without files, 86 bytes
abbrev manifest_blob : List ℕ
manifest_blob = hex (codes "42ab3807be8370a1 b2940845") ++ codes "{\"backup-id\":\"a\",\"backup-time\":1579069803,\"backup-type\":\"host\",\"files\":[]}"

-- the blob of 123456789, 21 bytes
abbrev digits_blob : List ℕ
digits_blob = hex (codes "42ab3807be8370a1 2639f4cb 313233343536373839")

-- the SHA-256 of abc, of de, and of nothing
abbrev abc : Digest32
abc = record { 0 = hex (codes "ba7816bf8f01cfea414140de5dae2223b00361a396177a9cb410ff61f20015ad") }

abbrev de : Digest32
de = record { 0 = hex (codes "959a45d44e6fcf58361ed004681556fe50129f2109e817dec098c00c9e5d2578") }

abbrev nothing_digest : Digest32
nothing_digest = record { 0 = hex (codes "e3b0c44298fc1c149afbf4c8996fb92427ae41e4649b934ca495991b7852b855") }

abbrev archive : List ℕ
archive = codes "root.didx"

abbrev image : List ℕ
image = codes "disk.fidx"

-- the blob of abc, 15 bytes
abbrev abc_blob : List ℕ
abc_blob = hex (codes "42ab3807be8370a1 c2412435 616263")

abbrev piece : Digest32 → ℕ → AppendEntry
piece digest offset = record { digest = digest; offset = offset }

-- ---- commands

bye : frame (command_text Bye) ≡ hex (codes "01000000 3f")
unfolding wire_commands_on_literals
bye = refl

open_writer : frame (command_text (OpenWriter snapshot)) ≡ hex (codes "1d000000 0a 1b") ++ snapshot
unfolding wire_commands_on_literals
open_writer = refl

previous : frame (command_text (Previous archive 21)) ≡ hex (codes "13000000 0b 09") ++ archive ++ hex (codes "1500000000000000")
unfolding wire_commands_on_literals
previous = refl

new_fixed : frame (command_text (NewFixed image 4097 8192)) ≡ hex (codes "1b000000 0c 09") ++ image ++ hex (codes "0110000000000000 0020000000000000")
unfolding wire_commands_on_literals
new_fixed = refl

new_dynamic : frame (command_text (NewDynamic archive)) ≡ hex (codes "0b000000 0d 09") ++ archive
unfolding wire_commands_on_literals
new_dynamic = refl

chunk : frame (command_text (Chunk abc abc_blob)) ≡ hex (codes "30000000 0e ba7816bf8f01cfea414140de5dae2223b00361a396177a9cb410ff61f20015ad 42ab3807be8370a1 c2412435 616263")
unfolding wire_commands_on_literals
chunk = refl

append : frame (command_text (Append 0 (piece abc 0 ∷ piece de 3 ∷ []))) ≡ hex (codes "54000000 0f 00 0200 ba7816bf8f01cfea414140de5dae2223b00361a396177a9cb410ff61f20015ad 0000000000000000 959a45d44e6fcf58361ed004681556fe50129f2109e817dec098c00c9e5d2578 0300000000000000")
unfolding wire_commands_on_literals
append = refl

append_nothing : frame (command_text (Append 15 [])) ≡ hex (codes "04000000 0f 0f 0000")
unfolding wire_commands_on_literals
append_nothing = refl

close_index : frame (command_text (CloseIndex 0 0 0 nothing_digest)) ≡ hex (codes "32000000 10 00 0000000000000000 0000000000000000 e3b0c44298fc1c149afbf4c8996fb92427ae41e4649b934ca495991b7852b855")
unfolding wire_commands_on_literals
close_index = refl

upload : frame (command_text (Blob manifest manifest_blob)) ≡ hex (codes "67000000 11 0f") ++ manifest ++ manifest_blob
unfolding wire_commands_on_literals
upload = refl

finish : frame (command_text Finish) ≡ hex (codes "01000000 12")
unfolding wire_commands_on_literals
finish = refl

abort : frame (command_text Abort) ≡ hex (codes "01000000 13")
unfolding wire_commands_on_literals
abort = refl

close_reader : frame (command_text CloseReader) ≡ hex (codes "01000000 18")
unfolding wire_commands_on_literals
close_reader = refl

verify : frame (command_text (Verify snapshot)) ≡ hex (codes "1d000000 22 1b") ++ snapshot
unfolding wire_commands_on_literals
verify = refl

sync : frame (command_text (Sync (codes "host/a"))) ≡ hex (codes "08000000 23 06") ++ codes "host/a"
unfolding wire_commands_on_literals
sync = refl

collect : frame (command_text Gc) ≡ hex (codes "01000000 24")
unfolding wire_commands_on_literals
collect = refl

collect_read : command_of (hex (codes "24")) ≡ Some Gc
unfolding wire_commands_on_literals
collect_read = refl

-- GC has no fields
no_collect : command_of (hex (codes "24 00")) ≡ None
unfolding wire_commands_on_literals
no_collect = refl

open_reader : frame (command_text (OpenReader snapshot)) ≡ hex (codes "1d000000 14 1b") ++ snapshot
unfolding wire_commands_on_literals
open_reader = refl

download : frame (command_text (Download manifest 0)) ≡ hex (codes "19000000 15 0f") ++ manifest ++ hex (codes "0000000000000000")
unfolding wire_commands_on_literals
download = refl

get_chunk : frame (command_text (GetChunk abc)) ≡ hex (codes "21000000 16 ba7816bf8f01cfea414140de5dae2223b00361a396177a9cb410ff61f20015ad")
unfolding wire_commands_on_literals
get_chunk = refl

range : frame (command_text (Range archive 258 3)) ≡ hex (codes "17000000 17 09") ++ archive ++ hex (codes "0201000000000000 03000000")
unfolding wire_commands_on_literals
range = refl

previous_read : command_of (hex (codes "0b 0f") ++ manifest ++ hex (codes "0000000000000000")) ≡ Some (Previous manifest 0)
unfolding wire_commands_on_literals
previous_read = refl

new_fixed_read : command_of (hex (codes "0c 09") ++ image ++ hex (codes "0110000000000000 0020000000000000")) ≡ Some (NewFixed image 4097 8192)
unfolding wire_commands_on_literals
new_fixed_read = refl

get_chunk_read : command_of (hex (codes "16 ba7816bf8f01cfea414140de5dae2223b00361a396177a9cb410ff61f20015ad")) ≡ Some (GetChunk abc)
unfolding wire_commands_on_literals
get_chunk_read = refl

range_read : command_of (hex (codes "17 09") ++ archive ++ hex (codes "0201000000000000 03000000")) ≡ Some (Range archive 258 3)
unfolding wire_commands_on_literals
range_read = refl

download_read : command_of (hex (codes "15 0f") ++ manifest ++ hex (codes "1500000000000000")) ≡ Some (Download manifest 21)
unfolding wire_commands_on_literals
download_read = refl

upload_read : command_of (hex (codes "11 0f") ++ manifest ++ manifest_blob) ≡ Some (Blob manifest manifest_blob)
unfolding wire_commands_on_literals
upload_read = refl

chunk_read : command_of (hex (codes "0e ba7816bf8f01cfea414140de5dae2223b00361a396177a9cb410ff61f20015ad 42ab3807be8370a1 c2412435 616263")) ≡ Some (Chunk abc abc_blob)
unfolding wire_commands_on_literals
chunk_read = refl

append_read : command_of (hex (codes "0f 00 0200 ba7816bf8f01cfea414140de5dae2223b00361a396177a9cb410ff61f20015ad 0000000000000000 959a45d44e6fcf58361ed004681556fe50129f2109e817dec098c00c9e5d2578 0300000000000000")) ≡ Some (Append 0 (piece abc 0 ∷ piece de 3 ∷ []))
unfolding wire_commands_on_literals
append_read = refl

close_index_read : command_of (hex (codes "10 0f 0200000000000000 0500000000000000 e3b0c44298fc1c149afbf4c8996fb92427ae41e4649b934ca495991b7852b855")) ≡ Some (CloseIndex 15 2 5 nothing_digest)
unfolding wire_commands_on_literals
close_index_read = refl

-- an empty text, and nothing behind it
empty_upload : command_of (hex (codes "11 00")) ≡ Some (Blob [] [])
unfolding wire_commands_on_literals
empty_upload = refl

-- a byte too many, a byte too few, a text that is cut, an offset that is cut, no code, an unknown code
too_many : command_of (hex (codes "3f 00")) ≡ None
unfolding wire_commands_on_literals
too_many = refl

no_length : command_of (hex (codes "0a")) ≡ None
unfolding wire_commands_on_literals
no_length = refl

cut_text : command_of (hex (codes "0a 02 61")) ≡ None
unfolding wire_commands_on_literals
cut_text = refl

text_and_more : command_of (hex (codes "14 01 61 62")) ≡ None
unfolding wire_commands_on_literals
text_and_more = refl

cut_offset : command_of (hex (codes "15 01 61 00000000000000")) ≡ None
unfolding wire_commands_on_literals
cut_offset = refl

-- a digest that is cut, a count of more entries than there are, and of fewer, and a byte behind a checksum
cut_digest : command_of (hex (codes "0e ba7816bf8f01cfea414140de5dae2223b00361a396177a9cb410ff61f20015")) ≡ None
unfolding wire_commands_on_literals
cut_digest = refl

too_few_entries : command_of (hex (codes "0f 00 0200 ba7816bf8f01cfea414140de5dae2223b00361a396177a9cb410ff61f20015ad 0000000000000000")) ≡ None
unfolding wire_commands_on_literals
too_few_entries = refl

too_many_entries : command_of (hex (codes "0f 00 0000 ba7816bf8f01cfea414140de5dae2223b00361a396177a9cb410ff61f20015ad 0000000000000000")) ≡ None
unfolding wire_commands_on_literals
too_many_entries = refl

more_behind : command_of (hex (codes "10 00 0000000000000000 0000000000000000 e3b0c44298fc1c149afbf4c8996fb92427ae41e4649b934ca495991b7852b855 00")) ≡ None
unfolding wire_commands_on_literals
more_behind = refl

-- a length of eight bytes, a chunk size of four, and a digest with a byte behind it
long_length : command_of (hex (codes "17 01 61 0000000000000000 0000000000000000")) ≡ None
unfolding wire_commands_on_literals
long_length = refl

short_chunk_size : command_of (hex (codes "0c 01 61 0000000000000000 00100000")) ≡ None
unfolding wire_commands_on_literals
short_chunk_size = refl

digest_and_more : command_of (hex (codes "16 ba7816bf8f01cfea414140de5dae2223b00361a396177a9cb410ff61f20015ad 00")) ≡ None
unfolding wire_commands_on_literals
digest_and_more = refl

no_code : command_of [] ≡ None
unfolding wire_commands_on_literals
no_code = refl

unknown_code : command_of (hex (codes "63")) ≡ None
unfolding wire_commands_on_literals
unknown_code = refl

-- ---- inputs

no_input : front [] ≡ nothing
unfolding wire_commands_on_literals
no_input = refl

unknown : front (hex (codes "01000000 63")) ≡ no_command
unfolding wire_commands_on_literals
unknown = refl

empty_body : front (hex (codes "00000000")) ≡ no_command
unfolding wire_commands_on_literals
empty_body = refl

cut_frame : front (hex (codes "05000000 0a")) ≡ no_command
unfolding wire_commands_on_literals
cut_frame = refl

cut_length : front (hex (codes "010000")) ≡ no_command
unfolding wire_commands_on_literals
cut_length = refl

long : front (hex (codes "01040001")) ≡ over_limit 16_778_241
unfolding wire_commands_on_literals
long = refl

-- the longest body is waited for
longest : front (hex (codes "00040001")) ≡ no_command
unfolding wire_commands_on_literals
longest = refl

session : frames (hex (codes "1d000000 0a 1b") ++ snapshot ++ hex (codes "01000000 12 01000000 3f 01000000 12")) ≡ OpenWriter snapshot ∷ Finish ∷ Bye ∷ []
unfolding wire_commands_on_literals
session = refl

broken_session : frames (hex (codes "01000000 12 01000000 63 01000000 12")) ≡ Finish ∷ []
unfolding wire_commands_on_literals
broken_session = refl

-- ---- replies

done : frame (reply_text Done) ≡ hex (codes "01000000 00")
unfolding wire_commands_on_literals
done = refl

no_base : frame (reply_text (Base [])) ≡ hex (codes "02000000 0000")
unfolding wire_commands_on_literals
no_base = refl

a_base : frame (reply_text (Base snapshot)) ≡ hex (codes "1d000000 00 1b") ++ snapshot
unfolding wire_commands_on_literals
a_base = refl

a_number : frame (reply_text (Number 0)) ≡ hex (codes "02000000 0000")
unfolding wire_commands_on_literals
a_number = refl

a_part : frame (reply_text (Part 21 digits_blob)) ≡ hex (codes "1e000000 00 1500000000000000") ++ digits_blob
unfolding wire_commands_on_literals
a_part = refl

manifest_part : frame (reply_text (Part 86 manifest_blob)) ≡ hex (codes "5f000000 00 5600000000000000") ++ manifest_blob
unfolding wire_commands_on_literals
manifest_part = refl

empty_part : frame (reply_text (Part 21 [])) ≡ hex (codes "09000000 00 1500000000000000")
unfolding wire_commands_on_literals
empty_part = refl

piece_given : frame (reply_text (Data abc_blob)) ≡ hex (codes "10000000 00 42ab3807be8370a1 c2412435 616263")
unfolding wire_commands_on_literals
piece_given = refl

nothing_given : frame (reply_text (Data [])) ≡ hex (codes "01000000 00")
unfolding wire_commands_on_literals
nothing_given = refl

bad_range : frame (reply_text (Refused (BadRange 21))) ≡ hex (codes "09000000 16 1500000000000000")
unfolding wire_commands_on_literals
bad_range = refl

bad_frame : frame (reply_text (Refused (BadFrame 0))) ≡ hex (codes "09000000 01 0000000000000000")
unfolding wire_commands_on_literals
bad_frame = refl

long_reply : frame (reply_text (Refused (TooLong 16_778_241))) ≡ hex (codes "05000000 02 01040001")
unfolding wire_commands_on_literals
long_reply = refl

no_session : frame (reply_text (Refused (WrongState Idle))) ≡ hex (codes "02000000 03 00")
unfolding wire_commands_on_literals
no_session = refl

base_read : reply_of 10 (hex (codes "00 1b") ++ snapshot) ≡ Some (Base snapshot)
unfolding wire_commands_on_literals
base_read = refl

number_read : reply_of 13 (hex (codes "00 0f")) ≡ Some (Number 15)
unfolding wire_commands_on_literals
number_read = refl

part_read : reply_of 21 (hex (codes "00 1500000000000000") ++ digits_blob) ≡ Some (Part 21 digits_blob)
unfolding wire_commands_on_literals
part_read = refl

previous_part_read : reply_of 11 (hex (codes "00 1500000000000000") ++ digits_blob) ≡ Some (Part 21 digits_blob)
unfolding wire_commands_on_literals
previous_part_read = refl

fixed_number_read : reply_of 12 (hex (codes "00 0f")) ≡ Some (Number 15)
unfolding wire_commands_on_literals
fixed_number_read = refl

chunk_data_read : reply_of 22 (hex (codes "00") ++ abc_blob) ≡ Some (Data abc_blob)
unfolding wire_commands_on_literals
chunk_data_read = refl

range_data_read : reply_of 23 (hex (codes "00")) ≡ Some (Data [])
unfolding wire_commands_on_literals
range_data_read = refl

-- a form of another command, a code of no command, and a refusal under it
other_form : reply_of 18 (hex (codes "0000")) ≡ None
unfolding wire_commands_on_literals
other_form = refl

no_such_code : reply_of 99 (hex (codes "00")) ≡ None
unfolding wire_commands_on_literals
no_such_code = refl

refused_anywhere : reply_of 99 (hex (codes "04")) ≡ Some (Refused BadName)
unfolding wire_commands_on_literals
refused_anywhere = refl

damaged_with_files : reply_of 30 (hex (codes "00 0100 0161 01 05")) ≡ None
unfolding wire_commands_on_literals
damaged_with_files = refl

-- what VERIFY, SYNC and GC reply
abbrev fault : List ℕ → FileFault → FaultRow
fault file what = record { file = file; fault = what }

all_well : frame (reply_text (Verified 2 2 5 [])) ≡ hex (codes "13000000 00 02 0200000000000000 0500000000000000 00")
unfolding wire_commands_on_literals
all_well = refl

all_well_read : reply_of 34 (hex (codes "00 02 0200000000000000 0500000000000000 00")) ≡ Some (Verified 2 2 5 [])
unfolding wire_commands_on_literals
all_well_read = refl

a_damaged_chunk : reply_text (Verified 2 2 5 (fault archive (file_faults.Damaged abc) ∷ []))
    ≡ hex (codes "00 02 0200000000000000 0500000000000000 01 09") ++ archive ++ hex (codes "17 ba7816bf8f01cfea414140de5dae2223b00361a396177a9cb410ff61f20015ad")
unfolding wire_commands_on_literals
a_damaged_chunk = refl

faults_read : reply_of 34 (hex (codes "00 03 0000000000000000 0000000000000000 02 01 61 13 0000000000000000000000000000000000000000000000000000000000000000 01 62 18 0000000000000000000000000000000000000000000000000000000000000000"))
    ≡ Some (Verified 3 0 0 (fault (codes "a") file_faults.Differs ∷ fault (codes "b") file_faults.Unreadable ∷ []))
unfolding wire_commands_on_literals
faults_read = refl

-- a file that differs has no digest
no_fault_digest : reply_of 34 (hex (codes "00 03 0000000000000000 0000000000000000 01 01 61 13 ba7816bf8f01cfea414140de5dae2223b00361a396177a9cb410ff61f20015ad")) ≡ None
unfolding wire_commands_on_literals
no_fault_digest = refl

pulled : frame (reply_text (Keys (snapshot ∷ []))) ≡ hex (codes "1f000000 00 0100 1b") ++ snapshot
unfolding wire_commands_on_literals
pulled = refl

pulled_read : reply_of 35 (hex (codes "00 0100 1b") ++ snapshot) ≡ Some (Keys (snapshot ∷ []))
unfolding wire_commands_on_literals
pulled_read = refl

-- started at 1,000,000, cutoff 913,300, two chunks used
a_collection : frame (reply_text (Collected 1_000_000 913_300 2 0 0))
    ≡ hex (codes "29000000 00 40420f0000000000 94ef0d0000000000 0200000000000000 0000000000000000 0000000000000000")
unfolding wire_commands_on_literals
a_collection = refl

a_collection_read : reply_of 36 (hex (codes "00 e0c8100000000000 34760f0000000000 0000000000000000 0000000000000000 0200000000000000"))
    ≡ Some (Collected 1_100_000 1_013_300 0 0 2)
unfolding wire_commands_on_literals
a_collection_read = refl

-- ---- refusals, spelled and read

-- The refusal has this text, which is read as it under any code.
abbrev IsSpelled : Refusal → List ℕ → Type 0
IsSpelled r bytes = (reply_text (Refused r) ≡ bytes) × (reply_of 10 bytes ≡ Some (Refused r))

r1 : IsSpelled (BadFrame 97) (hex (codes "01 6100000000000000"))
unfolding wire_commands_on_literals
r1 = (refl, refl)

r2 : IsSpelled (TooLong 4_294_967_295) (hex (codes "02 ffffffff"))
unfolding wire_commands_on_literals
r2 = (refl, refl)

r3_idle : IsSpelled (WrongState Idle) (hex (codes "03 00"))
unfolding wire_commands_on_literals
r3_idle = (refl, refl)

r3_writer : IsSpelled (WrongState Writer) (hex (codes "03 01"))
unfolding wire_commands_on_literals
r3_writer = (refl, refl)

r3_reader : IsSpelled (WrongState Reader) (hex (codes "03 02"))
unfolding wire_commands_on_literals
r3_reader = (refl, refl)

r4 : IsSpelled BadName (hex (codes "04"))
unfolding wire_commands_on_literals
r4 = (refl, refl)

r5 : IsSpelled (GroupBusy 3) (hex (codes "05 03000000"))
unfolding wire_commands_on_literals
r5 = (refl, refl)

r6 : IsSpelled (SnapshotBusy 258) (hex (codes "06 02010000"))
unfolding wire_commands_on_literals
r6 = (refl, refl)

r7 : IsSpelled (NotNewer 1_579_069_803) (hex (codes "07 6bb11e5e00000000"))
unfolding wire_commands_on_literals
r7 = (refl, refl)

r8 : IsSpelled NoSnapshot (hex (codes "08"))
unfolding wire_commands_on_literals
r8 = (refl, refl)

r9 : IsSpelled NoFile (hex (codes "09"))
unfolding wire_commands_on_literals
r9 = (refl, refl)

r10 : IsSpelled Exists (hex (codes "0a"))
unfolding wire_commands_on_literals
r10 = (refl, refl)

r11_1 : IsSpelled (BadBlob blobs.Short) (hex (codes "0b 01"))
unfolding wire_commands_on_literals
r11_1 = (refl, refl)

r11_2 : IsSpelled (BadBlob blobs.Compressed) (hex (codes "0b 02"))
unfolding wire_commands_on_literals
r11_2 = (refl, refl)

r11_3 : IsSpelled (BadBlob blobs.Encrypted) (hex (codes "0b 03"))
unfolding wire_commands_on_literals
r11_3 = (refl, refl)

r11_4 : IsSpelled (BadBlob blobs.EncryptedCompressed) (hex (codes "0b 04"))
unfolding wire_commands_on_literals
r11_4 = (refl, refl)

r11_5 : IsSpelled (BadBlob blobs.UnknownMagic) (hex (codes "0b 05"))
unfolding wire_commands_on_literals
r11_5 = (refl, refl)

r11_6 : IsSpelled (BadBlob blobs.TooLong) (hex (codes "0b 06"))
unfolding wire_commands_on_literals
r11_6 = (refl, refl)

r11_7 : IsSpelled (BadBlob (blobs.WrongCrc 0xcbf43927 0xcbf43926)) (hex (codes "0b 07 2739f4cb 2639f4cb"))
unfolding wire_commands_on_literals
r11_7 = (refl, refl)

r12 : IsSpelled (WrongDigest abc) (hex (codes "0c ba7816bf8f01cfea414140de5dae2223b00361a396177a9cb410ff61f20015ad"))
unfolding wire_commands_on_literals
r12 = (refl, refl)

r13 : IsSpelled (WrongSize 1 5000) (hex (codes "0d 01000000 8813000000000000"))
unfolding wire_commands_on_literals
r13 = (refl, refl)

r14 : IsSpelled (UnknownChunk 0) (hex (codes "0e 00000000"))
unfolding wire_commands_on_literals
r14 = (refl, refl)

r15 : IsSpelled (BadOffset 1 3) (hex (codes "0f 01000000 0300000000000000"))
unfolding wire_commands_on_literals
r15 = (refl, refl)

r16_1 : IsSpelled (BadClose (Count 0)) (hex (codes "10 01 0000000000000000000000000000000000000000000000000000000000000000"))
unfolding wire_commands_on_literals
r16_1 = (refl, refl)

r16_2 : IsSpelled (BadClose (Size 4097)) (hex (codes "10 02 0110000000000000 000000000000000000000000000000000000000000000000"))
unfolding wire_commands_on_literals
r16_2 = (refl, refl)

r16_3 : IsSpelled (BadClose (Csum nothing_digest)) (hex (codes "10 03 e3b0c44298fc1c149afbf4c8996fb92427ae41e4649b934ca495991b7852b855"))
unfolding wire_commands_on_literals
r16_3 = (refl, refl)

r16_4 : IsSpelled (BadClose (Rest 5)) (hex (codes "10 04 0500000000000000 000000000000000000000000000000000000000000000000"))
unfolding wire_commands_on_literals
r16_4 = (refl, refl)

r17 : IsSpelled (OpenIndexes 1) (hex (codes "11 01"))
unfolding wire_commands_on_literals
r17 = (refl, refl)

r18_1 : IsSpelled (BadManifest 1) (hex (codes "12 01"))
unfolding wire_commands_on_literals
r18_1 = (refl, refl)

r18_2 : IsSpelled (BadManifest 2) (hex (codes "12 02"))
unfolding wire_commands_on_literals
r18_2 = (refl, refl)

r18_3 : IsSpelled (BadManifest 3) (hex (codes "12 03"))
unfolding wire_commands_on_literals
r18_3 = (refl, refl)

r18_4 : IsSpelled (BadManifest 4) (hex (codes "12 04"))
unfolding wire_commands_on_literals
r18_4 = (refl, refl)

r18_5 : IsSpelled (BadManifest 5) (hex (codes "12 05"))
unfolding wire_commands_on_literals
r18_5 = (refl, refl)

r19_1 : IsSpelled (ManifestMismatch [] 1) (hex (codes "13 00 01"))
unfolding wire_commands_on_literals
r19_1 = (refl, refl)

r19_2 : IsSpelled (ManifestMismatch [] 2) (hex (codes "13 00 02"))
unfolding wire_commands_on_literals
r19_2 = (refl, refl)

r19_3 : IsSpelled (ManifestMismatch [] 3) (hex (codes "13 00 03"))
unfolding wire_commands_on_literals
r19_3 = (refl, refl)

r19_4 : IsSpelled (ManifestMismatch (codes "root.didx") 4) (hex (codes "13 09") ++ codes "root.didx" ++ hex (codes "04"))
unfolding wire_commands_on_literals
r19_4 = (refl, refl)

r19_5 : IsSpelled (ManifestMismatch (codes "root.didx") 5) (hex (codes "13 09") ++ codes "root.didx" ++ hex (codes "05"))
unfolding wire_commands_on_literals
r19_5 = (refl, refl)

r19_6 : IsSpelled (ManifestMismatch (codes "root.didx") 6) (hex (codes "13 09") ++ codes "root.didx" ++ hex (codes "06"))
unfolding wire_commands_on_literals
r19_6 = (refl, refl)

r19_7 : IsSpelled (ManifestMismatch (codes "root.didx") 7) (hex (codes "13 09") ++ codes "root.didx" ++ hex (codes "07"))
unfolding wire_commands_on_literals
r19_7 = (refl, refl)

r20 : IsSpelled NotAllowed (hex (codes "14"))
unfolding wire_commands_on_literals
r20 = (refl, refl)

r21 : IsSpelled (TooMany 4096) (hex (codes "15 00100000"))
unfolding wire_commands_on_literals
r21 = (refl, refl)

r22 : IsSpelled (BadRange 21) (hex (codes "16 1500000000000000"))
unfolding wire_commands_on_literals
r22 = (refl, refl)

r23_0 : IsSpelled (Damaged abc Nothing) (hex (codes "17 ba7816bf8f01cfea414140de5dae2223b00361a396177a9cb410ff61f20015ad 00 0000000000000000000000000000000000000000000000000000000000000000"))
unfolding wire_commands_on_literals
r23_0 = (refl, refl)

r23_1 : IsSpelled (Damaged abc NotABlob) (hex (codes "17 ba7816bf8f01cfea414140de5dae2223b00361a396177a9cb410ff61f20015ad 01 0000000000000000000000000000000000000000000000000000000000000000"))
unfolding wire_commands_on_literals
r23_1 = (refl, refl)

r23_2 : IsSpelled (Damaged abc (Other nothing_digest)) (hex (codes "17 ba7816bf8f01cfea414140de5dae2223b00361a396177a9cb410ff61f20015ad 02 e3b0c44298fc1c149afbf4c8996fb92427ae41e4649b934ca495991b7852b855"))
unfolding wire_commands_on_literals
r23_2 = (refl, refl)

r24 : IsSpelled (Unreadable (codes "host/a/2020-01-15T06:30:03Z/root.didx")) (hex (codes "18 25") ++ codes "host/a/2020-01-15T06:30:03Z/root.didx")
unfolding wire_commands_on_literals
r24 = (refl, refl)

r25 : IsSpelled (CollectorBusy 63) (hex (codes "19 3f000000"))
unfolding wire_commands_on_literals
r25 = (refl, refl)

r26 : IsSpelled DiskFault (hex (codes "1a"))
unfolding wire_commands_on_literals
r26 = (refl, refl)

r27 : IsSpelled (Halted 7) (hex (codes "1b 0700000000000000"))
unfolding wire_commands_on_literals
r27 = (refl, refl)

r28 : IsSpelled NoMemory (hex (codes "1c"))
unfolding wire_commands_on_literals
r28 = (refl, refl)

r29 : IsSpelled NoRemote (hex (codes "1d"))
unfolding wire_commands_on_literals
r29 = (refl, refl)

r30 : IsSpelled RemoteFault (hex (codes "1e"))
unfolding wire_commands_on_literals
r30 = (refl, refl)

-- ---- bodies that are no refusals

abbrev IsNone : List ℕ → Type 0
IsNone bytes = reply_of 10 bytes ≡ None

no_31 : IsNone (hex (codes "1f"))
unfolding wire_commands_on_literals
no_31 = refl

no_255 : IsNone (hex (codes "ff"))
unfolding wire_commands_on_literals
no_255 = refl

no_more_fields : IsNone (hex (codes "04 00"))
unfolding wire_commands_on_literals
no_more_fields = refl

no_field : IsNone (hex (codes "01"))
unfolding wire_commands_on_literals
no_field = refl

no_fourth_state : IsNone (hex (codes "03 03"))
unfolding wire_commands_on_literals
no_fourth_state = refl

no_cause_0 : IsNone (hex (codes "0b 00"))
unfolding wire_commands_on_literals
no_cause_0 = refl

no_cause_8 : IsNone (hex (codes "0b 08"))
unfolding wire_commands_on_literals
no_cause_8 = refl

no_found_crc : IsNone (hex (codes "0b 07 2739f4cb"))
unfolding wire_commands_on_literals
no_found_crc = refl

no_close_field_0 : IsNone (hex (codes "10 00 0000000000000000000000000000000000000000000000000000000000000000"))
unfolding wire_commands_on_literals
no_close_field_0 = refl

no_close_field_5 : IsNone (hex (codes "10 05 0000000000000000000000000000000000000000000000000000000000000000"))
unfolding wire_commands_on_literals
no_close_field_5 = refl

no_wide_number : IsNone (hex (codes "10 01 0500000000000000 000000000000000000000000000000000000000000000001"))
unfolding wire_commands_on_literals
no_wide_number = refl

no_manifest_cause_0 : IsNone (hex (codes "12 00"))
unfolding wire_commands_on_literals
no_manifest_cause_0 = refl

no_manifest_cause_6 : IsNone (hex (codes "12 06"))
unfolding wire_commands_on_literals
no_manifest_cause_6 = refl

no_mismatch_0 : IsNone (hex (codes "13 00 00"))
unfolding wire_commands_on_literals
no_mismatch_0 = refl

no_mismatch_8 : IsNone (hex (codes "13 01 61 08"))
unfolding wire_commands_on_literals
no_mismatch_8 = refl

no_file_of_the_key : IsNone (hex (codes "13 01 61 03"))
unfolding wire_commands_on_literals
no_file_of_the_key = refl

no_file_named : IsNone (hex (codes "13 00 04"))
unfolding wire_commands_on_literals
no_file_named = refl

no_third_chunk_fault : IsNone (hex (codes "17 ba7816bf8f01cfea414140de5dae2223b00361a396177a9cb410ff61f20015ad 03 0000000000000000000000000000000000000000000000000000000000000000"))
unfolding wire_commands_on_literals
no_third_chunk_fault = refl

no_digest_found : IsNone (hex (codes "17 ba7816bf8f01cfea414140de5dae2223b00361a396177a9cb410ff61f20015ad 00 e3b0c44298fc1c149afbf4c8996fb92427ae41e4649b934ca495991b7852b855"))
unfolding wire_commands_on_literals
no_digest_found = refl
