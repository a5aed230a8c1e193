-- The sessions: the commands of each lane, and their bytes.
use Rattle.std.specs.Prelude.{◌≡◌, ℕ, ◌==◌, false, if◌then◌else◌, List, [], ◌∷◌, ◌++◌, Result, OnOk}
use Rattle.std.specs.List.{flat_map, range_with_len}
use Rattle.store_types.specs.declared.names.Digest32.{Digest32}
use Rattle.store_types.specs.declared.names.Keep.{Keep}
use Rattle.store_types.specs.FileNames.{manifest_name}
use Rattle.store_files.specs.Archive.{digest_of}
use Rattle.blob_codec.specs.Blob.{blob}
use Rattle.wire_frames.specs.Frames.{frame}
use Rattle.wire_commands.specs.CommandText.{command_text}
use Rattle.wire_commands.specs.declared.command.Command.{Command}
use Rattle.wire_commands.specs.declared.command.Command.TheVariants.{OpenWriter, Previous, NewDynamic, Chunk, Append, CloseIndex, Blob, Finish, Forget, Prune, Verify, Gc, Bye}
use Rattle.generator.specs.Pieces.{piece_at, pieces, is_sent}
use Rattle.generator.specs.Archives.{begins_from, size_of, csum_of}
use Rattle.generator.specs.Manifests.{group_of, snapshot_of, archive_name, manifest_text}

-- lane 0 collects four times
abbrev pub collections : List Command
collections = Gc ∷ Gc ∷ Gc ∷ Gc ∷ Bye ∷ []

-- behind the first snapshot the pieces of the base may be named
abbrev pub previous : ℕ → List Command
previous j = if j == 0 then [] else Previous archive_name 0 ∷ []

-- the writer is opened, and its archive begun
abbrev pub opening : ℕ → ℕ → List Command
opening k j = OpenWriter (snapshot_of k j) ∷ previous j ++ NewDynamic archive_name ∷ []

-- an upload of a piece
abbrev pub chunk_of : List ℕ → Command
chunk_of p = Chunk (digest_of p) (blob p)

-- of piece i of snapshot j of lane k, where it is sent
abbrev pub chunk_at : ℕ → ℕ → ℕ → List Command
chunk_at k j i = if is_sent j i then chunk_of (piece_at k j i) ∷ [] else []

-- of the first n pieces
unfoldable pub first_chunks : ℕ → ℕ → ℕ → List Command
first_chunks k j n = flat_map (chunk_at k j) (range_with_len 0 n)

abbrev pub chunks : ℕ → ℕ → List Command
chunks k j = first_chunks k j 64

-- the pieces become the archive's
abbrev pub append : ℕ → ℕ → Command
append k j = Append 0 (begins_from 0 (pieces k j))

-- the archive is completed
abbrev pub close : ℕ → ℕ → Command
close k j = CloseIndex 0 64 (size_of (pieces k j)) (csum_of (pieces k j))

-- a manifest that lists an archive with this checksum and this size
abbrev pub manifest_sent : ℕ → ℕ → Digest32 → ℕ → Command
manifest_sent k j csum size = Blob manifest_name (blob (manifest_text k j csum size))

abbrev pub closing : ℕ → ℕ → List Command
closing k j = append k j ∷ close k j ∷ manifest_sent k j (csum_of (pieces k j)) (size_of (pieces k j)) ∷ Finish ∷ []

-- snapshot j of lane k
unfoldable pub backup : ℕ → ℕ → List Command
backup k j = opening k j ++ chunks k j ++ closing k j

-- the first n snapshots of lane k
unfoldable pub first_backups : ℕ → ℕ → List Command
first_backups k n = flat_map (backup k) (range_with_len 0 n)

abbrev pub backups : ℕ → List Command
backups k = first_backups k 4

-- the two newest are kept
abbrev pub two_last : Keep
two_last = record { last = 2; hourly = 0; daily = 0; weekly = 0; monthly = 0; yearly = 0 }

-- the last snapshot is verified, the first forgotten, and one of the three that are left pruned
abbrev pub upkeep : ℕ → List Command
upkeep k = Verify (snapshot_of k 3) ∷ Forget (snapshot_of k 0) ∷ Prune (group_of k) two_last false ∷ Bye ∷ []

-- all that lane k sends
unfoldable pub session_of : ℕ → List Command
session_of k = if k == 0 then collections else backups k ++ upkeep k

-- a command as it is sent
abbrev pub framed : Command → List ℕ
framed c = frame (command_text c)

unfoldable pub input_of : List Command → List ℕ
input_of commands = flat_map framed commands

-- the input of lane k
abbrev pub generated : ℕ → List ℕ
generated k = input_of (session_of k)

-- where it succeeds a call has put these commands behind an input
abbrev pub Puts : {A E : Type 0} → List ℕ → List ℕ → List Command → Result A E → Type 0
Puts old new commands result = OnOk result (new ≡ old ++ input_of commands)
