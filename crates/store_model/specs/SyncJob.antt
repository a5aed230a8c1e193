-- SYNC: pulls the remote's snapshots of a group that are later than the newest here, the oldest first.
use Rattle.std.specs.Prelude.{ℕ, zero, suc, ◌+◌, Bool, true, List, [], ◌∷◌, ◌++◌, map, filter, length, take, drop, nat_lt, if◌then◌else◌, Option, Some, None, Result, Ok}
use Rattle.std.specs.List.{list_any, filter_map, last_or}
use Rattle.std.specs.Str.{bytes_eq}
use Rattle.sha2.specs.Sha256.{sha256}
use Rattle.store_types.specs.declared.append.AppendEntry.{AppendEntry}
use Rattle.store_types.specs.declared.names.SnapshotKey.{SnapshotKey}
use Rattle.store_types.specs.declared.refusal.Refusal.{Refusal}
use Rattle.store_types.specs.declared.refusal.Refusal.TheVariants.{NoRemote}
use Rattle.store_types.specs.Chain.Refusing.{◌>>=◌, or_else}
use Rattle.store_types.specs.FileNames.{manifest_name}
use Rattle.store_types.specs.Names.{key_text}
use Rattle.blob_codec.specs.Blob as blobs
use Rattle.store_files.specs.Archive.{Layout, dynamic, fixed, Archive, Content, archive, blob, File, Snapshot, digest_of, pieces_of, file_named, file_text, size_of, csum_of}
use Rattle.wire_commands.specs.declared.command.Command.{Command}
use Rattle.wire_commands.specs.declared.command.Command.TheVariants.{NewFixed, NewDynamic, Chunk, Append, CloseIndex, Blob, Finish}
use Rattle.wire_commands.specs.declared.reply.Reply.{Reply}
use Rattle.wire_commands.specs.declared.reply.Reply.TheVariants.{Base, Keys, Refused}
use Rattle.store_model.specs.AdminSteps.{facts_in}
use Rattle.store_model.specs.Job.{Pull, beginning, sending, aborting, Job, over, asking, stopped}
use Rattle.store_model.specs.Stands.{group_limit}
use Rattle.store_model.specs.Store.{Store, in_group, keys_in}
use Rattle.store_model.specs.Heads.{idle_group}

-- ---- which snapshots are pulled

abbrev pub is_later : Option SnapshotKey → Snapshot → Bool
is_later None x = true
is_later (Some newest) x = nat_lt newest.time (x.key).time

-- those of the remote's group that are later than the last that GROUP tells of it here
unfoldable pub to_pull : Option (List Snapshot) → Store → ℕ → List ℕ → Result (List Snapshot) Refusal
to_pull remote s lane text = do
  g ← idle_group s lane text
  snapshots ← or_else NoRemote remote
  Ok (filter (is_later (last_or None (take group_limit (keys_in g s.snapshots)))) (in_group g snapshots))

-- ---- the commands of a file

abbrev pub has_digest_of : List ℕ → List ℕ → Bool
has_digest_of p q = bytes_eq (sha256 q) (sha256 p)

-- the pieces at the first use of their digests, beside those that were sent
abbrev pub unsent : List (List ℕ) → List (List ℕ) → List (List ℕ)
unsent sent [] = []
unsent sent (p ∷ ps) = if list_any (has_digest_of p) sent then unsent sent ps else p ∷ unsent (p ∷ sent) ps

-- each piece begins where the one before it ends
abbrev pub entries_from : ℕ → List (List ℕ) → List AppendEntry
entries_from start [] = []
entries_from start (p ∷ ps) = record { digest = digest_of p; offset = start } ∷ entries_from (start + length p) ps

-- at most n APPENDs of up to 4,096 entries each
unfoldable pub appends : ℕ → List AppendEntry → List Command
appends zero entries = []
appends (suc n) [] = []
appends (suc n) (e ∷ es) = Append 0 (take 4096 (e ∷ es)) ∷ appends n (drop 4096 (e ∷ es))

abbrev pub new_index : Layout → List ℕ → Command
new_index dynamic name = NewDynamic name
new_index (fixed size chunk_size) name = NewFixed name size chunk_size

-- the writer has no other open index, so this one's number is 0
abbrev pub archive_commands : List (List ℕ) → List ℕ → Archive → List Command
archive_commands sent name a =
    new_index a.layout name ∷ map (λ p. Chunk (digest_of p) (blobs.blob p)) (unsent sent a.pieces)
    ++ appends (length a.pieces) (entries_from 0 a.pieces)
    ++ CloseIndex 0 (length a.pieces) (size_of (archive a)) (csum_of (archive a)) ∷ []

-- of a file, where these pieces were sent for the snapshot before
unfoldable pub file_commands : List (List ℕ) → List ℕ → Content → List Command
file_commands sent name (archive a) = archive_commands sent name a
file_commands sent name (blob bytes) = Blob name (blobs.blob bytes) ∷ []

unfoldable pub uploads : List (List ℕ) → List File → List Command
uploads sent [] = []
uploads sent (f ∷ fs) = file_commands sent f.name f.content ++ uploads (pieces_of f.content ++ sent) fs

-- ---- the commands of a snapshot

-- the files that its manifest lists, in the manifest's order
abbrev pub listed_files : Snapshot → List File
listed_files x = filter_map (λ fact. file_named fact.name x.files) (facts_in x.files)

abbrev pub text_of : Option File → List ℕ
text_of None = []
text_of (Some f) = file_text f.content

-- behind OPEN_WRITER: the files, then the manifest and FINISH
unfoldable pub commands_of : Snapshot → List Command
commands_of x = uploads [] (listed_files x) ++ Blob manifest_name (text_of (file_named manifest_name x.files)) ∷ Finish ∷ []

-- ---- from snapshot to snapshot

unfoldable pub next_snapshot : List (List ℕ) → List Snapshot → Job
next_snapshot pulled [] = over (Keys pulled)
next_snapshot pulled (x ∷ xs) = asking (beginning (record { snapshot = x; later = xs; pulled = pulled }))

-- the snapshot is pulled where none is left of its commands
unfoldable pub next_command : Pull → List Command → Job
next_command p [] = next_snapshot (p.pulled ++ key_text (p.snapshot).key ∷ []) p.later
next_command p (c ∷ cs) = asking (sending p c cs)

-- ---- the replies

unfoldable pub begun : Pull → Reply → Job
begun p (Base snapshot) = next_command p (commands_of p.snapshot)
begun p reply = over reply

unfoldable pub replied : Pull → List Command → Reply → Job
replied p later (Refused refusal) = stopped aborting refusal
replied p later reply = next_command p later
