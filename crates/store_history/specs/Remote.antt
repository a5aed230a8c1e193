-- What the remote's snapshots tell a read of the remote.
use Rattle.std.specs.Prelude.{IsTrue, ◌≡◌, ◌≤◌, ℕ, List, length, nat_le, if◌then◌else◌, Option, Some, None, option_map, IfSome, IsSome, Result, Ok}
use Rattle.std.specs.List.{All, flat_map}
use Rattle.store_types.specs.declared.names.Digest32.{Digest32}
use Rattle.store_types.specs.declared.names.GroupKey.{GroupKey}
use Rattle.store_types.specs.declared.names.SnapshotKey.{SnapshotKey}
use Rattle.store_types.specs.declared.refusal.Refusal.{Refusal}
use Rattle.store_types.specs.declared.refusal.Refusal.TheVariants.{BadRange, NoRemote}
use Rattle.store_types.specs.Chain.Refusing.{◌>>=◌, or_else}
use Rattle.store_types.specs.Names.{key_of, group_of}
use Rattle.blob_codec.specs.Blob as blobs
use Rattle.store_files.specs.Archive.{Snapshot, file_named, file_text, piece_with}
use Rattle.wire_commands.specs.declared.command.Command.TheVariants.{Sync}
use Rattle.wire_commands.specs.declared.reply.Reply.{Reply}
use Rattle.wire_commands.specs.declared.reply.Reply.TheVariants.{Keys, Data, Refused}
use Rattle.store_model.specs.AdminSteps.{group_texts}
use Rattle.store_model.specs.Clash.{NoClash}
use Rattle.store_model.specs.Stands.{IsSnapshot, group_limit, keys_rise, pieces_in}
use Rattle.store_model.specs.Store.{Store, in_group, snapshot_named}
use Rattle.store_model.specs.SyncJob.{to_pull}
use Rattle.store_model.specs.WriterSteps.{part_of}
use Rattle.store_history.specs.declared.act.Act.{Act}
use Rattle.store_history.specs.declared.act.Act.TheVariants as acts

-- ---- the remote's list

-- it is one that a disk can stand for
pub record IsList (snapshots : List Snapshot) : Type 0 where
  pub order : IsTrue (keys_rise snapshots)
  pub each : All IsSnapshot snapshots
  pub groups : (group : GroupKey) → length (in_group group snapshots) ≤ group_limit
  pub clear : NoClash (flat_map pieces_in snapshots)

-- where there is a remote
abbrev pub IsRemote : Option (List Snapshot) → Type 0
IsRemote None = Unit {0}
IsRemote (Some snapshots) = IsList snapshots

-- ---- what it has

abbrev pub snapshot_in : List Snapshot → Option SnapshotKey → Option Snapshot
snapshot_in snapshots None = None
snapshot_in snapshots (Some key) = snapshot_named key snapshots

abbrev pub text_named : List ℕ → Option Snapshot → Option (List ℕ)
text_named name None = None
text_named name (Some x) = option_map (λ f. file_text f.content) (file_named name x.files)

-- the text of the file of this name, of the snapshot with this text
unfoldable pub text_in : List Snapshot → List ℕ → List ℕ → Option (List ℕ)
text_in snapshots text name = text_named name (snapshot_in snapshots (key_of text))

-- the piece with this digest
abbrev pub piece_in : List Snapshot → Digest32 → Option (List ℕ)
piece_in snapshots digest = piece_with digest (flat_map pieces_in snapshots)

-- ---- what is answered

-- a part of a file, or the refusal of its offset
abbrev pub part_told : List ℕ → ℕ → Reply
part_told text offset = if nat_le offset (length text) then part_of text offset else Refused (BadRange (length text))

-- All snapshots of the group; a part of a file, and the blob of a piece, where the remote has it. Of what it doesn't have nothing is said here.
abbrev pub Reads : List Snapshot → Act → Option Reply → Type 0
Reads snapshots (acts.RemoteList (Sync group)) r = IfSome (group_of group) (λ g. r ≡ Some (Keys (group_texts g snapshots)))
Reads snapshots (acts.RemoteFile text name offset) r =
    IsSome r × IfSome (text_in snapshots text name) (λ bytes. r ≡ Some (part_told bytes offset))
Reads snapshots (acts.RemoteChunk digest) r =
    IsSome r × IfSome (piece_in snapshots digest) (λ piece. r ≡ Some (Data (blobs.blob piece)))
Reads snapshots a r = Unit {0}

-- where there is a remote
abbrev pub ReadsIn : Option (List Snapshot) → Act → Option Reply → Type 0
ReadsIn None a r = Unit {0}
ReadsIn (Some snapshots) a r = Reads snapshots a r

-- ---- whether it may be read

-- A SYNC may begin on the lane, and there is a remote to be read; or what refuses it.
abbrev pub may_read : Option (List Snapshot) → Store → ℕ → Act → Result (Unit {0}) Refusal
may_read remote s k (acts.RemoteList (Sync group)) = to_pull remote s k group >>= λ snapshots. Ok tt
may_read remote s k a = or_else NoRemote remote >>= λ snapshots. Ok tt
