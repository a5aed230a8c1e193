-- The fields of a manifest, in the parts in which they are read.
use Rattle.std.specs.Prelude.{ℕ, List, length, ◌==◌, nat_le, Option, Some, codes}
use Rattle.std.specs.Result.{result_ok}
use Rattle.hex.specs.Hex.{decode_of}
use Rattle.serde_json.specs.Data.{Data}
use Rattle.store_types.specs.declared.names.Digest32.{Digest32}
use Rattle.store_types.specs.declared.names.GroupKey.{GroupKey}
use Rattle.store_types.specs.declared.names.SnapshotKey.{SnapshotKey}
use Rattle.store_types.specs.Chain.Reading.{◌>>=◌, only_if}
use Rattle.store_types.specs.FileNames.{is_id}
use Rattle.store_types.specs.Times.{last_moment}
use Rattle.store_types.specs.Names.{kind_of}
use Rattle.store_files.specs.Manifest.Fields.{text_in}

-- the digest of 64 hexadecimal digits
abbrev pub digest_of : List ℕ → Option Digest32
digest_of text = do
  bytes ← result_ok (decode_of text)
  _ ← only_if (length bytes == 32)
  Some (record { 0 = bytes })

-- the group that the manifest belongs to
abbrev pub group_in : Data → Option GroupKey
group_in d = do
  name ← text_in (codes "backup-type") d
  kind ← kind_of name
  id ← text_in (codes "backup-id") d
  _ ← only_if (is_id id)
  Some (record { kind = kind; id = id })

-- the snapshot of the group at this time
abbrev pub key_at : Option GroupKey → Option ℕ → Option SnapshotKey
key_at group time = do
  g ← group
  t ← time
  _ ← only_if (nat_le t last_moment)
  Some (record { kind = g.kind; id = g.id; time = t })
