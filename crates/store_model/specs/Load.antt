-- The list of snapshots that a map from names to bytes gives. Damaged ones are left out.
use Rattle.std.specs.Prelude.{ℕ, ◌-◌, List, [], ◌∷◌, ◌++◌, map, length, take, nat_le, if◌then◌else◌, Option, Some, None, Ok, Err, codes, pos}
use Rattle.std.specs.List.{filter_map}
use Rattle.std.specs.Str.{bytes_eq}
use Rattle.std.specs.FinMap.{find, entries}
use Rattle.sha2.specs.Sha256.{sha256}
use Rattle.store_types.specs.declared.names.SnapshotKey.{SnapshotKey}
use Rattle.store_types.specs.FileNames.{manifest_name, is_fixed_name, is_dynamic_name}
use Rattle.store_types.specs.Names.{text_cmp, key_of}
use Rattle.store_types.specs.Chain.Reading.{◌>>=◌, only_if}
use Rattle.blob_codec.specs.Blob as blobs
use Rattle.store_files.specs.FixedIndex as fixed_index
use Rattle.store_files.specs.DynamicIndex as dynamic_index
use Rattle.store_files.specs.Archive.{Layout, dynamic, fixed, Archive, Content, archive, blob, File, Snapshot}
use Rattle.store_files.specs.Manifest.{Manifest, manifest_of}
use Rattle.store_model.specs.Store.{insert_snapshot, insert_file}
use Rattle.store_files.specs.Folder.{file_path}
use Rattle.store_model.specs.Manifests.{listed_names}
use Rattle.store_files.specs.Folder.{Files, chunk_name, manifest_path}

-- a map's names and their bytes, in byte order of the names
abbrev pub Entries : Type 0
Entries = List (List ℕ × List ℕ)

abbrev pub bytes_at : Entries → List ℕ → Option (List ℕ)
bytes_at m name = find text_cmp name m

-- a piece that isn't found counts as empty
unfoldable pub piece_in : Entries → List ℕ → List ℕ
piece_in m digest =
    elim (bytes_at m (chunk_name digest)) [
      | None ↦ []
      | Some bytes ↦ elim (blobs.data_of bytes) [ Ok p ↦ if bytes_eq (sha256 p) digest then p else [] | Err cause ↦ [] ]
    ]

abbrev pub empty_archive : Layout → Archive
empty_archive layout = record { layout = layout; uuid = []; ctime = pos 0; reserved = []; pieces = [] }

abbrev pub fixed_archive : Entries → fixed_index.FixedIndex → Archive
fixed_archive m x = record {
  layout = fixed x.size x.chunk_size;
  uuid = x.uuid;
  ctime = x.ctime;
  reserved = x.reserved;
  pieces = map (piece_in m) x.digests;
}

abbrev pub dynamic_archive : Entries → dynamic_index.DynamicIndex → Archive
dynamic_archive m x = record {
  layout = dynamic;
  uuid = x.uuid;
  ctime = x.ctime;
  reserved = x.reserved;
  pieces = map (λ e. piece_in m e.digest) x.entries;
}

-- an index that doesn't decode counts as without pieces, and a blob that doesn't as empty
unfoldable pub content_in : Entries → List ℕ → List ℕ → Content
content_in m name bytes =
    if is_fixed_name name then
    elim (fixed_index.fixed_of bytes) [ Ok x ↦ archive (fixed_archive m x) | Err cause ↦ archive (empty_archive (fixed 0 4096)) ]
    else if is_dynamic_name name then
    elim (dynamic_index.dynamic_of bytes) [ Ok x ↦ archive (dynamic_archive m x) | Err cause ↦ archive (empty_archive dynamic) ]
    else elim (blobs.data_of bytes) [ Ok contents ↦ blob contents | Err cause ↦ blob [] ]

-- the files of these names, in byte order, where all are there
unfoldable pub files_in : Entries → SnapshotKey → List (List ℕ) → Option (List File)
files_in m key [] = Some []
files_in m key (name ∷ names) = do
  bytes ← bytes_at m (file_path key name)
  others ← files_in m key names
  Some (insert_file (record { name = name; content = content_in m name bytes }) others)

abbrev pub read_manifest : List ℕ → Option Manifest
read_manifest bytes =
    elim (blobs.data_of bytes) [
      | Err cause ↦ None
      | Ok contents ↦ elim (manifest_of contents) [ Ok x ↦ Some x | Err cause ↦ None ]
    ]

-- a snapshot, unless it is damaged
unfoldable pub snapshot_in : Entries → SnapshotKey → List ℕ → Option Snapshot
snapshot_in m key bytes = do
  listed ← read_manifest bytes
  _ ← only_if (nat_le (length listed.files) 63)
  files ← files_in m key (manifest_name ∷ listed_names listed)
  Some (record { key = key; files = files })

abbrev pub manifest_ending : List ℕ
manifest_ending = codes "/" ++ manifest_name

-- the snapshot whose manifest has this name
abbrev pub key_of_manifest : List ℕ → Option SnapshotKey
key_of_manifest path = do
  key ← key_of (take (length path - length manifest_ending) path)
  _ ← only_if (bytes_eq path (manifest_path key))
  Some key

unfoldable pub entry_snapshot : Entries → List ℕ × List ℕ → Option Snapshot
entry_snapshot m entry = do
  key ← key_of_manifest entry.0
  snapshot_in m key entry.1

unfoldable pub in_order : List Snapshot → List Snapshot
in_order [] = []
in_order (x ∷ xs) = insert_snapshot x (in_order xs)

-- the list that the names and their bytes give
unfoldable pub snapshots_in : Entries → List Snapshot
snapshots_in m = in_order (filter_map (entry_snapshot m) m)

-- the list that a map gives
unfoldable pub load : Files → List Snapshot
load m = snapshots_in (entries m)
