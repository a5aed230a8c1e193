-- When a map from names to bytes stands for a list of snapshots.
use Rattle.std.specs.Prelude.{◌≡◌, ℕ, ◌+◌, ◌≤◌, ◌<◌, Bool, true, ◌&&◌, ◌==◌, List, [], ◌∷◌, map, length, ◌↔◌, Some, IsTrue, IsSome}
use Rattle.std.specs.List.{All, Contains, flat_map}
use Rattle.std.specs.FinMap.{get}
use Rattle.sha2.specs.Sha256.{sha256}
use Rattle.store_types.specs.declared.names.SnapshotKey.{SnapshotKey}
use Rattle.store_types.specs.declared.names.GroupKey.{GroupKey}
use Rattle.store_types.specs.FileNames.{is_fixed_name, is_dynamic_name, is_blob_name}
use Rattle.store_types.specs.Names.{IsKey, key_lt, name_lt}
use Rattle.blob_codec.specs.Blob as blobs
use Rattle.store_files.specs.FixedIndex as fixed_index
use Rattle.store_files.specs.FixedIndex.{piece_len}
use Rattle.store_files.specs.DynamicIndex as dynamic_index
use Rattle.store_files.specs.Archive.{Layout, dynamic, fixed, Archive, Content, archive, blob, File, Snapshot, fixed_of_archive, dynamic_of_archive, file_text, pieces_of}
use Rattle.store_model.specs.Store.{in_group}
use Rattle.store_model.specs.Manifests.{ListsFiles}
use Rattle.store_files.specs.Folder.{Files, chunk_name, file_path, manifest_path, IsPiece, HasWholeChunks}

-- ---- well-formed snapshots

-- each piece of a fixed archive has the length that size and chunk size ask where it begins, and the last ends at the size
abbrev pub fills_size : ℕ → ℕ → ℕ → List (List ℕ) → Bool
fills_size size chunk_size end [] = end == size
fills_size size chunk_size end (p ∷ ps) = (length p == piece_len size chunk_size end) && fills_size size chunk_size (end + length p) ps

abbrev pub FitsLayout : Layout → Archive → Type 0
FitsLayout dynamic a = dynamic_index.FitsDynamic (dynamic_of_archive a)
FitsLayout (fixed size chunk_size) a =
    fixed_index.FitsFixed (fixed_of_archive a size chunk_size) × IsTrue (fills_size size chunk_size 0 a.pieces)

-- by its kind of content, a file has this kind of name
abbrev pub names_content : Content → List ℕ → Bool
names_content (blob bytes) name = is_blob_name name
names_content (archive a) name = elim a.layout [ dynamic ↦ is_dynamic_name name | fixed size chunk_size ↦ is_fixed_name name ]

abbrev pub FitsContent : Content → Type 0
FitsContent (archive a) = FitsLayout a.layout a × All IsPiece a.pieces
FitsContent (blob bytes) = blobs.FitsBlob bytes × All (λ b. b < 256) bytes

abbrev pub names_rise : List File → Bool
names_rise [] = true
names_rise (f ∷ []) = true
names_rise (f ∷ g ∷ fs) = name_lt f.name g.name && names_rise (g ∷ fs)

abbrev pub keys_rise : List Snapshot → Bool
keys_rise [] = true
keys_rise (x ∷ []) = true
keys_rise (x ∷ y ∷ xs) = key_lt x.key y.key && keys_rise (y ∷ xs)

-- how many files a snapshot has at most, and how many snapshots a group
abbrev pub file_limit : ℕ
file_limit = 64

abbrev pub group_limit : ℕ
group_limit = 4096

pub record IsSnapshot (x : Snapshot) : Type 0 where
  pub key : IsKey x.key
  pub names : IsTrue (names_rise x.files)
  pub kinds : All (λ f. IsTrue (names_content f.content f.name)) x.files
  pub contents : All (λ f. FitsContent f.content) x.files
  pub manifest : ListsFiles x.files
  pub count : length x.files ≤ file_limit

-- ---- standing for a list

-- each file is there with its text
abbrev pub HoldsFiles : Files → Snapshot → Type 0
HoldsFiles m x = All (λ f. get m (file_path x.key f.name) ≡ Some (file_text f.content)) x.files

abbrev pub pieces_in : Snapshot → List (List ℕ)
pieces_in x = flat_map (λ f. pieces_of f.content) x.files

-- each piece is there under its digest
abbrev pub HoldsPieces : Files → Snapshot → Type 0
HoldsPieces m x = All (λ p. get m (chunk_name (sha256 p)) ≡ Some (blobs.blob p)) (pieces_in x)

-- The map stands for the list. Other names don't matter.
pub record StandsFor (m : Files) (snapshots : List Snapshot) : Type 0 where
  pub order : IsTrue (keys_rise snapshots)
  pub each : All IsSnapshot snapshots
  pub groups : (group : GroupKey) → length (in_group group snapshots) ≤ group_limit
  pub manifests : (key : SnapshotKey) → IsKey key →
      IsSome (get m (manifest_path key)) ↔ Contains (map (λ x. x.key) snapshots) key
  pub files : All (HoldsFiles m) snapshots
  pub pieces : All (HoldsPieces m) snapshots
  pub chunks : HasWholeChunks m
