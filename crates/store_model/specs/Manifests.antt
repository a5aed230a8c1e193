-- The manifest among a snapshot's files, and what it lists of the others.
use Rattle.std.specs.Prelude.{◌≡◌, ◌≤◌, ◌↔◌, ℕ, not, ◌==◌, List, ◌∷◌, map, filter, length, Option, Some, None, Result, Ok, Err}
use Rattle.std.specs.List.{Contains}
use Rattle.std.specs.Str.{bytes_eq}
use Rattle.store_types.specs.declared.names.SnapshotKey.{SnapshotKey}
use Rattle.store_types.specs.declared.refusal.Refusal.{Refusal}
use Rattle.store_types.specs.declared.refusal.Refusal.TheVariants.{NoFile, OpenIndexes, BadManifest, ManifestMismatch}
use Rattle.store_types.specs.Chain.Refusing.{◌>>=◌, unless, or_else, if_none}
use Rattle.store_types.specs.FileNames.{manifest_name}
use Rattle.store_files.specs.Archive.{Content, archive, blob, File, size_of, csum_of, file_named}
use Rattle.store_files.specs.Manifest.{Manifest, manifest_of}
use Rattle.store_files.specs.Manifest.Fields.{Fact}
use Rattle.store_files.specs.Manifest.Mismatch.{Mismatch, mismatch}
use Rattle.store_model.specs.Store.{Writer}

-- what a manifest lists of a file
abbrev pub fact_of : File → Fact
fact_of f = record { name = f.name; size = size_of f.content; csum = csum_of f.content }

-- the files beside the manifest
abbrev pub beside_manifest : List File → List File
beside_manifest files = filter (λ f. not (bytes_eq f.name manifest_name)) files

abbrev pub blob_data : Content → Option (List ℕ)
blob_data (archive a) = None
blob_data (blob bytes) = Some bytes

abbrev pub data_in : Option File → Option (List ℕ)
data_in None = None
data_in (Some f) = blob_data f.content

-- the data of the manifest among the files
abbrev pub manifest_data : List File → Option (List ℕ)
manifest_data files = data_in (file_named manifest_name files)

-- the names that a manifest lists beside its own, which doesn't count
abbrev pub listed_names : Manifest → List (List ℕ)
listed_names m = filter (λ name. not (bytes_eq name manifest_name)) (map (λ f. f.name) m.files)

-- the manifest is read, and beside it the files are just those that it lists
abbrev pub ListsFiles : List File → Type 0
ListsFiles files = (bytes : List ℕ) × (m : Manifest)
    × (manifest_data files ≡ Some bytes) × (manifest_of bytes ≡ Ok m)
    × (length m.files ≤ 63)
    × ((name : List ℕ) → Contains (map (λ f. f.name) files) name ↔ Contains (manifest_name ∷ listed_names m) name)

abbrev pub want_manifest : List ℕ → Result Manifest Refusal
want_manifest bytes = elim (manifest_of bytes) [ Ok m ↦ Ok m | Err cause ↦ Err (BadManifest cause) ]

abbrev pub mismatch_refusal : Mismatch → Refusal
mismatch_refusal x = ManifestMismatch x.file x.field

-- the manifest's key is this one, and it lists these files, or the first mismatch
abbrev pub want_listed : Manifest → SnapshotKey → List File → Result (Unit {0}) Refusal
want_listed m key files = if_none mismatch_refusal (mismatch m.key m.files key (map fact_of (beside_manifest files)))

-- the manifest among the files of a snapshot that it lists, or the first refusal
unfoldable pub listing_of : SnapshotKey → List File → Result Manifest Refusal
listing_of key files = do
  bytes ← or_else NoFile (manifest_data files)
  m ← want_manifest bytes
  _ ← want_listed m key files
  Ok m

-- what FINISH tests of a writer: no archive is open, and the manifest among the files lists the others
unfoldable pub finish_check : Writer → Result Manifest Refusal
finish_check w = do
  _ ← unless (OpenIndexes (length w.begun)) (length w.begun == 0)
  listing_of w.key w.files
