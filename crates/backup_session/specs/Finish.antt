-- What FINISH tests of a session.
use Rattle.std.specs.Prelude.{ℕ, not, ◌==◌, List, map, length, Option, None, Some, Result, Ok}
use Rattle.std.specs.List.{filter}
use Rattle.std.specs.Result.{result_ok}
use Rattle.std.specs.Str.{bytes_eq}
use Rattle.store_types.specs.declared.names.SnapshotKey.{SnapshotKey}
use Rattle.store_types.specs.declared.refusal.Refusal.{Refusal}
use Rattle.store_types.specs.declared.refusal.Refusal.TheVariants.{NoFile, OpenIndexes}
use Rattle.store_types.specs.Chain.Refusing.{◌>>=◌, unless, or_else, if_none}
use Rattle.store_types.specs.FileNames.{manifest_name}
use Rattle.blob_codec.specs.Blob.{data_of}
use Rattle.store_files.specs.Manifest.{Manifest}
use Rattle.store_files.specs.Manifest.Fields.{Fact}
use Rattle.store_files.specs.Manifest.Mismatch.{mismatch}
use Rattle.store_model.specs.Manifests.{want_manifest, mismatch_refusal}
use Rattle.manifest.specs.declared.facts.FileFact.{FileFact}
use Rattle.manifest.specs.Views.{fact_view}
use Rattle.backup_session.specs.Session.{Writing}

-- the data of the blob that is kept
abbrev pub data_in : Option (List ℕ) → Option (List ℕ)
data_in None = None
data_in (Some text) = result_ok (data_of text)

-- the files beside the manifest
abbrev pub beside_manifest : List FileFact → List Fact
beside_manifest files = filter (λ f. not (bytes_eq f.name manifest_name)) (map fact_view files)

abbrev pub want_listed : Manifest → SnapshotKey → List FileFact → Result (Unit {0}) Refusal
want_listed m key files = if_none mismatch_refusal (mismatch m.key m.files key (beside_manifest files))

-- the manifest of these data, under this key, where it lists the files beside it
unfoldable pub manifest_from : SnapshotKey → List FileFact → List ℕ → Result Manifest Refusal
manifest_from key files bytes = do
  m ← want_manifest bytes
  _ ← want_listed m key files
  Ok m

-- the manifest of a session without open indexes, or the first refusal
unfoldable pub finish_check : Writing → Result Manifest Refusal
finish_check w = do
  _ ← unless (OpenIndexes (length w.begun)) (length w.begun == 0)
  bytes ← or_else NoFile (data_in w.manifest)
  manifest_from w.key w.files bytes
