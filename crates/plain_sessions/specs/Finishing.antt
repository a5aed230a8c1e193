-- What a FINISH makes of a writer.
use Rattle.std.specs.Prelude.{List, Result, Ok}
use Rattle.store_types.specs.declared.names.SnapshotKey.{SnapshotKey}
use Rattle.store_types.specs.declared.refusal.Refusal.{Refusal}
use Rattle.store_types.specs.Chain.Refusing.{◌>>=◌, if_none}
use Rattle.store_files.specs.Archive.{Snapshot}
use Rattle.manifest.specs.declared.facts.FileFact.{FileFact}
use Rattle.manifest.specs.declared.facts.Manifest.{Manifest}
use Rattle.manifest.specs.Checking.{first_mismatch}
use Rattle.store_model.specs.Store.{Writer}
use Rattle.store_model.specs.WriterSteps.{snapshot_of}
use Rattle.store_model.specs.Manifests.{mismatch_refusal, finish_check}

-- the manifest is of this snapshot, and lists these files, or the first mismatch
abbrev pub want_uploads : Manifest → SnapshotKey → List FileFact → Result (Unit {0}) Refusal
want_uploads m key uploads = if_none mismatch_refusal (first_mismatch m key uploads)

-- a writer's snapshot, where the tests pass
abbrev pub finished_of : Writer → Result Snapshot Refusal
finished_of w = do
  _ ← finish_check w
  Ok (snapshot_of w)
