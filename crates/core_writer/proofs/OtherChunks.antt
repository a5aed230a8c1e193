-- A snapshot's file that is put is no chunk.
use Rattle.std.proofs.Common.{◌≡◌, ℕ, Bool, true, false, cond, List, ◌++◌, inl, refl, sym, ap, ◌∙◌, append_assoc}
use Rattle.std.specs.Prelude.{codes}
use Rattle.std.specs.FinMap.{get}
use Rattle.std.specs.Str.{bytes_eq}
use Rattle.sha2.specs.Sha256.{sha256}
use Rattle.disk_trait.specs.Files.{Files}
use Rattle.file_install.specs.Install.{temporary, installed}
use Rattle.file_install.proofs.InstallLaws.{installed_other}
use Rattle.store_types.specs.declared.names.SnapshotKey.{SnapshotKey}
use Rattle.store_types.specs.FileNames.{manifest_name}
use Rattle.store_files.specs.Folder.{chunk_name, file_path}
use Rattle.store_model.proofs.Paths.{chunk_apart}
use Rattle.store_history.specs.declared.act.Act.{Act}
use Rattle.core_state.specs.declared.kept.StoredFile.{StoredFile}
use Rattle.core_state.specs.Chunks.{AddsChunks}
use Rattle.core_writer.specs.Uploaded.{with_put}

chunk_stays : (m : Files) (key : SnapshotKey) (file : StoredFile) (text digest : List ℕ) → file.path ≡ file_path key file.name → get (with_put file text m) (chunk_name digest) ≡ get m (chunk_name digest)
chunk_stays m key file text digest path = by_test (bytes_eq file.name manifest_name)
  where
    staged_at : temporary file.path ≡ file_path key (file.name ++ codes ".tmp")
    staged_at = ap temporary path ∙ simp append_assoc refl

    by_test : (b : Bool) → get (cond b m (installed m file.path text)) (chunk_name digest) ≡ get m (chunk_name digest)
    by_test true = refl
    by_test false = installed_other m file.path text (chunk_name digest) (λ e. chunk_apart digest key file.name (e ∙ path)) (λ e. chunk_apart digest key (file.name ++ codes ".tmp") (e ∙ staged_at))

pub puts_no_chunk : (m n : Files) (key : SnapshotKey) (file : StoredFile) (text : List ℕ) (act : Act) → file.path ≡ file_path key file.name → n ≡ with_put file text m → AddsChunks m n act
puts_no_chunk m n key file text act path now p there = inl (sym (chunk_stays m key file text (sha256 p) path) ∙ ap (λ f. get f (chunk_name (sha256 p))) (sym now) ∙ there)
