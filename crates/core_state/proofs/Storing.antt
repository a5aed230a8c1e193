-- A chunk that is put where nothing stood leaves what the disk stands for.
use Rattle.std.proofs.Common.{◌≡◌, ◌↔◌, ℕ, get_or, map, List, Option, None, inl, inr, sym, ap, subst, ◌∙◌}
use Rattle.std.specs.FinMap.{get}
use Rattle.std.specs.List.{Contains}
use Rattle.std.specs.Option.{IsSome}
use Rattle.sha2.specs.Sha256.{sha256}
use Rattle.disk_trait.specs.Files.{Files}
use Rattle.file_install.specs.Install.{temporary, Installs}
use Rattle.store_types.specs.FileNames.{manifest_name}
use Rattle.blob_codec.specs.Blob.{blob}
use Rattle.store_files.specs.Archive.{Snapshot}
use Rattle.store_files.specs.Folder.{HasWholeChunks, IsDigest, chunk_name}
use Rattle.store_model.specs.Stands.{StandsFor, pieces_in}
use Rattle.store_model.proofs.StandsLemmas.{Apart}
use Rattle.chunk_store.specs.Pieces.{IsChunk, with_chunk}
use Rattle.chunk_store.proofs.Maps.{with_absent, with_file, with_kept, whole_with}
use Rattle.chunk_store.proofs.Names.{chunk_not_temporary, file_not_staged}
use Rattle.core_state.specs.Changes.{MayLeave, stores}
use Rattle.core_state.proofs.AnyPaths.{stands_off}
use Rattle.core_state.proofs.Chunks.{is_digest}

pub whole_storing : (read : Files) (digest bytes : List ℕ) → IsChunk digest bytes → HasWholeChunks read → HasWholeChunks (with_chunk digest bytes read)
whole_storing read digest bytes chunk whole = whole_with read digest (subst IsDigest chunk.3 (is_digest chunk.0)) bytes chunk whole

module _ (snapshots : List Snapshot) (digest bytes : List ℕ) where
  apart_temporary : Apart snapshots (temporary (chunk_name digest))
  apart_temporary = record {
    manifests = λ key is. file_not_staged key manifest_name digest;
    files = λ i d lt. λ j f lt2. let x = get_or snapshots i d in file_not_staged x.key (get_or x.files j f).name digest;
    chunks = λ other. chunk_not_temporary other digest;
  }

  stands_chunk : (b : Files) → HasWholeChunks (with_chunk digest bytes b) → StandsFor b snapshots → StandsFor (with_chunk digest bytes b) snapshots
  stands_chunk b whole s = record {
    order = s.order;
    each = s.each;
    groups = s.groups;
    manifests = λ key is. subst (λ (o : Option (List ℕ)). IsSome o ↔ Contains (map (λ (x : Snapshot). x.key) snapshots) key) (sym (with_file b digest bytes key manifest_name)) (s.manifests key is);
    files = λ i d lt. λ j f lt2. let x = get_or snapshots i d in with_file b digest bytes x.key (get_or x.files j f).name ∙ s.files i d lt j f lt2;
    pieces = λ i d lt. λ j f lt2. let p = get_or (pieces_in (get_or snapshots i d)) j f in with_kept b digest bytes (sha256 p) (blob p) (s.pieces i d lt j f lt2);
    chunks = whole;
  }

  stands_installing : (read b c : Files) → HasWholeChunks (with_chunk digest bytes read) → get read (chunk_name digest) ≡ None → Installs read (chunk_name digest) bytes b c → StandsFor b snapshots → StandsFor c snapshots
  stands_installing read b c whole absent (inl same) s = stands_off snapshots (temporary (chunk_name digest)) b c apart_temporary same s
  stands_installing read b c whole absent (inr is) s =
      let put = is.1 ∙ sym (with_absent b digest bytes (ap (λ (m : Files). get m (chunk_name digest)) is.0 ∙ absent)) in
      subst (λ (m : Files). StandsFor m snapshots) (sym put) (stands_chunk b (subst (λ (m : Files). HasWholeChunks (with_chunk digest bytes m)) (sym is.0) whole) s)

  -- it is whole there, where it was done
  pub stands_storing : (read b c : Files) → HasWholeChunks (with_chunk digest bytes read) → MayLeave (stores (chunk_name digest) bytes) read b c → StandsFor b snapshots → StandsFor c snapshots
  stands_storing read b c whole (inl same) s = subst (λ (m : Files). StandsFor m snapshots) (sym same) s
  stands_storing read b c whole (inr put) s = stands_installing read b c whole put.0 put.1 s
