-- What a FINISH tests, one after another.
use Rattle.std.proofs.Common.{◌≡◌, ◌≢◌, ℕ, ◌<◌, true, false, List, length, map, inl, inr, Some, None, Ok, Err, refl, sym, ap, arith}
use Rattle.std.specs.Prelude.{◌==◌}
use Rattle.std.proofs.lemmas.Bool.Decides.{eqb_tells}
use Rattle.store_types.specs.declared.names.SnapshotKey.{SnapshotKey}
use Rattle.store_types.specs.declared.refusal.Refusal.{Refusal}
use Rattle.store_types.specs.declared.refusal.Refusal.TheVariants.{NoFile, OpenIndexes}
use Rattle.store_types.specs.Chain.Refusing.{if_none}
use Rattle.store_files.specs.Archive.{File}
use Rattle.store_files.specs.Manifest.{Manifest}
use Rattle.store_files.specs.Manifest.Mismatch.{mismatch}
use Rattle.manifest.specs.declared.facts.FileFact.{FileFact}
use Rattle.manifest.specs.declared.facts.Manifest.{Manifest as ReadManifest}
use Rattle.manifest.specs.Views.{fact_view, manifest_view}
use Rattle.manifest.specs.Checking.{first_mismatch}
use Rattle.store_model.specs.Store.{Writer}
use Rattle.store_model.specs.WriterSteps.{snapshot_of}
use Rattle.store_model.specs.Manifests.{fact_of, manifest_data, want_manifest, mismatch_refusal, want_listed, listing_of, finish_check}
use Rattle.plain_sessions.specs.Uploading.{names_stand}
use Rattle.plain_sessions.specs.Finishing.{finished_of}
use Rattle.plain_sessions.proofs.Listing.{uploads_are}

-- ---- the manifest

pub listed_is : (m : ReadManifest) (key : SnapshotKey) (facts : List FileFact) (files : List File) → map fact_view facts ≡ map fact_of files → names_stand files ≡ true
    → if_none mismatch_refusal (first_mismatch m key facts) ≡ want_listed (manifest_view m) key files
listed_is m key facts files same stand = ap (λ us. if_none mismatch_refusal (mismatch m.key (map fact_view m.files) key us)) (uploads_are facts files same stand)

module _ (key : SnapshotKey) (files : List File) where
  pub listing_none : manifest_data files ≡ None → listing_of key files ≡ Err NoFile
  unfolding listing_of
  listing_none h = rw h refl

  module _ (bytes : List ℕ) (there : manifest_data files ≡ Some bytes) where
    pub listing_bad : (r : Refusal) → want_manifest bytes ≡ Err r → listing_of key files ≡ Err r
    unfolding listing_of
    listing_bad r h = rw (there, h) refl

    module _ (m : Manifest) (read : want_manifest bytes ≡ Ok m) where
      pub listing_refused : (r : Refusal) → want_listed m key files ≡ Err r → listing_of key files ≡ Err r
      unfolding listing_of
      listing_refused r h = rw (there, read, h) refl

      pub listing_goes : want_listed m key files ≡ Ok tt → listing_of key files ≡ Ok m
      unfolding listing_of
      listing_goes h = rw (there, read, h) refl

-- ---- a FINISH

differs : (a b : ℕ) → a ≢ b → (a == b) ≡ false
differs a b ne = elim (eqb_tells a b) [ inl p ↦ absurd (ne p.1) | inr p ↦ p.0 ]

module _ (w : Writer) where
  pub finished_open : (count : ℕ) → count ≡ length w.begun → 0 < count → finished_of w ≡ Err (OpenIndexes count)
  unfolding finish_check
  finished_open count same some = rw (sym same, differs count 0 (λ e. omega (arith, some, e))) refl

  module _ (closed : length w.begun ≡ 0) where
    pub finished_refused : (r : Refusal) → listing_of w.key w.files ≡ Err r → finished_of w ≡ Err r
    unfolding finish_check
    finished_refused r h = rw (closed, h) refl

    pub finished_goes : (m : Manifest) → listing_of w.key w.files ≡ Ok m → finished_of w ≡ Ok (snapshot_of w)
    unfolding finish_check
    finished_goes m h = rw (closed, h) refl
