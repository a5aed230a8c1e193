-- What is told of the files of a finished snapshot.
use Rattle.std.proofs.Common.{◌≡◌, ◌<◌, ℕ, Bool, true, false, cond, List, [], map, drop, get_or, Option, Some, None, Result, Ok, Err, refl, sym, ap, subst, ◌∙◌}
use Rattle.std.proofs.lemmas.List.Elements.{All-drop}
use Rattle.std.proofs.lemmas.Slice.Eq.{bytes_eq-Decides}
use Rattle.std.specs.List.{filter_map}
use Rattle.std.specs.Str.{bytes_eq}
use Rattle.store_types.specs.FileNames.{manifest_name}
use Rattle.blob_codec.specs.Blob.{blob as blob_of}
use Rattle.blob_codec.specs.Laws.{AreBytes}
use Rattle.blob_codec.proofs.RoundTrips.{data_of-blob}
use Rattle.store_files.specs.Archive.{blob, File, Snapshot}
use Rattle.store_files.specs.Manifest.{Manifest, manifest_of}
use Rattle.store_model.specs.Manifests.{fact_of}
use Rattle.store_model.specs.Load.{read_manifest}
use Rattle.store_model.specs.AdminSteps.{facts_in, fact_shown, file_row, file_rows}
use Rattle.store_files.specs.Folder.{Files}
use Rattle.core_admin.specs.FileRows.{own_fact, fact_by, rows_by}
use Rattle.snapshot_files.proofs.Manifests.{HasManifest}
use Rattle.core_admin.proofs.Filtering.{filter_map_agree}

-- its blob's data
behind : (p : List ℕ) → drop 12 (blob_of p) ≡ p
unfolding blob_of
behind p = refl

pub manifest_read : (m : Files) (x : Snapshot) (h : HasManifest m x) → AreBytes (blob_of h.bytes) → read_manifest (blob_of h.bytes) ≡ Some h.listed
manifest_read m x h are =
    ap (λ (r : Result (List ℕ) Rattle.store_types.specs.declared.refusal.BadBlob.BadBlob). elim r [ Err cause ↦ None | Ok contents ↦ elim (manifest_of contents) [ Ok x ↦ Some x | Err cause ↦ None ] ])
    (data_of-blob h.bytes (subst AreBytes (behind h.bytes) (All-drop (λ b. b < 256) 12 (blob_of h.bytes) are)) (h.fits).0)
    ∙ ap (λ (r : Result Manifest ℕ). elim r [ Ok x ↦ Some x | Err cause ↦ None ]) h.read

facts_are : (m : Files) (x : Snapshot) (h : HasManifest m x) → facts_in x.files ≡ (h.listed).files
facts_are m x h =
    ap (λ (o : Option (List ℕ)). elim o [ None ↦ [] | Some bytes ↦ elim (manifest_of bytes) [ Ok m ↦ m.files | Err cause ↦ [] ] ]) h.among
    ∙ ap (λ (r : Result Manifest ℕ). elim r [ Ok m ↦ m.files | Err cause ↦ [] ]) h.read

own_is : (f : File) (bytes : List ℕ) → f.name ≡ manifest_name → f.content ≡ blob bytes → own_fact (blob_of bytes) ≡ fact_of f
own_is f bytes name content = sym (ap (λ n. fact_of (record { name = n; content = f.content })) name ∙ ap (λ c. fact_of (record { name = manifest_name; content = c })) content)

-- the rows are the plain store's
pub rows_are : (m : Files) (x : Snapshot) (h : HasManifest m x) → rows_by (blob_of h.bytes) (h.listed).files (map (λ f. f.name) x.files) ≡ file_rows x.files
rows_are m x h =
    ap (λ facts. map file_row (filter_map (fact_by (blob_of h.bytes) facts) (map (λ f. f.name) x.files))) (sym (facts_are m x h))
    ∙ ap (map file_row) (filter_map_agree (λ f. f.name) (fact_by (blob_of h.bytes) (facts_in x.files)) (fact_shown (facts_in x.files)) x.files (λ i d lt. same (get_or x.files i d) (h.only i d lt)))
  where
    same : (f : File) → (f.name ≡ manifest_name → f.content ≡ blob h.bytes) → fact_by (blob_of h.bytes) (facts_in x.files) f.name ≡ fact_shown (facts_in x.files) f
    same f only = by_test (bytes_eq f.name manifest_name) refl
      where
        by_test : (b : Bool) → bytes_eq f.name manifest_name ≡ b
            → cond b (Some (own_fact (blob_of h.bytes))) (Rattle.store_files.specs.Manifest.Mismatch.fact_named f.name (facts_in x.files)) ≡ cond b (Some (fact_of f)) (Rattle.store_files.specs.Manifest.Mismatch.fact_named f.name (facts_in x.files))
        by_test true e = let name = (bytes_eq-Decides f.name manifest_name).0 e in ap (λ y. Some y) (own_is f h.bytes name (only name))
        by_test false e = refl
