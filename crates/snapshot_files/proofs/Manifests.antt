-- What is read of the manifest of a snapshot that stands.
use Rattle.std.proofs.Common.{◌≡◌, ◌≢◌, ◌≤◌, ◌↔◌, ℕ, length, map, List, ◌∷◌, Option, Some, None, Result, Ok, Err, refl, sym, ap, subst, ◌∙◌}
use Rattle.std.specs.FinMap.{get}
use Rattle.std.specs.List.{All, AllPairs, Contains}
use Rattle.std.specs.Str.{bytes_eq}
use Rattle.std.proofs.lemmas.Slice.Eq.{bytes_eq-Decides}
use Rattle.store_types.specs.declared.refusal.BadBlob.{BadBlob}
use Rattle.store_types.specs.FileNames.{manifest_name}
use Rattle.blob_codec.specs.Blob.{blob as blob_of}
use Rattle.blob_codec.proofs.RoundTrips.{data_of-blob}
use Rattle.store_files.specs.Archive.{Content, archive, blob, File, Snapshot, file_text, file_named}
use Rattle.store_files.specs.Folder.{Files, file_path, manifest_path}
use Rattle.store_files.specs.Manifest.{Manifest, manifest_of}
use Rattle.store_model.specs.Load.{read_manifest}
use Rattle.store_model.specs.Manifests.{blob_data, data_in, listed_names, manifest_data}
use Rattle.store_model.specs.Stands.{IsSnapshot, HoldsFiles, FitsContent}
use Rattle.store_model.proofs.FileInsertions.{only_named}
use Rattle.store_model.proofs.Finding.{some_same, found_in, found_passes}
use Rattle.store_model.proofs.ListingLemmas.{listed_apart}

-- the manifest of a finished snapshot, and where it stands
pub record HasManifest (m : Files) (x : Snapshot) : Type 0 where
  pub bytes : List ℕ
  pub listed : Manifest
  pub there : get m (manifest_path x.key) ≡ Some (blob_of bytes)
  pub read : manifest_of bytes ≡ Ok listed
  pub fits : FitsContent (blob bytes)
  pub few : length listed.files ≤ 63
  pub among : manifest_data x.files ≡ Some bytes
  pub only : All (λ f. f.name ≡ manifest_name → f.content ≡ blob bytes) x.files
  pub members : (name : List ℕ) → Contains (map (λ (f : File). f.name) x.files) name ↔ Contains (manifest_name ∷ listed_names listed) name

is_blob : (c : Content) (bytes : List ℕ) → blob_data c ≡ Some bytes → c ≡ blob bytes
is_blob (archive a) bytes e = cc
is_blob (blob found) bytes e = ap blob (some_same found bytes e)

pub has_manifest : (m : Files) (x : Snapshot) → IsSnapshot x → HoldsFiles m x → HasManifest m x
unfolding file_text
has_manifest m x is held = by_file (file_named manifest_name x.files) refl (is.manifest).2
  where
    by_file : (o : Option File) → file_named manifest_name x.files ≡ o → data_in o ≡ Some (is.manifest).0 → HasManifest m x
    by_file None at e = cc
    by_file (Some f) at e =
        let bytes = (is.manifest).0 in
        let content : f.content ≡ blob bytes = is_blob f.content bytes e in
        record {
          bytes = bytes;
          listed = (is.manifest).1;
          there =
              ap (λ name. get m (file_path x.key name)) (sym ((bytes_eq-Decides f.name manifest_name).0 (found_passes (λ f. bytes_eq f.name manifest_name) x.files f at)))
              ∙ found_in (λ f. get m (file_path x.key f.name) ≡ Some (file_text f.content)) (λ f. bytes_eq f.name manifest_name) x.files f held at
              ∙ ap (λ c. Some (file_text c)) content;
          read = (is.manifest).3;
          fits = subst FitsContent content (found_in (λ f. FitsContent f.content) (λ f. bytes_eq f.name manifest_name) x.files f is.contents at);
          few = (is.manifest).4;
          among = (is.manifest).2;
          only = λ i d lt same. ap (λ (g : File). g.content) (only_named manifest_name x.files f is.names at i d lt same) ∙ content;
          members = (is.manifest).5;
        }

-- it reads, and lists the other files, each once
pub record HasListing (m : Files) (x : Snapshot) : Type 0 where
  pub bytes : List ℕ
  pub listed : Manifest
  pub there : get m (manifest_path x.key) ≡ Some bytes
  pub read : read_manifest bytes ≡ Some listed
  pub few : length listed.files ≤ 63
  pub members : (name : List ℕ) → Contains (map (λ (f : File). f.name) x.files) name ↔ Contains (manifest_name ∷ listed_names listed) name
  pub once : AllPairs (λ a b. a ≢ b) (map (λ f. f.name) listed.files)

-- the blob of a manifest reads as it
reads : (bytes : List ℕ) (listed : Manifest) → FitsContent (blob bytes) → manifest_of bytes ≡ Ok listed → read_manifest (blob_of bytes) ≡ Some listed
reads bytes listed fits is =
    ap (λ (r : Result (List ℕ) BadBlob). elim r [ Err cause ↦ None | Ok contents ↦ elim (manifest_of contents) [ Ok x ↦ Some x | Err cause ↦ None ] ])
    (data_of-blob bytes fits.1 fits.0)
    ∙ ap (λ (r : Result Manifest ℕ). elim r [ Ok x ↦ Some x | Err cause ↦ None ]) is

pub has_listing : (m : Files) (x : Snapshot) → IsSnapshot x → HoldsFiles m x → HasListing m x
has_listing m x is held = let h = has_manifest m x is held in record {
  bytes = blob_of h.bytes;
  listed = h.listed;
  there = h.there;
  read = reads h.bytes h.listed h.fits h.read;
  few = h.few;
  members = h.members;
  once = listed_apart h.bytes h.listed h.read;
}
