-- FINISH's test, where its parts answer so.
use Rattle.std.proofs.Common.{◌≡◌, ℕ, ◌<◌, Bool, true, false, cond, List, [], ◌∷◌, map, length, get_or, drop, Some, None, Ok, Err, refl, sym, ap, ap₂, eq-eqb, ◌∙◌, arith}
use Rattle.std.specs.Prelude.{◌==◌, Option, Result, not, IsOk}
use Rattle.std.specs.Option.{option_map}
use Rattle.std.specs.Result.{result_ok}
use Rattle.std.specs.Str.{bytes_eq}
use Rattle.std.proofs.lemmas.Bool.{eqb-true}
use Rattle.std.proofs.lemmas.List.{length-map}
use Rattle.store_types.specs.declared.names.SnapshotKey.{SnapshotKey}
use Rattle.store_types.specs.declared.refusal.BadBlob.{BadBlob}
use Rattle.store_types.specs.declared.refusal.Refusal.{Refusal}
use Rattle.store_types.specs.declared.refusal.Refusal.TheVariants.{NoFile, OpenIndexes, BadManifest}
use Rattle.store_types.specs.Chain.Refusing.{◌>>=◌, unless, or_else, if_none}
use Rattle.store_types.specs.FileNames.{manifest_name}
use Rattle.blob_codec.specs.Blob.{data_of}
use Rattle.blob_codec.specs.Blob as blobs
use Rattle.blob_codec.proofs.Reading.{HasParts-from_data_of}
use Rattle.store_files.specs.Archive.{Layout, dynamic, fixed, Archive, Content, archive, blob, File, file_text, file_named, archive_text, text_by}
use Rattle.store_files.specs.DynamicIndex.{dynamic_text}
use Rattle.store_files.specs.FixedIndex.{fixed_text}
use Rattle.store_files.specs.Manifest.{Manifest, manifest_of}
use Rattle.store_files.specs.Manifest.Fields.{Fact}
use Rattle.store_files.specs.Manifest.Mismatch.{Mismatch, mismatch}
use Rattle.store_model.specs.Manifests.{want_manifest, mismatch_refusal}
use Rattle.store_model.specs.Manifests as plain
use Rattle.store_model.specs.Store.{Writer}
use Rattle.manifest.specs.declared.facts.FileFact.{FileFact}
use Rattle.manifest.specs.Checking.{uploaded}
use Rattle.manifest.specs.Views.{fact_view}
use Rattle.manifest.proofs.Ordered.{AllFrom, Rises}
use Rattle.manifest.proofs.Uploads.{uploaded-rising}
use Rattle.backup_session.specs.Session.{Writing}
use Rattle.backup_session.specs.Finish.{data_in, beside_manifest, want_listed, manifest_from, finish_check}
use Rattle.backup_session.specs.Kept.{HoldsBlob, NoneBefore, Ascends}
use Rattle.backup_session.specs.Shown.{shown_begun, shown_file, manifest_text, shown}

-- ---- uploads in byte order

from_name : (name : List ℕ) (fs : List FileFact) → NoneBefore name fs → AllFrom name (map fact_view fs)
from_name name [] h = tt
from_name name (f ∷ fs) h = (h.0, from_name name fs h.1)

rises : (fs : List FileFact) → Ascends fs → Rises (map fact_view fs)
rises [] h = tt
rises (f ∷ fs) h = (from_name f.name fs h.0, rises fs h.1)

pub beside_is : (files : List FileFact) → Ascends files → uploaded files ≡ beside_manifest files
beside_is files h = uploaded-rising files (rises files h)

-- ---- the manifest

said : Result Manifest ℕ → Result Manifest Refusal
said (Ok m) = Ok m
said (Err cause) = Err (BadManifest cause)

said_is : (bytes : List ℕ) → want_manifest bytes ≡ said (manifest_of bytes)
unfolding said
said_is bytes = by_result (manifest_of bytes)
  where
    by_result : (r : Result Manifest ℕ) → elim r [ Ok m ↦ Ok m | Err cause ↦ Err (BadManifest cause) ] ≡ said r
    by_result (Ok m) = refl
    by_result (Err cause) = refl

module _ (key : SnapshotKey) (files : List FileFact) (bytes : List ℕ) where
  listed : Manifest → Result Manifest Refusal
  listed m = want_listed m key files >>= λ _. Ok m

  from_read : (r : Result Manifest ℕ) → manifest_of bytes ≡ r → manifest_from key files bytes ≡ (said r >>= listed)
  unfolding manifest_from listed
  from_read r e = ap (λ x. x >>= listed) (said_is bytes ∙ ap said e)

  pub from_bad : (cause : ℕ) → manifest_of bytes ≡ Err cause → manifest_from key files bytes ≡ Err (BadManifest cause)
  unfolding said
  from_bad cause e = from_read (Err cause) e

  pub from_good : (m : Manifest) (x : Option Mismatch) → manifest_of bytes ≡ Ok m → mismatch m.key m.files key (beside_manifest files) ≡ x
      → manifest_from key files bytes ≡ (if_none mismatch_refusal x >>= λ _. Ok m)
  unfolding said listed
  from_good m x e f = from_read (Ok m) e ∙ ap (λ o. if_none mismatch_refusal o >>= λ _. Ok m) f

-- ---- the whole test

finish_by : (w : Writing) (b : Bool) (o : Option (List ℕ)) → (length w.begun == 0) ≡ b → data_in w.manifest ≡ o
    → finish_check w ≡ (unless (OpenIndexes (length w.begun)) b >>= λ _. or_else NoFile o >>= λ bytes. manifest_from w.key w.files bytes)
unfolding finish_check
finish_by w b o e f = ap₂ (λ t x. unless (OpenIndexes (length w.begun)) t >>= λ _. or_else NoFile x >>= λ bytes. manifest_from w.key w.files bytes) e f

not_none : (n : ℕ) → 0 < n → (n == 0) ≡ false
not_none n some = by_test (n == 0) refl
  where
    by_test : (b : Bool) → (n == 0) ≡ b → b ≡ false
    by_test true e = absurd (omega (arith, some, eqb-true n 0 e))
    by_test false e = refl

pub finish_open : (w : Writing) (n : ℕ) → n ≡ length w.begun → 0 < n → finish_check w ≡ Err (OpenIndexes n)
finish_open w n is some =
    finish_by w false (data_in w.manifest) (not_none (length w.begun) (omega (arith, is, some))) refl ∙ ap (λ k. Err (OpenIndexes k)) (sym is)

pub finish_none : (w : Writing) → length w.begun ≡ 0 → w.manifest ≡ None → finish_check w ≡ Err NoFile
finish_none w none absent = finish_by w true None (eq-eqb (length w.begun) 0 none) (ap data_in absent)

pub finish_data : (w : Writing) (text bytes : List ℕ) → length w.begun ≡ 0 → Some text ≡ w.manifest → data_of text ≡ Ok bytes → finish_check w ≡ manifest_from w.key w.files bytes
finish_data w text bytes none there is = finish_by w true (Some bytes) (eq-eqb (length w.begun) 0 none) (ap data_in (sym there) ∙ ap result_ok is)

-- ---- beside the plain writer

beside_same : (files : List File) → beside_manifest (map shown_file files) ≡ map plain.fact_of (plain.beside_manifest files)
beside_same [] = refl
beside_same (f ∷ fs) = by_test (not (bytes_eq f.name manifest_name)) (beside_same fs)
  where
    by_test : (b : Bool) → beside_manifest (map shown_file fs) ≡ map plain.fact_of (plain.beside_manifest fs)
        → cond b (plain.fact_of f ∷ beside_manifest (map shown_file fs)) (beside_manifest (map shown_file fs)) ≡ map plain.fact_of (cond b (f ∷ plain.beside_manifest fs) (plain.beside_manifest fs))
    by_test true e = ap (λ (l : List Fact). plain.fact_of f ∷ l) e
    by_test false e = e

-- no index's text is a blob's
no_blob : (layout : Layout) (a : Archive) (p : List ℕ) → data_of (text_by layout a) ≡ Ok p → ⊥
unfolding dynamic_text fixed_text
no_blob dynamic a p is =
    let first : 28 ≡ 66 = ap (λ l. get_or l 0 0) (HasParts-from_data_of (text_by dynamic a) p is).begins in
    omega (arith, first)
no_blob (fixed size cut) a p is =
    let first : 47 ≡ 66 = ap (λ l. get_or l 0 0) (HasParts-from_data_of (text_by (fixed size cut) a) p is).begins in
    omega (arith, first)

rest_is : (contents : List ℕ) → drop 4 (drop 8 (blobs.blob contents)) ≡ contents
unfolding blobs.blob
rest_is contents = refl

archive_is : (a : Archive) → file_text (archive a) ≡ text_by a.layout a
unfolding file_text archive_text
archive_is a = refl

blob_is : (contents : List ℕ) → file_text (blob contents) ≡ blobs.blob contents
unfolding file_text
blob_is contents = refl

content_data : (c : Content) → IsOk (data_of (file_text c)) → result_ok (data_of (file_text c)) ≡ plain.blob_data c
content_data (archive a) ok = by_result (data_of (file_text (archive a))) refl ok
  where
    by_result : (r : Result (List ℕ) BadBlob) → data_of (file_text (archive a)) ≡ r → IsOk r → result_ok r ≡ None
    by_result (Ok p) e ok = absurd (no_blob a.layout a p (ap data_of (sym (archive_is a)) ∙ e))
    by_result (Err x) e ok = refl
content_data (blob contents) ok = by_result (data_of (file_text (blob contents))) refl ok
  where
    by_result : (r : Result (List ℕ) BadBlob) → data_of (file_text (blob contents)) ≡ r → IsOk r → result_ok r ≡ Some contents
    by_result (Ok p) e ok =
        let same : contents ≡ p = sym (rest_is contents) ∙ (HasParts-from_data_of (blobs.blob contents) p (ap data_of (sym (blob_is contents)) ∙ e)).rest in
        ap (λ q. Some q) (sym same)
    by_result (Err x) e ok = cc

data_same : (files : List File) → HoldsBlob (manifest_text files) → data_in (manifest_text files) ≡ plain.manifest_data files
data_same files holds = by_file (file_named manifest_name files) holds
  where
    by_file : (o : Option File) → HoldsBlob (option_map (λ f. file_text f.content) o) → data_in (option_map (λ f. file_text f.content) o) ≡ plain.data_in o
    by_file None h = refl
    by_file (Some f) h = content_data f.content h

pub finish-agrees : (w : Writer) → HoldsBlob (shown w).manifest → finish_check (shown w) ≡ plain.finish_check w
unfolding finish_check manifest_from plain.finish_check plain.listing_of shown
finish-agrees w holds =
    ap₂ (λ n o. unless (OpenIndexes n) (n == 0) >>= λ _. or_else NoFile o >>= λ bytes. manifest_from w.key (map shown_file w.files) bytes)
    (length-map w.begun shown_begun) (data_same w.files holds)
    ∙ ap (λ facts. unless (OpenIndexes (length w.begun)) (length w.begun == 0) >>= λ _. or_else NoFile (plain.manifest_data w.files)
    >>= λ bytes. want_manifest bytes >>= λ m. if_none mismatch_refusal (mismatch m.key m.files w.key facts) >>= λ _. Ok m) (beside_same w.files)
