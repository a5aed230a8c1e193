-- Which names of the disk matter for a writer, and for the snapshots beside it.
use Rattle.std.proofs.Common.{◌≡◌, ◌≢◌, ℕ, ◌<◌, true, get_or, List, [], ◌∷◌, Some, refl, ap, ◌∙◌, arith}
use Rattle.std.specs.Bool.{IsTrue}
use Rattle.std.specs.FinMap.{get}
use Rattle.std.specs.List.{All, Contains, flat_map}
use Rattle.std.proofs.lemmas.List.Elements.{All-nil, All-head, All-tail, All-append, All-contains}
use Rattle.sha2.specs.Sha256.{sha256}
use Rattle.disk_trait.specs.Files.{Files}
use Rattle.store_types.specs.declared.names.SnapshotKey.{SnapshotKey}
use Rattle.store_types.specs.FileNames.{manifest_name}
use Rattle.store_types.specs.KeyOrder.{same_group_equiv}
use Rattle.store_types.specs.Names.{IsKey, same_group, group_of_key}
use Rattle.store_types.proofs.KeyTexts.{no_slash}
use Rattle.blob_codec.specs.Blob.{blob}
use Rattle.store_files.specs.Archive.{File, Snapshot, pieces_of}
use Rattle.store_model.specs.Store.{Store, Writer, writer, session}
use Rattle.store_files.specs.Folder.{file_path}
use Rattle.store_model.specs.WriterSteps.{snapshot_of}
use Rattle.store_model.specs.Stands.{HoldsPieces}
use Rattle.store_files.specs.Folder.{chunk_name}
use Rattle.store_model.proofs.Paths.{same_path, content_plain}
use Rattle.store_model.proofs.StandsLemmas.{Apart, apart_file}
use Rattle.core_state.specs.Holds.{IsSound, IsWriter, HasUploads}

-- ---- keys

newer_not : (w : Writer) (x : Snapshot) → (IsTrue (same_group (group_of_key x.key) (group_of_key w.key)) → (x.key).time < (w.key).time) → x.key ≢ w.key
newer_not w x older e =
    let same : same_group (group_of_key x.key) (group_of_key w.key) ≡ true = ap (λ k. same_group (group_of_key k) (group_of_key w.key)) e ∙ same_group_equiv.refl (group_of_key w.key) in
    let before = older same in
    let time : (x.key).time ≡ (w.key).time = ap (λ (k : SnapshotKey). k.time) e in
    absurd (omega arith)

-- a writer's snapshot is not finished
pub fresh : (snapshots : List Snapshot) (w : Writer) → IsWriter snapshots w → All (λ x. x.key ≢ w.key) snapshots
fresh snapshots w h = λ k d lt. newer_not w (get_or snapshots k d) (h.newer k d lt)

-- writers of two lanes have other snapshots
pub keys_apart : (s : Store) (i j : ℕ) (v w : Writer) → IsSound s → i ≢ j → session s i ≡ writer v → session s j ≡ writer w → v.key ≢ w.key
keys_apart s i j v w h ne a b e =
    ne (h.apart i j v w a b (ap (λ k. same_group (group_of_key k) (group_of_key w.key)) e ∙ same_group_equiv.refl (group_of_key w.key)))

-- ---- names

pub names_plain : (snapshots : List Snapshot) (w : Writer) → IsWriter snapshots w → All (λ f. no_slash f.name ≡ true) w.files
names_plain snapshots w h = λ i d lt. content_plain (get_or w.files i d).content (get_or w.files i d).name (h.kinds i d lt)

-- a writer's file, other than the manifest, doesn't matter for the snapshots
pub apart_upload : (s : Store) (w : Writer) (name : List ℕ) → IsSound s → IsWriter s.snapshots w → no_slash name ≡ true → name ≢ manifest_name → Apart s.snapshots (file_path w.key name)
apart_upload s w name sound h plain other = apart_file s.snapshots w.key name sound.each h.key plain other (fresh s.snapshots w h)

-- the name is none of the writer's
abbrev pub IsOff : Writer → List ℕ → Type 0
IsOff w q = All (λ f. file_path w.key f.name ≢ q) w.files

-- nor is a file of another snapshot
pub off_other : (snapshots : List Snapshot) (w : Writer) (key : SnapshotKey) (name : List ℕ) → IsWriter snapshots w → IsKey key → no_slash name ≡ true → w.key ≢ key → IsOff w (file_path key name)
off_other snapshots w key name h is plain ne = λ i d lt e.
    ne (same_path w.key key (get_or w.files i d).name name h.key is (names_plain snapshots w h i d lt) plain e).0

-- its uploads are there where no name of theirs has changed
pub uploads_off : (m n : Files) (w : Writer) (Changed : List ℕ → Type 0) → ((q : List ℕ) → (Changed q → ⊥) → get n q ≡ get m q) → ((q : List ℕ) → Changed q → IsOff w q) → ((digest q : List ℕ) → Changed q → chunk_name digest ≢ q)
    → HasUploads m w → HasUploads n w
uploads_off m n w Changed same off chunks h = record {
  files = λ i d lt other.
      same (file_path w.key (get_or w.files i d).name) (λ c. off (file_path w.key (get_or w.files i d).name) c i d lt refl) ∙ h.files i d lt other;
  pool = λ i d lt.
      let name = chunk_name (sha256 (get_or w.pool i d)) in
      same name (λ c. chunks (sha256 (get_or w.pool i d)) name c refl) ∙ h.pool i d lt;
}

-- ---- the pieces of a writer's files

held_in : (P : List ℕ → Type 0) (pool : List (List ℕ)) (fs : List File) → All P pool → All (λ f. All (Contains pool) (pieces_of f.content)) fs → All P (flat_map (λ f. pieces_of f.content) fs)
held_in P pool [] held each = All-nil P
held_in P pool (f ∷ fs) held each =
    All-append P (pieces_of f.content) (flat_map (λ g. pieces_of g.content) fs)
    (λ i d lt. All-contains P pool (get_or (pieces_of f.content) i d) held (All-head (λ (g : File). All (Contains pool) (pieces_of g.content)) f fs each i d lt))
    (held_in P pool fs held (All-tail (λ (g : File). All (Contains pool) (pieces_of g.content)) f fs each))

-- each is there under its digest
pub pieces_there : (m : Files) (snapshots : List Snapshot) (w : Writer) → IsWriter snapshots w → HasUploads m w → HoldsPieces m (snapshot_of w)
pieces_there m snapshots w h uploads =
    held_in (λ p. get m (chunk_name (sha256 p)) ≡ Some (blob p)) w.pool w.files uploads.pool h.pooled
