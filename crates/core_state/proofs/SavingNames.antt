-- The book's name is no path of a snapshot's file and no chunk's, so what stands there does not matter for the store.
use Rattle.std.proofs.Common.{◌≡◌, ◌≢◌, ◌<◌, ℕ, get_or, take, drop, List, ◌∷◌, ◌++◌, sym, ap, subst, ◌∙◌, arith}
use Rattle.std.specs.Prelude.{codes}
use Rattle.std.specs.FinMap.{get}
use Rattle.std.specs.List.{All}
use Rattle.std.proofs.lemmas.List.Elements.{All-append, All-push, All-take}
use Rattle.hex.specs.Hex.{encode_lower}
use Rattle.sha2.specs.Sha256.{sha256}
use Rattle.disk_trait.specs.Files.{Files}
use Rattle.file_install.specs.Install.{temporary, installed, Installs}
use Rattle.file_install.proofs.InstallLaws.{installed_other, installs_other}
use Rattle.store_types.specs.declared.names.Kind.{Kind}
use Rattle.store_types.specs.declared.names.Kind.TheVariants.{Ct, Host, Vm}
use Rattle.store_types.specs.declared.names.SnapshotKey.{SnapshotKey}
use Rattle.store_types.specs.FileNames.{manifest_name}
use Rattle.store_types.specs.Names.{kind_text}
use Rattle.store_files.specs.Archive.{Snapshot}
use Rattle.store_files.specs.Folder.{chunk_name, file_path}
use Rattle.store_model.specs.Stands.{StandsFor}
use Rattle.store_model.specs.Store.{Store}
use Rattle.store_model.proofs.StandsLemmas.{stands_agree}
use Rattle.chunk_store.proofs.Names.{digits_small}
use Rattle.store_history.specs.Saved.{book_name}
use Rattle.store_history.specs.ChunkFiles.{HoldsOnly}
use Rattle.core_state.specs.Holds.{IsOnDisk}
use Rattle.core_state.proofs.AnyPaths.{from_kind}

-- ---- maps that agree where it matters

-- at each path of a file and under each chunk's name, n has what m has
pub record SameStore (m n : Files) : Type 0 where
  pub files : (key : SnapshotKey) (name : List ℕ) → get n (file_path key name) ≡ get m (file_path key name)
  pub chunks : (digest : List ℕ) → get n (chunk_name digest) ≡ get m (chunk_name digest)

module _ (m n : Files) (same : SameStore m n) where
  pub stands_same : (snapshots : List Snapshot) → StandsFor m snapshots → StandsFor n snapshots
  stands_same snapshots s = stands_agree m n snapshots
      (record {
        manifests = λ key is. same.files key manifest_name;
        files = λ i d lt. λ j f lt2. same.files (get_or snapshots i d).key (get_or (get_or snapshots i d).files j f).name;
        chunks = same.chunks;
      }) s

  pub on_disk_same : (s : Store) → IsOnDisk m s → IsOnDisk n s
  on_disk_same s disk = record {
    snapshots = stands_same s.snapshots disk.snapshots;
    writers = λ lane w at. let has = disk.writers lane w at in record {
      files = λ i d lt other. same.files w.key (get_or w.files i d).name ∙ has.files i d lt other;
      pool = λ i d lt. same.chunks (sha256 (get_or w.pool i d)) ∙ has.pool i d lt;
    };
  }

  pub only_as_before : (pieces : List (List ℕ)) → HoldsOnly m pieces → HoldsOnly n pieces
  only_as_before pieces only = λ p there. only p (sym (same.chunks (sha256 p)) ∙ there)

-- ---- the book's name

kind_head : (kind : Kind) (rest : List ℕ) → get_or (kind_text kind ++ rest) 0 0 ≡ 46 → ⊥
kind_head Ct rest e = omega (arith, e)
kind_head Host rest e = omega (arith, e)
kind_head Vm rest e = omega (arith, e)

-- a snapshot's path begins with its kind, and not with a dot
dot_apart : (rest : List ℕ) (key : SnapshotKey) (name : List ℕ) → file_path key name ≢ 46 ∷ rest
dot_apart rest key name e = kind_head key.kind _ (ap (λ q. get_or q 0 0) (sym (from_kind key name) ∙ e))

abbrev AreSmall : List ℕ → Type 0
AreSmall = All (λ b. b < 103)

-- what stands behind the chunks' folder
abbrev in_folder : List ℕ → List ℕ
in_folder digest = take 4 (encode_lower digest) ++ codes "/" ++ encode_lower digest

in_folder_small : (digest : List ℕ) → AreSmall (in_folder digest)
in_folder_small digest =
    All-append (λ b. b < 103) (take 4 (encode_lower digest) ++ codes "/") (encode_lower digest)
    (All-push (λ b. b < 103) (take 4 (encode_lower digest)) 47 (All-take (λ b. b < 103) 4 (encode_lower digest) (digits_small digest)) (omega arith)) (digits_small digest)

-- an `o` is no hex digit
letters_apart : (digest rest : List ℕ) → in_folder digest ≢ 98 ∷ 111 ∷ rest
letters_apart digest rest e =
    let small : AreSmall (98 ∷ 111 ∷ rest) = subst AreSmall e (in_folder_small digest) in
    let o : 111 < 103 = small 1 0 (omega arith) in
    omega (arith, o)

file_not_book : (key : SnapshotKey) (name : List ℕ) → file_path key name ≢ book_name
file_not_book key name = dot_apart _ key name

file_not_staged : (key : SnapshotKey) (name : List ℕ) → file_path key name ≢ temporary book_name
file_not_staged key name = dot_apart _ key name

chunk_not_book : (digest : List ℕ) → chunk_name digest ≢ book_name
chunk_not_book digest e = letters_apart digest (codes "ok") (ap (drop 8) e)

chunk_not_staged : (digest : List ℕ) → chunk_name digest ≢ temporary book_name
chunk_not_staged digest e = letters_apart digest (codes "ok.tmp") (ap (drop 8) e)

-- ---- the book is put

pub same_installed : (m : Files) (text : List ℕ) → SameStore m (installed m book_name text)
same_installed m text = record {
  files = λ key name. installed_other m book_name text (file_path key name) (file_not_book key name) (file_not_staged key name);
  chunks = λ digest. installed_other m book_name text (chunk_name digest) (chunk_not_book digest) (chunk_not_staged digest);
}

pub same_installs : (read : Files) (text : List ℕ) (b c : Files) → Installs read book_name text b c → SameStore b c
same_installs read text b c installs = record {
  files = λ key name. installs_other read book_name text b c (file_path key name) installs (file_not_book key name) (file_not_staged key name);
  chunks = λ digest. installs_other read book_name text b c (chunk_name digest) installs (chunk_not_book digest) (chunk_not_staged digest);
}
