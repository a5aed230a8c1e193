-- Names below the folder of a snapshot that a list lacks, whatever stands behind its key, don't matter for the list.
use Rattle.std.proofs.Common.{◌≡◌, ◌≢◌, ⊎_elim, inl, inr, ◌⊎◌, ℕ, true, get_or, length, drop, List, ◌∷◌, ◌++◌, append_assoc, length-append, refl, sym, ap, subst, ◌∙◌, arith}
use Rattle.std.specs.Prelude.{codes}
use Rattle.std.specs.FinMap.{get}
use Rattle.std.specs.List.{All, Contains, join_with_byte}
use Rattle.std.proofs.Math.Seq.{drop-append_seam}
use Rattle.std.proofs.lemmas.List.Elements.{All-contains}
use Rattle.disk_trait.specs.Files.{Files, SameBut}
use Rattle.file_install.specs.Install.{temporary, installed, Installs}
use Rattle.file_install.proofs.InstallLaws.{installed_other}
use Rattle.store_types.specs.declared.names.SnapshotKey.{SnapshotKey}
use Rattle.store_types.specs.FileNames.{manifest_name}
use Rattle.store_types.specs.Names.{IsKey, group_text, key_text, kind_text, parts}
use Rattle.store_types.specs.Times.{time_text}
use Rattle.store_types.specs.declared.names.Kind.{Kind}
use Rattle.store_types.specs.declared.names.Kind.TheVariants.{Ct, Host, Vm}
use Rattle.store_types.proofs.KeyLaws.{key_texts}
use Rattle.store_types.proofs.KeyTexts.{no_slash, first_part, id_no_slash, time_no_slash, parts-join}
use Rattle.store_files.specs.Archive.{Snapshot}
use Rattle.store_files.specs.Folder.{file_path}
use Rattle.store_model.specs.Stands.{StandsFor, IsSnapshot}
use Rattle.store_model.proofs.Paths.{chunk_apart}
use Rattle.store_model.proofs.StandsLemmas.{Apart, agrees_off, stands_agree}
use Rattle.snapshot_files.specs.Forgotten.{MayLose}

-- ---- paths

kind_no_slash : (k : Kind) → no_slash (kind_text k) ≡ true
kind_no_slash Ct = refl
kind_no_slash Host = refl
kind_no_slash Vm = refl

pub from_kind : (k : SnapshotKey) (name : List ℕ) → file_path k name ≡ kind_text k.kind ++ 47 ∷ (k.id ++ 47 ∷ (time_text k.time ++ 47 ∷ name))
unfolding key_text group_text
from_kind k name = simp append_assoc refl

path_parts : (k : SnapshotKey) (name : List ℕ) → IsKey k → parts (file_path k name) ≡ kind_text k.kind ∷ k.id ∷ time_text k.time ∷ parts name
path_parts k name key =
    ap parts (from_kind k name) ∙ first_part (kind_text k.kind) (k.id ++ 47 ∷ (time_text k.time ++ 47 ∷ name)) (kind_no_slash k.kind)
    ∙ ap (λ ps. kind_text k.kind ∷ ps) (first_part k.id (time_text k.time ++ 47 ∷ name) (id_no_slash k.id key.0))
    ∙ ap (λ ps. kind_text k.kind ∷ k.id ∷ ps) (first_part (time_text k.time) name (time_no_slash k.time))

same_texts : (a b : SnapshotKey) → kind_text a.kind ≡ kind_text b.kind → a.id ≡ b.id → time_text a.time ≡ time_text b.time → key_text a ≡ key_text b
unfolding key_text group_text
same_texts a b kind id time = cc

-- equal paths have equal keys, and the same behind them
pub any_path : (a b : SnapshotKey) (n m : List ℕ) → IsKey a → IsKey b → file_path a n ≡ file_path b m → (a ≡ b) × (n ≡ m)
any_path a b n m key_a key_b e =
    let all = sym (path_parts a n key_a) ∙ ap parts e ∙ path_parts b m key_b in
    let kind : kind_text a.kind ≡ kind_text b.kind = cc in
    let id : a.id ≡ b.id = cc in
    let time : time_text a.time ≡ time_text b.time = cc in
    let rest : parts n ≡ parts m = cc in
    (key_texts a b key_a key_b (same_texts a b kind id time), sym (parts-join n) ∙ ap (join_with_byte 47) rest ∙ parts-join m)

-- a temporary name is that of another file in the same folder, and no manifest's
pub temporary_in : (key : SnapshotKey) (name : List ℕ) → temporary (file_path key name) ≡ file_path key (name ++ codes ".tmp")
temporary_in key name = simp append_assoc refl

not_manifest : (name : List ℕ) → name ++ codes ".tmp" ≢ manifest_name
not_manifest name e =
    let len : length name ≡ 11 = omega (arith, ap length e, length-append name (codes ".tmp")) in
    let seam : drop 11 (name ++ codes ".tmp") ≡ codes ".tmp" = subst (λ n. drop n (name ++ codes ".tmp") ≡ codes ".tmp") len (drop-append_seam name (codes ".tmp")) in
    let last : codes ".tmp" ≡ drop 11 manifest_name = sym seam ∙ ap (drop 11) e in
    cc

module _ (snapshots : List Snapshot) (key : SnapshotKey) (each : All IsSnapshot snapshots) (is : IsKey key) (lacks : All (λ x. x.key ≢ key) snapshots) where
  pub apart_any : (name : List ℕ) → name ≢ manifest_name → Apart snapshots (file_path key name)
  apart_any name other = record {
    manifests = λ k is_key e. other (sym (any_path k key manifest_name name is_key is e).1);
    files = λ i d lt. λ j f lt2 e.
        let x = get_or snapshots i d in
        lacks i d lt (any_path x.key key (get_or x.files j f).name name (each i d lt).key is e).0;
    chunks = λ digest. chunk_apart digest key name;
  }

  pub apart_staged : (name : List ℕ) → Apart snapshots (temporary (file_path key name))
  apart_staged name = subst (Apart snapshots) (sym (temporary_in key name)) (apart_any (name ++ codes ".tmp") (not_manifest name))

-- ---- what changes at such names

pub stands_off : (snapshots : List Snapshot) (name : List ℕ) (b c : Files) → Apart snapshots name → SameBut name b c → StandsFor b snapshots → StandsFor c snapshots
stands_off snapshots name b c apart same s =
    stands_agree b c snapshots (agrees_off b c snapshots (λ q. q ≡ name) (λ q other. same q other) (λ q e. subst (Apart snapshots) (sym e) apart)) s

pub stands_with : (snapshots : List Snapshot) (path bytes : List ℕ) (b : Files) → Apart snapshots path → Apart snapshots (temporary path) → StandsFor b snapshots → StandsFor (installed b path bytes) snapshots
stands_with snapshots path bytes b apart staged s =
    stands_agree b (installed b path bytes) snapshots
    (agrees_off b (installed b path bytes) snapshots (λ q. (q ≡ path) ⊎ (q ≡ temporary path))
    (λ q other. installed_other b path bytes q (λ e. other (inl e)) (λ e. other (inr e)))
    (λ q. ⊎_elim (λ e. subst (Apart snapshots) (sym e) apart) (λ e. subst (Apart snapshots) (sym e) staged))) s

pub stands_installs : (snapshots : List Snapshot) (path bytes : List ℕ) (read b c : Files) → Apart snapshots path → Apart snapshots (temporary path) → Installs read path bytes b c → StandsFor b snapshots → StandsFor c snapshots
stands_installs snapshots path bytes read b c apart staged (inl same) s = stands_off snapshots (temporary path) b c staged same s
stands_installs snapshots path bytes read b c apart staged (inr is) s = subst (λ (m : Files). StandsFor m snapshots) (sym is.1) (stands_with snapshots path bytes b apart staged s)

pub stands_loses : (snapshots : List Snapshot) (paths : List (List ℕ)) (b c : Files) → All (Apart snapshots) paths → MayLose paths b c → StandsFor b snapshots → StandsFor c snapshots
stands_loses snapshots paths b c apart lose s =
    stands_agree b c snapshots
    (agrees_off b c snapshots (Contains paths)
    (λ q off. ⊎_elim {C = get c q ≡ get b q} (λ same. same) (λ gone. absurd (off gone.1)) (lose q))
    (λ q has. All-contains (Apart snapshots) paths q apart has)) s
