-- What is found in the catalogue is the plain store's.
use Rattle.std.proofs.Common.{◌≡◌, ℕ, Bool, true, List, [], map, Option, Some, None, refl, sym, ap, subst, ◌∙◌}
use Rattle.std.proofs.lemmas.Slice.Eq.{bytes_eq-Decides}
use Rattle.std.specs.FinMap.{get}
use Rattle.std.specs.List.{All, find}
use Rattle.std.specs.Option.{option_map}
use Rattle.std.specs.Str.{bytes_eq}
use Rattle.disk_trait.specs.Files.{Files}
use Rattle.store_types.specs.declared.names.SnapshotKey.{SnapshotKey}
use Rattle.store_types.specs.Names.{same_key}
use Rattle.store_files.specs.Archive.{File, Snapshot, file_named, file_text}
use Rattle.store_model.specs.Store.{snapshot_named}
use Rattle.store_files.specs.Folder.{file_path}
use Rattle.store_model.specs.Stands.{IsSnapshot, HoldsFiles, FitsContent, names_content}
use Rattle.core_state.specs.declared.kept.Listed.{Listed}
use Rattle.core_state.specs.declared.kept.Kept.{Kept}
use Rattle.core_state.specs.Found.{kept_named, path_named, path_of_kept, path_in}
use Rattle.core_state.specs.Shown.{shown_snapshot, shown_file, shown_files}
use Rattle.core_state.proofs.Finding.{find_map, mapped, no_mapped, found_in, found_passes}

-- ---- a snapshot

pub kept_is : (catalogue : List Listed) (snapshots : List Snapshot) (key : SnapshotKey) → map (λ x. x.kept) catalogue ≡ map shown_snapshot snapshots
    → kept_named key catalogue ≡ option_map shown_snapshot (snapshot_named key snapshots)
kept_is catalogue snapshots key is =
    let p : Kept → Bool = λ k. same_key k.key key in
    sym (find_map (λ x. x.kept) p catalogue) ∙ ap (find p) is ∙ find_map shown_snapshot p snapshots

pub not_kept : (catalogue : List Listed) (snapshots : List Snapshot) (key : SnapshotKey) → map (λ x. x.kept) catalogue ≡ map shown_snapshot snapshots
    → kept_named key catalogue ≡ None → snapshot_named key snapshots ≡ None
not_kept catalogue snapshots key is missing = no_mapped shown_snapshot (snapshot_named key snapshots) (sym (kept_is catalogue snapshots key is) ∙ missing)

-- ---- a file

-- the snapshot, its file of the name, and where that stands
pub record IsThere (snapshots : List Snapshot) (key : SnapshotKey) (name path : List ℕ) : Type 0 where
  pub snapshot : Snapshot
  pub file : File
  pub kept : snapshot_named key snapshots ≡ Some snapshot
  pub named : file_named name snapshot.files ≡ Some file
  pub path_is : path ≡ file_path snapshot.key file.name

path_is : (name : List ℕ) (x : Snapshot) → path_named name (shown_files x.key x.files) ≡ option_map (λ f. file_path x.key f.name) (file_named name x.files)
path_is name x = ap (option_map (λ f. f.path)) (find_map (shown_file x.key) (λ f. bytes_eq f.name name) x.files) ∙ twice (file_named name x.files)
  where
    twice : (o : Option File) → option_map (λ f. f.path) (option_map (shown_file x.key) o) ≡ option_map (λ f. file_path x.key f.name) o
    twice None = refl
    twice (Some f) = refl

kept_path : (name : List ℕ) (catalogue : List Listed) (snapshots : List Snapshot) (key : SnapshotKey) → map (λ x. x.kept) catalogue ≡ map shown_snapshot snapshots
    → path_in key name catalogue ≡ path_of_kept name (option_map shown_snapshot (snapshot_named key snapshots))
kept_path name catalogue snapshots key is = ap (path_of_kept name) (kept_is catalogue snapshots key is)

pub is_there : (name : List ℕ) (catalogue : List Listed) (snapshots : List Snapshot) (key : SnapshotKey) (path : List ℕ) → map (λ x. x.kept) catalogue ≡ map shown_snapshot snapshots
    → path_in key name catalogue ≡ Some path → IsThere snapshots key name path
is_there name catalogue snapshots key path is found = by_snapshot (snapshot_named key snapshots) refl (sym (kept_path name catalogue snapshots key is) ∙ found)
  where
    by_snapshot : (o : Option Snapshot) → snapshot_named key snapshots ≡ o → path_of_kept name (option_map shown_snapshot o) ≡ Some path → IsThere snapshots key name path
    by_snapshot None at e = cc
    by_snapshot (Some x) at e = let f = mapped (λ f. file_path x.key f.name) (file_named name x.files) path (sym (path_is name x) ∙ e) in
        record { snapshot = x; file = f.0; kept = at; named = f.1; path_is = f.2 }

-- the snapshot has no such file
pub not_there : (name : List ℕ) (catalogue : List Listed) (snapshots : List Snapshot) (key : SnapshotKey) → map (λ x. x.kept) catalogue ≡ map shown_snapshot snapshots
    → path_in key name catalogue ≡ None → file_named name (elim (snapshot_named key snapshots) [ None ↦ [] | Some x ↦ x.files ]) ≡ None
not_there name catalogue snapshots key is missing = by_snapshot (snapshot_named key snapshots) (sym (kept_path name catalogue snapshots key is) ∙ missing)
  where
    by_snapshot : (o : Option Snapshot) → path_of_kept name (option_map shown_snapshot o) ≡ None → file_named name (elim o [ None ↦ [] | Some x ↦ x.files ]) ≡ None
    by_snapshot None e = refl
    by_snapshot (Some x) e = no_mapped (λ f. file_path x.key f.name) (file_named name x.files) (sym (path_is name x) ∙ e)

pub there_named : (snapshots : List Snapshot) (key : SnapshotKey) (name path : List ℕ) (t : IsThere snapshots key name path)
    → file_named name (elim (snapshot_named key snapshots) [ None ↦ [] | Some x ↦ x.files ]) ≡ Some t.file
there_named snapshots key name path t = ap (λ o. file_named name (elim o [ None ↦ [] | Some x ↦ x.files ])) t.kept ∙ t.named

-- its text stands there
pub there_text : (m : Files) (snapshots : List Snapshot) (key : SnapshotKey) (name path : List ℕ) (t : IsThere snapshots key name path) → All (HoldsFiles m) snapshots → get m path ≡ Some (file_text (t.file).content)
there_text m snapshots key name path t all =
    let x = t.snapshot in
    let files : HoldsFiles m x = found_in (HoldsFiles m) _ snapshots x all t.kept in
    ap (get m) t.path_is ∙ found_in (λ f. get m (file_path x.key f.name) ≡ Some (file_text f.content)) _ x.files t.file files t.named

-- its content is one of its name's kind
pub there_kind : (snapshots : List Snapshot) (key : SnapshotKey) (name path : List ℕ) (t : IsThere snapshots key name path) → All IsSnapshot snapshots → names_content (t.file).content name ≡ true
there_kind snapshots key name path t all =
    let x = t.snapshot in
    let is : IsSnapshot x = found_in IsSnapshot _ snapshots x all t.kept in
    let same : (t.file).name ≡ name = (bytes_eq-Decides (t.file).name name).0 (found_passes (λ f. bytes_eq f.name name) x.files t.file t.named) in
    subst (λ n. names_content (t.file).content n ≡ true) same (found_in (λ f. names_content f.content f.name ≡ true) _ x.files t.file is.kinds t.named)

pub there_fits : (snapshots : List Snapshot) (key : SnapshotKey) (name path : List ℕ) (t : IsThere snapshots key name path) → All IsSnapshot snapshots → FitsContent (t.file).content
there_fits snapshots key name path t all =
    let x = t.snapshot in
    let is : IsSnapshot x = found_in IsSnapshot _ snapshots x all t.kept in
    found_in (λ f. FitsContent f.content) _ x.files t.file is.contents t.named
