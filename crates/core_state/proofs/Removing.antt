-- What a FORGET that is not refused takes away: a finished snapshot's manifest, and only then its other files.
use Rattle.std.proofs.Common.{◌≡◌, ℕ, Bool, true, false, not, ◌||◌, get_or, map, List, Some, Ok, Err, refl, ap, ◌∙◌}
use Rattle.std.proofs.lemmas.List.Elements.{All-filter, All-map}
use Rattle.std.specs.Prelude.{IsTrue}
use Rattle.std.specs.List.{All, filter}
use Rattle.std.specs.Option.{option_map}
use Rattle.std.specs.Result.{result_ok}
use Rattle.std.specs.Str.{bytes_eq}
use Rattle.store_types.specs.declared.names.SnapshotKey.{SnapshotKey}
use Rattle.store_types.specs.declared.refusal.Refusal.{Refusal}
use Rattle.store_types.specs.FileNames.{is_blob_name, is_dynamic_name, is_file_name, is_fixed_name, is_index_name, manifest_name}
use Rattle.store_types.specs.Names.{key_of, same_key}
use Rattle.store_types.proofs.OrderLaws.{same_keys}
use Rattle.store_files.specs.Archive.{Content, Layout, Snapshot, archive, blob, dynamic, fixed}
use Rattle.store_files.specs.Folder.{file_path, manifest_path}
use Rattle.wire_commands.specs.declared.command.Command.TheVariants.{Forget}
use Rattle.wire_commands.specs.declared.reply.Reply.TheVariants.{Done}
use Rattle.store_model.specs.AdminSteps.{forget}
use Rattle.store_model.specs.Steps.{outcome}
use Rattle.store_model.proofs.Done.{done}
use Rattle.store_model.proofs.HeadLemmas.{idle_key_found}
use Rattle.store_model.specs.Stands.{IsSnapshot, names_content}
use Rattle.store_model.specs.Store.{Store, Outcome, snapshot_named, without_snapshot}
use Rattle.core_state.specs.declared.kept.StoredFile.{StoredFile}
use Rattle.core_state.specs.Changes.{forgets, forgotten, names_beside}
use Rattle.core_state.specs.Heads.{named_kept}
use Rattle.core_state.specs.Kept.{KeptAt}
use Rattle.core_state.specs.Shown.{shown_file, shown_files, shown_snapshot}
use Rattle.core_state.proofs.Finding.{found_in, found_passes}
use Rattle.core_state.proofs.Found.{kept_is}
use Rattle.core_state.proofs.Naming.{named_is}

-- ---- the step

abbrev pub forgot : Store → SnapshotKey → Store
forgot s key = record s { snapshots = without_snapshot key s.snapshots }

-- it is refused, or the text names a finished snapshot
pub data ForgetIs (s : Store) (lane : ℕ) (text : List ℕ) : Type 0 where
  fails : (r : Refusal) → forget s lane text ≡ Err r → ForgetIs s lane text
  gives : (key : SnapshotKey) (x : Snapshot) → key_of text ≡ Some key → snapshot_named key s.snapshots ≡ Some x → forget s lane text ≡ Ok (forgot s key, Done) → ForgetIs s lane text

pub forget_is : (s : Store) (lane : ℕ) (text : List ℕ) → ForgetIs s lane text
unfolding outcome
forget_is s lane text = by_outcome (forget s lane text) refl
  where
    by_outcome : (o : Outcome) → forget s lane text ≡ o → ForgetIs s lane text
    by_outcome (Ok after) e = let d = done s lane 0 (Forget text) after e in gives d.0 d.1 (idle_key_found s lane text d.0 d.2).1 d.3 (e ∙ ap (λ x. Ok x) d.5)
    by_outcome (Err r) e = fails r e

-- ---- and what it takes away

-- each of a snapshot's files has a file's name
or_left : (a b : Bool) → a ≡ true → (a || b) ≡ true
or_left true b e = refl
or_left false b e = cc

or_right : (a b : Bool) → b ≡ true → (a || b) ≡ true
or_right true b e = refl
or_right false b e = e

index_file : (name : List ℕ) → is_index_name name ≡ true → is_file_name name ≡ true
index_file name e = or_left (is_index_name name) (is_blob_name name) e

content_file : (c : Content) (name : List ℕ) → names_content c name ≡ true → is_file_name name ≡ true
content_file (blob bytes) name e = or_right (is_index_name name) (is_blob_name name) e
content_file (archive a) name e = by_layout a.layout e
  where
    by_layout : (l : Layout) → elim l [ dynamic ↦ is_dynamic_name name | fixed size chunk_size ↦ is_fixed_name name ] ≡ true → is_file_name name ≡ true
    by_layout dynamic e = index_file name (or_right (is_fixed_name name) (is_dynamic_name name) e)
    by_layout (fixed size chunk_size) e = index_file name (or_left (is_fixed_name name) (is_dynamic_name name) e)

abbrev pub beside : Snapshot → List (List ℕ)
beside x = names_beside (shown_files x.key x.files)

pub are_files : (x : Snapshot) → IsSnapshot x → All (λ name. IsTrue (is_file_name name)) (beside x)
are_files x is =
    All-map (λ name. IsTrue (is_file_name name)) (λ (f : StoredFile). f.name) (filter (λ f. not (bytes_eq f.name manifest_name)) (shown_files x.key x.files))
    (All-filter (λ f. not (bytes_eq f.name manifest_name)) (λ (f : StoredFile). IsTrue (is_file_name f.name)) (shown_files x.key x.files)
    (All-map (λ (f : StoredFile). IsTrue (is_file_name f.name)) (shown_file x.key) x.files
    (λ i d lt. let f = get_or x.files i d in content_file f.content f.name (is.kinds i d lt))))

pub found_key : (snapshots : List Snapshot) (key : SnapshotKey) (x : Snapshot) → snapshot_named key snapshots ≡ Some x → x.key ≡ key
found_key snapshots key x there = (same_keys x.key key).0 (found_passes (λ (y : Snapshot). same_key y.key key) snapshots x there)

pub found_whole : (snapshots : List Snapshot) (key : SnapshotKey) (x : Snapshot) → All IsSnapshot snapshots → snapshot_named key snapshots ≡ Some x → IsSnapshot x
found_whole snapshots key x each there = found_in IsSnapshot (λ (y : Snapshot). same_key y.key key) snapshots x each there

pub forget_changes : (text : List ℕ) (at : KeptAt) (snapshots : List Snapshot) (key : SnapshotKey) (x : Snapshot) → map (λ x. x.kept) at.catalogue ≡ map shown_snapshot snapshots
    → key_of text ≡ Some key → snapshot_named key snapshots ≡ Some x
    → forgotten (result_ok (named_kept text at)) ≡ forgets (manifest_path x.key) (map (file_path x.key) (beside x))
forget_changes text at snapshots key x shown is there =
    ap (λ r. forgotten (result_ok r)) (named_is text at key (shown_snapshot x) is (kept_is at.catalogue snapshots key shown ∙ ap (option_map shown_snapshot) there))
