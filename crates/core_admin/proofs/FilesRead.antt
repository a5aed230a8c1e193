-- FILES is the store's.
use Rattle.std.proofs.Common.{◌≡◌, ◌≤◌, ℕ, length, map, take, List, Option, Some, None, Result, Ok, Err, refl, sym, ap, ◌∙◌}
use Rattle.std.proofs.lemmas.List.{take-map, take_all}
use Rattle.std.specs.FinMap.{get}
use Rattle.std.specs.List.{All}
use Rattle.std.specs.Option.{option_map}
use Rattle.disk_trait.specs.Files.{Files as Content}
use Rattle.store_types.specs.declared.names.SnapshotKey.{SnapshotKey}
use Rattle.store_types.specs.declared.refusal.Refusal.{Refusal}
use Rattle.store_types.specs.declared.refusal.Refusal.TheVariants.{NoSnapshot, Unreadable}
use Rattle.store_types.specs.Chain.Refusing.{◌>>=◌, if_none, or_else}
use Rattle.store_types.specs.Names.{same_key}
use Rattle.blob_codec.specs.Blob.{blob}
use Rattle.store_files.specs.Archive.{File, Snapshot}
use Rattle.wire_commands.specs.declared.rows.FileRow.{FileRow}
use Rattle.wire_commands.specs.declared.command.Command.TheVariants.{Files as FilesOf}
use Rattle.wire_commands.specs.declared.reply.Reply.TheVariants.{Files}
use Rattle.store_model.specs.AdminSteps.{file_rows, files}
use Rattle.store_model.specs.Heads as model
use Rattle.store_model.proofs.Done.{ok_same, passed}
use Rattle.store_model.specs.Stands.{IsSnapshot, HoldsFiles, file_limit}
use Rattle.store_files.specs.Folder.{manifest_path}
use Rattle.store_model.specs.Store.{Store, Outcome, snapshot_named}
use Rattle.store_model.specs.Steps.{outcome}
use Rattle.core_state.specs.declared.kept.Kept.{Kept}
use Rattle.core_state.specs.declared.kept.StoredFile.{StoredFile}
use Rattle.core_state.specs.Shown.{shown_file, shown_files, shown_snapshot}
use Rattle.core_state.proofs.Finding.{found_in}
use Rattle.core_state.proofs.Found.{kept_is}
use Rattle.core_state.proofs.Naming.{kept_whole}
use Rattle.core_admin.specs.FileRows.{rows_by}
use Rattle.core_admin.specs.FilesTold.{HasBytes, rows_in, rows_read, to_tell, whole}
use Rattle.core_state.specs.Found.{kept_named}
use Rattle.core_state.specs.Heads.{key_in, named_kept}
use Rattle.core_state.specs.Kept.{KeptAt}
use Rattle.snapshot_files.proofs.Manifests.{has_manifest}
use Rattle.core_admin.proofs.FactLemmas.{rows_are}
use Rattle.core_admin.proofs.Filtering.{map_twice}
use Rattle.core_admin.proofs.ListingRead.{listing_is}
use Rattle.core_admin.proofs.Told.{tells}

-- ---- what is read of a finished snapshot

names_are : (x : Snapshot) → length x.files ≤ 64 → map (λ (f : StoredFile). f.name) (take file_limit (shown_files x.key x.files)) ≡ map (λ (f : File). f.name) x.files
names_are x few =
    ap (map (λ (f : StoredFile). f.name)) (take-map (shown_file x.key) file_limit x.files)
    ∙ map_twice (shown_file x.key) (λ (f : StoredFile). f.name) (take file_limit x.files)
    ∙ ap (map (λ (f : File). f.name)) (take_all file_limit x.files few)

abbrev given : List FileRow → Result (List FileRow) Refusal
given rows = Ok rows

-- its rows are the plain store's
read_is : (m : Content) (x : Snapshot) → IsSnapshot x → HoldsFiles m x → HasBytes m (manifest_path x.key) → rows_read m (shown_snapshot x) ≡ Ok (file_rows x.files)
read_is m x is held are =
    let h = has_manifest m x is held in
    ap (λ o. or_else (Unreadable (manifest_path x.key)) o >>= λ read. given (rows_in read (shown_snapshot x))) (listing_is m x h are)
    ∙ ap (λ names. given (rows_by (blob h.bytes) (h.listed).files names)) (names_are x is.count)
    ∙ ap given (rows_are m x h)

-- ---- the step

abbrev files_of : Store → Option Snapshot → Outcome
files_of s o = or_else NoSnapshot o >>= λ x. tells s (Files (file_rows x.files))

abbrev named_files : Store → Result SnapshotKey Refusal → Outcome
named_files s r = r >>= λ key. files_of s (snapshot_named key s.snapshots)

step_is : (s : Store) (lane moment : ℕ) (text : List ℕ) → outcome s lane moment (FilesOf text) ≡ named_files s (model.key_in s lane text)
unfolding outcome files
step_is s lane moment text = refl

module _ (s : Store) (lane moment : ℕ) (text : List ℕ) (at : KeptAt) (head : key_in text at ≡ model.key_in s lane text) (shown : map (λ x. x.kept) at.catalogue ≡ map shown_snapshot s.snapshots) where
  abbrev kept_by : Result SnapshotKey Refusal → Result Kept Refusal
  kept_by r = r >>= λ key. or_else NoSnapshot (kept_named key at.catalogue)

  named_by : named_kept text at ≡ kept_by (key_in text at)
  unfolding named_kept
  named_by = refl

  files_by : outcome s lane moment (FilesOf text) ≡ named_files s (key_in text at)
  files_by = step_is s lane moment text ∙ ap (named_files s) (sym head)

  unnamed : (r : Refusal) → named_kept text at ≡ Err r → outcome s lane moment (FilesOf text) ≡ Err r
  unnamed r is = files_by ∙ by_name (key_in text at) (sym named_by ∙ is)
    where
      from_state : (o : Option Snapshot) → or_else NoSnapshot (option_map shown_snapshot o) ≡ Err r → files_of s o ≡ Err r
      from_state None e = let same : NoSnapshot ≡ r = cc in ap (λ x. Err x) same
      from_state (Some x) e = cc

      by_name : (o : Result SnapshotKey Refusal) → kept_by o ≡ Err r → named_files s o ≡ Err r
      by_name (Err cause) e = let same : cause ≡ r = cc in ap (λ x. Err x) same
      by_name (Ok key) e = from_state (snapshot_named key s.snapshots) (sym (ap (or_else NoSnapshot) (kept_is at.catalogue s.snapshots key shown)) ∙ e)

  -- no snapshot of a plain store is damaged
  undamaged : (k : Kept) → named_kept text at ≡ Ok k → k.unreadable ≡ None
  undamaged k is =
      let (key, head, e) = passed (key_in text at) _ k (sym named_by ∙ is) in
      by_there key (kept_named key at.catalogue) refl e
    where
      by_there : (key : SnapshotKey) (o : Option Kept) → kept_named key at.catalogue ≡ o → or_else NoSnapshot o ≡ Ok k → k.unreadable ≡ None
      by_there key None there e = cc
      by_there key (Some y) there e = kept_whole at.catalogue key k (there ∙ ap (λ q. Some q) (ok_same y k e)) s.snapshots shown

  pub files_refused : (r : Refusal) → to_tell text at ≡ Err r → outcome s lane moment (FilesOf text) ≡ Err r
  unfolding to_tell
  files_refused r is = by_named (named_kept text at) refl is
    where
      by_named : (n : Result Kept Refusal) → named_kept text at ≡ n → (n >>= whole) ≡ Err r → outcome s lane moment (FilesOf text) ≡ Err r
      by_named (Err cause) named e = unnamed r (named ∙ e)
      by_named (Ok k) named e = absurd (ok_err k (sym (ap (λ o. if_none Unreadable o >>= λ _. Ok k) (undamaged k named)) ∙ e))
        where
          ok_err : (k : Kept) → ◌≡◌ {A = Result Kept Refusal} (Ok k) (Err r) → ⊥
          ok_err k e = cc

  pub files_read : (m : Content) (k : Kept) → All IsSnapshot s.snapshots → All (HoldsFiles m) s.snapshots → named_kept text at ≡ Ok k → HasBytes m (manifest_path k.key)
      → outcome s lane moment (FilesOf text) ≡ (rows_read m k >>= λ rows. tells s (Files rows))
  files_read m k each held is are = files_by ∙ by_name (key_in text at) (sym named_by ∙ is)
    where
      from_state : (key : SnapshotKey) (o : Option Snapshot) → snapshot_named key s.snapshots ≡ o → or_else NoSnapshot (option_map shown_snapshot o) ≡ Ok k → files_of s o ≡ (rows_read m k >>= λ rows. tells s (Files rows))
      from_state key None at e = cc
      from_state key (Some x) at e =
          let same : shown_snapshot x ≡ k = cc in
          let path : x.key ≡ k.key = ap (λ (k : Kept). k.key) same in
          ap (λ r. r >>= λ rows. tells s (Files rows))
          (sym (read_is m x (found_in IsSnapshot (λ (y : Snapshot). same_key y.key key) s.snapshots x each at) (found_in (HoldsFiles m) (λ (y : Snapshot). same_key y.key key) s.snapshots x held at)
          (λ text there. are text (ap (λ q. get m (manifest_path q)) (sym path) ∙ there))))
          ∙ ap (λ k. rows_read m k >>= λ rows. tells s (Files rows)) same

      by_name : (o : Result SnapshotKey Refusal) → kept_by o ≡ Ok k → named_files s o ≡ (rows_read m k >>= λ rows. tells s (Files rows))
      by_name (Err cause) e = cc
      by_name (Ok key) e = from_state key (snapshot_named key s.snapshots) refl (sym (ap (or_else NoSnapshot) (kept_is at.catalogue s.snapshots key shown)) ∙ e)
