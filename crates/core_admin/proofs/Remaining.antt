-- What holds of a plain store as a snapshot is taken out that no lane holds.
use Rattle.std.proofs.Common.{◌≡◌, ◌≢◌, ℕ, suc, true, false, not, get_or, map, List, [], ◌∷◌, Option, Some, None, IsSome, refl, sym, ap, subst, ◌∙◌, arith}
use Rattle.std.proofs.lemmas.List.Elements.{All-contains}
use Rattle.std.specs.FinMap.{get}
use Rattle.std.specs.List.{Contains, filter}
use Rattle.disk_trait.specs.Files.{Files}
use Rattle.store_types.specs.declared.names.SnapshotKey.{SnapshotKey}
use Rattle.store_types.specs.Names.{IsKey, same_key, same_group, group_of_key}
use Rattle.store_types.proofs.KeyTexts.{no_slash}
use Rattle.store_types.proofs.OrderLaws.{same_keys}
use Rattle.store_files.specs.Archive.{Snapshot}
use Rattle.store_model.specs.Store as model
use Rattle.store_model.specs.Store.{Store, session, snapshot_named, snapshot_holder, holds_snapshot, is_key, without_snapshot}
use Rattle.store_files.specs.Folder.{file_path}
use Rattle.store_model.specs.Stands.{group_limit}
use Rattle.store_model.proofs.Paths.{chunk_apart}
use Rattle.restore_reader.specs.Shown as readers
use Rattle.core_state.specs.declared.kept.Kept.{Kept}
use Rattle.core_state.specs.declared.kept.Listed.{Listed}
use Rattle.core_state.specs.declared.kept.Session.TheVariants.{Reader}
use Rattle.core_state.specs.declared.parts.Parts.{Parts}
use Rattle.core_state.specs.Indexed.{FitsRows}
use Rattle.core_state.specs.Locked.{Locked}
use Rattle.core_state.proofs.Rows.{Uses, rows_among}
use Rattle.core_state.specs.Shown.{shown_snapshot, shown_session}
use Rattle.core_state.specs.Holds.{IsOlder, IsSound, IsWriter, Shows, IsOnDisk}
use Rattle.core_state.proofs.Finding.{found_in, found_passes}
use Rattle.core_state.proofs.OnDisk.{fresh, off_other, uploads_off, IsOff}
use Rattle.core_state.proofs.Removing.{forgot}
use Rattle.core_state.specs.Catalogue.{without_listed}
use Rattle.core_admin.proofs.Filtering.{filter_map_to}
use Rattle.core_admin.proofs.Freeing.{not_held}
use Rattle.snapshot_files.proofs.Leaving.{Takes, ArePlain, stands_without}
use Rattle.snapshot_files.proofs.Removals.{length-filter_twice, rise-without, groups-without, All-without, named-without}

-- ---- the sessions are as they were

abbrev ReadsOther : SnapshotKey → model.Session → Type 0
ReadsOther key x = (r : model.Reader) → x ≡ model.reader r → same_key key r.key ≡ false

shown_still : (key : SnapshotKey) (ss : List Snapshot) (x : model.Session) → ReadsOther key x → shown_session (without_snapshot key ss) x ≡ shown_session ss x
shown_still key ss model.none other = refl
shown_still key ss (model.writer w) other = refl
shown_still key ss (model.reader r) other =
    ap (λ (o : Option Snapshot). Reader (readers.shown (elim o [ None ↦ [] | Some y ↦ y.files ]) r)) (named-without key r.key ss (other r refl))

sessions_still : (key : SnapshotKey) (ss : List Snapshot) (xs : List model.Session) → ((i : ℕ) → ReadsOther key (get_or xs i model.none)) → map (shown_session (without_snapshot key ss)) xs ≡ map (shown_session ss) xs
sessions_still key ss [] other = refl
sessions_still key ss (x ∷ xs) other =
    ap (λ f. f ∷ map (shown_session (without_snapshot key ss)) xs) (shown_still key ss x (other 0))
    ∙ ap (λ l. shown_session ss x ∷ l) (sessions_still key ss xs (λ i. other (suc i)))

reads_other : (s : Store) (key : SnapshotKey) (lane : ℕ) → snapshot_holder s key ≡ None → ReadsOther key (session s lane)
reads_other s key lane free = λ r is. sym (ap (holds_snapshot key) is) ∙ not_held s key lane free

-- what a session uses is another
uses_other : (s : Store) (key used : SnapshotKey) (lane : ℕ) → snapshot_holder s key ≡ None → Uses used (session s lane) → same_key key used ≡ false
uses_other s key used lane free uses = by_session (session s lane) uses (not_held s key lane free)
  where
    by_session : (x : model.Session) → Uses used x → holds_snapshot key x ≡ false → same_key key used ≡ false
    by_session model.none uses held = absurd uses
    by_session (model.writer w) uses held = sym (ap (is_key key) uses) ∙ held
    by_session (model.reader r) uses held = sym (ap (same_key key) uses) ∙ held

-- ---- it is sound

sound_without : (s : Store) (key : SnapshotKey) → snapshot_holder s key ≡ None → IsSound s → IsSound (forgot s key)
sound_without s key free h = record {
  lanes = h.lanes;
  order = rise-without key s.snapshots h.order;
  each = All-without Rattle.store_model.specs.Stands.IsSnapshot key s.snapshots h.each;
  groups = λ group. groups-without key group group_limit s.snapshots (h.groups group);
  writers = λ lane w is. let o = h.writers lane w is in record {
    key = o.key;
    newer = All-without (IsOlder w) key s.snapshots o.newer;
    room =
        let less = length-filter_twice (λ x. same_group (group_of_key x.key) (group_of_key w.key)) (λ x. not (same_key x.key key)) s.snapshots in
        let room = o.room in omega (arith, less, room);
    names = o.names;
    kinds = o.kinds;
    contents = o.contents;
    count = o.count;
    pool = o.pool;
    begun = o.begun;
    pooled = o.pooled;
    free = o.free;
    differ = o.differ;
  };
  readers = λ lane r is. record {
    finished = subst (λ (o : Option Snapshot). IsSome o) (sym (named-without key r.key s.snapshots (reads_other s key lane free r is))) (h.readers lane r is).finished;
  };
  apart = h.apart;
}

-- ---- the parts show it

pub shows_without : {D : Type 0} (old new : Parts D) (s : Store) (key : SnapshotKey) → snapshot_holder s key ≡ None
    → new.catalogue.listed ≡ without_listed key old.catalogue.listed → new.sessions.items ≡ old.sessions.items → new.locks ≡ old.locks → new.indexes.items ≡ old.indexes.items → Shows old s → Shows new (forgot s key)
shows_without old new s key free c l k rows h = record {
  catalogue =
      ap (λ items. map (λ x. x.kept) items) c
      ∙ sym (filter_map_to (λ (x : Listed). x.kept) (λ (x : Kept). not (same_key x.key key)) old.catalogue.listed)
      ∙ ap (filter (λ (x : Kept). not (same_key x.key key))) h.catalogue
      ∙ filter_map_to shown_snapshot (λ (x : Kept). not (same_key x.key key)) s.snapshots;
  sessions = l ∙ h.sessions ∙ sym (sessions_still key s.snapshots s.sessions (λ i. reads_other s key i free));
  locks = subst (λ locks. Locked locks (forgot s key)) (sym k) (record { groups = (h.locks).groups; shared = (h.locks).shared });
  indexes =
      subst (FitsRows (forgot s key)) (sym rows)
      (rows_among s (forgot s key) old.indexes.items refl (λ i used uses y at. named-without key used s.snapshots (uses_other s key used i free uses) ∙ at) h.indexes);
  sound = sound_without s key free h.sound;
}

-- ---- the disk

module _ (m n : Files) (s : Store) (key : SnapshotKey) (x : Snapshot) (names : List (List ℕ)) (found : snapshot_named key s.snapshots ≡ Some x) (is : IsKey key) (plain : ArePlain names) (takes : Takes m n key names) where
  -- a file of the snapshot
  abbrev IsFile : List ℕ → Type 0
  IsFile q = (name : List ℕ) × Contains names name × (file_path key name ≡ q)

  same_else : (q : List ℕ) → (IsFile q → ⊥) → get n q ≡ get m q
  same_else q other = takes.others q (λ name has e. other (name, has, e))

  -- a writer has another snapshot
  writes_other : (w : model.Writer) → IsWriter s.snapshots w → w.key ≢ key
  writes_other w h e =
      found_in (λ (y : Snapshot). y.key ≢ w.key) (λ y. same_key y.key key) s.snapshots x (fresh s.snapshots w h) found
      ((same_keys x.key key).0 (found_passes (λ (y : Snapshot). same_key y.key key) s.snapshots x found) ∙ sym e)

  off_file : (w : model.Writer) → IsWriter s.snapshots w → (q : List ℕ) → IsFile q → IsOff w q
  off_file w h q file =
      subst (IsOff w) file.2 (off_other s.snapshots w key file.0 h is (All-contains (λ name. no_slash name ≡ true) names file.0 plain file.1) (writes_other w h))

  pub disk_without : IsSound s → IsOnDisk m s → IsOnDisk n (forgot s key)
  disk_without sound h = record {
    snapshots = stands_without m n key names s.snapshots is plain takes h.snapshots;
    writers = λ lane w at.
        uploads_off m n w IsFile same_else (off_file w (sound.writers lane w at)) (λ digest q file e. chunk_apart digest key file.0 (e ∙ sym file.2)) (h.writers lane w at);
  }
