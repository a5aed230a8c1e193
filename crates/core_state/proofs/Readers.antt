-- Readers stay shown where a snapshot is finished that none of them has.
use Rattle.std.proofs.Common.{◌≡◌, ◌≢◌, ℕ, suc, Bool, true, false, cond, if◌then◌else◌, List, [], ◌∷◌, map, get_or, Option, Some, None, IsSome, refl, sym, ap, ◌∙◌}
use Rattle.store_types.specs.declared.names.SnapshotKey.{SnapshotKey}
use Rattle.store_types.specs.Names.{same_key, key_lt}
use Rattle.store_types.proofs.OrderLaws.{same_keys}
use Rattle.store_files.specs.Archive.{Snapshot}
use Rattle.store_model.specs.Store as model
use Rattle.store_model.specs.Store.{Store, session, snapshot_named, insert_snapshot}
use Rattle.store_model.specs.WriterSteps.{snapshot_of}
use Rattle.store_model.proofs.StandsLemmas.{different}
use Rattle.restore_reader.specs.Shown as readers
use Rattle.core_state.specs.declared.kept.Session.TheVariants.{Reader}
use Rattle.core_state.specs.Shown.{shown_session}
use Rattle.core_state.specs.Holds.{IsSound, IsWriter, IsReader}
use Rattle.core_state.proofs.Finding.{found_in, found_passes}
use Rattle.core_state.proofs.OnDisk.{fresh}

-- ---- a snapshot that is put in

-- what is found under another key stays
pub named_still : (key : SnapshotKey) (x : Snapshot) (xs : List Snapshot) → same_key x.key key ≡ false → snapshot_named key (insert_snapshot x xs) ≡ snapshot_named key xs
named_still key x [] other = ap (λ b. cond b (Some x) None) other
named_still key x (y ∷ ys) other = by_order (key_lt x.key y.key) (named_still key x ys other)
  where
    by_order : (b : Bool) → snapshot_named key (insert_snapshot x ys) ≡ snapshot_named key ys
        → snapshot_named key (if b then x ∷ y ∷ ys else y ∷ insert_snapshot x ys) ≡ snapshot_named key (y ∷ ys)
    by_order true ih = ap (λ b. cond b (Some x) (snapshot_named key (y ∷ ys))) other
    by_order false ih = ap (cond (same_key y.key key) (Some y)) ih

-- the session's reader, if any, has another
abbrev pub ReadsOther : SnapshotKey → model.Session → Type 0
ReadsOther key x = (r : model.Reader) → x ≡ model.reader r → same_key key r.key ≡ false

pub shown_still : (x : Snapshot) (ss : List Snapshot) (y : model.Session) → ReadsOther x.key y → shown_session (insert_snapshot x ss) y ≡ shown_session ss y
shown_still x ss model.none other = refl
shown_still x ss (model.writer w) other = refl
shown_still x ss (model.reader r) other =
    ap (λ (o : Option Snapshot). Reader (readers.shown (elim o [ None ↦ [] | Some y ↦ y.files ]) r)) (named_still r.key x ss (other r refl))

pub sessions_still : (x : Snapshot) (ss : List Snapshot) (ys : List model.Session) → ((i : ℕ) → ReadsOther x.key (get_or ys i model.none))
    → map (shown_session (insert_snapshot x ss)) ys ≡ map (shown_session ss) ys
sessions_still x ss [] other = refl
sessions_still x ss (y ∷ ys) other =
    let first : shown_session (insert_snapshot x ss) y ≡ shown_session ss y = shown_still x ss y (other 0) in
    let rest : map (shown_session (insert_snapshot x ss)) ys ≡ map (shown_session ss) ys = sessions_still x ss ys (λ i. other (suc i)) in
    ap (λ f. f ∷ map (shown_session (insert_snapshot x ss)) ys) first ∙ ap (λ l. shown_session ss y ∷ l) rest

-- ---- a writer's snapshot that is finished

-- a reader's snapshot is finished, and the writer's is not
pub reads_other : (ss : List Snapshot) (w : model.Writer) (r : model.Reader) → IsWriter ss w → IsReader ss r → same_key w.key r.key ≡ false
reads_other ss w r is reads = by_found (snapshot_named r.key ss) refl reads.finished
  where
    by_found : (o : Option Snapshot) → snapshot_named r.key ss ≡ o → IsSome o → same_key w.key r.key ≡ false
    by_found None at some = cc
    by_found (Some y) at some =
        let apart : y.key ≢ w.key = found_in (λ x. x.key ≢ w.key) (λ x. same_key x.key r.key) ss y (fresh ss w is) at in
        let same : y.key ≡ r.key = (same_keys y.key r.key).0 (found_passes (λ x. same_key x.key r.key) ss y at) in
        different w.key r.key (λ e. apart (same ∙ sym e))

-- each snapshot that is found is found still
pub finished_stays : (s : Store) (lane : ℕ) (w : model.Writer) → IsSound s → session s lane ≡ model.writer w → (key : SnapshotKey) (y : Snapshot) → snapshot_named key s.snapshots ≡ Some y
    → snapshot_named key (insert_snapshot (snapshot_of w) s.snapshots) ≡ Some y
finished_stays s lane w h is key y at =
    let apart : y.key ≢ w.key = found_in (λ x. x.key ≢ w.key) (λ x. same_key x.key key) s.snapshots y (fresh s.snapshots w (h.writers lane w is)) at in
    let same : y.key ≡ key = (same_keys y.key key).0 (found_passes (λ x. same_key x.key key) s.snapshots y at) in
    named_still key (snapshot_of w) s.snapshots (different w.key key (λ e. apart (same ∙ sym e))) ∙ at

-- what is kept of the sessions is as before
pub sessions_finished : (s : Store) (lane : ℕ) (w : model.Writer) → IsSound s → session s lane ≡ model.writer w
    → map (shown_session (insert_snapshot (snapshot_of w) s.snapshots)) s.sessions ≡ map (shown_session s.snapshots) s.sessions
sessions_finished s lane w h is =
    sessions_still (snapshot_of w) s.snapshots s.sessions (λ i r reads. reads_other s.snapshots w r (h.writers lane w is) (h.readers i r reads))
