-- What an act does to the snapshots, and to the keys of writers.
use Rattle.std.proofs.Common.{◌≡◌, ◌⊎◌, inl, inr, ℕ, zero, suc, List, [], ◌∷◌, get_or, set, Option, Some, None, Ok, refl, sym, ap, subst, ◌∙◌}
use Rattle.store_types.specs.declared.names.SnapshotKey.{SnapshotKey}
use Rattle.store_types.specs.Names.{key_of, group_of_key}
use Rattle.store_files.specs.Archive.{Snapshot}
use Rattle.wire_commands.specs.declared.command.Command.TheVariants as commands
use Rattle.store_model.specs.Store.{Session, none, Writer, writer, Reader, reader, Store, session, with_session, group_holder, latest_in, insert_snapshot, without_snapshot}
use Rattle.store_model.specs.WriterSteps.{want_newer, snapshot_of}
use Rattle.store_model.specs.Done.{Effect, forgets, IsNext, ends, opens, writes, enters, reads, Shape}
use Rattle.store_model.specs.Done as shapes
use Rattle.store_model.proofs.Done.{grown_key}
use Rattle.store_model.proofs.HeadLemmas.{idle_key_found}
use Rattle.store_history.specs.declared.act.Act.{Act}
use Rattle.store_history.specs.declared.act.Act.TheVariants as acts
use Rattle.store_history.specs.Acts.{IsWellFormed}
use Rattle.store_history.specs.History.{World, EntryKind, moved}
use Rattle.store_history.proofs.ActShapes.{act_effect, moved_shape}
use Rattle.pbs_server.specs.Acknowledged.{IsForgetOf}

-- ---- what may change

-- the lane's writer has this key
abbrev pub HasWriter : Store → ℕ → SnapshotKey → Type 0
HasWriter s i key = (v : Writer) × (session s i ≡ writer v) × (v.key ≡ key)

-- no lane's writer has its group, and it is newer than the group's latest snapshot
abbrev pub IsNew : Store → SnapshotKey → Type 0
IsNew s key = (group_holder s (group_of_key key) ≡ None) × (want_newer key.time (latest_in (group_of_key key) s.snapshots) ≡ Ok tt)

-- The snapshots are as before; or there is that of a writer more, which has ended; or one that goes is there no more.
pub data Snapshots (Gone : SnapshotKey → Type 0) (s t : Store) : Type 0 where
  same : t.snapshots ≡ s.snapshots → Snapshots Gone s t
  more : (i : ℕ) (v : Writer) → session s i ≡ writer v → ((u : Writer) → session t i ≡ writer u → ⊥) → t.snapshots ≡ insert_snapshot (snapshot_of v) s.snapshots → Snapshots Gone s t
  less : (key : SnapshotKey) → Gone key → t.snapshots ≡ without_snapshot key s.snapshots → Snapshots Gone s t

-- each writer was there with its key, or is a new one of this lane
pub record Changes (Gone : SnapshotKey → Type 0) (s t : Store) (k : ℕ) : Type 0 where
  pub writers : (i : ℕ) (u : Writer) → session t i ≡ writer u → HasWriter s i u.key ⊎ ((i ≡ k) × IsNew s u.key)
  pub snapshots : Snapshots Gone s t

-- ---- sessions

each_session : (xs : List Session) (k : ℕ) (new : Session) (P : ℕ → Session → Type 0) → P k new → ((j : ℕ) → P j (get_or xs j none)) → (j : ℕ) → P j (get_or (set xs k new) j none)
each_session [] k new P here each j = each j
each_session (x ∷ xs) zero new P here each zero = here
each_session (x ∷ xs) zero new P here each (suc j) = each (suc j)
each_session (x ∷ xs) (suc k) new P here each zero = each zero
each_session (x ∷ xs) (suc k) new P here each (suc j) = each_session xs k new (λ i. P (suc i)) here (λ i. each (suc i)) j

none_here : (xs : List Session) (k : ℕ) → get_or (set xs k none) k none ≡ none
none_here [] k = refl
none_here (x ∷ xs) zero = refl
none_here (x ∷ xs) (suc k) = none_here xs k

none_writer : (u : Writer) → none ≡ writer u → ⊥
none_writer u e = cc

reader_writer : (r : Reader) (u : Writer) → reader r ≡ writer u → ⊥
reader_writer r u e = cc

same_writer : (v u : Writer) → writer v ≡ writer u → v ≡ u
same_writer v u e = cc

-- ---- what a shape changes

-- the lane's next session, if it is a writer, was there with its key, or is new
next_writer : (s : Store) (k m : ℕ) (e : Effect) (x : Session) → IsNext s k m e x → (u : Writer) → x ≡ writer u → HasWriter s k u.key ⊎ ((k ≡ k) × IsNew s u.key)
next_writer s k m e x (ends is) u at = absurd (none_writer u (sym is ∙ at))
next_writer s k m e x (opens text key takes alone newer is) u at =
    inr (refl, subst (IsNew s) (ap (λ (x : Writer). x.key) (same_writer _ u (sym is ∙ at))) (alone, newer))
next_writer s k m e x (writes v w runs grows is) u at = inl (v, runs, sym (grown_key s v e w grows) ∙ ap (λ (x : Writer). x.key) (same_writer w u (sym is ∙ at)))
next_writer s k m e x (enters y r there is) u at = absurd (reader_writer r u (sym is ∙ at))
next_writer s k m e x (reads q r reading kept is) u at = absurd (reader_writer r u (sym is ∙ at))

module _ (Gone : SnapshotKey → Type 0) (s : Store) (k m : ℕ) (e : Effect) (forgetting : (text : List ℕ) (key : SnapshotKey) → e ≡ forgets text → key_of text ≡ Some key → Gone key) where
  abbrev Leads : Store → Type 0
  Leads t = Changes Gone s t k

  turned_writers : (x : Session) → IsNext s k m e x → (i : ℕ) (u : Writer) → session (with_session s k x) i ≡ writer u → HasWriter s i u.key ⊎ ((i ≡ k) × IsNew s u.key)
  turned_writers x next =
      each_session s.sessions k x (λ i y. (u : Writer) → y ≡ writer u → HasWriter s i u.key ⊎ ((i ≡ k) × IsNew s u.key)) (next_writer s k m e x next) (λ i u is. inl (u, is, refl))

  changes : (t : Store) → Shape s k m e t → Changes Gone s t k
  changes t (shapes.same is) = subst Leads (sym is) (record { writers = λ i u at. inl (u, at, refl); snapshots = same refl })
  changes t (shapes.turned x next is) = subst Leads (sym is) (record { writers = turned_writers x next; snapshots = same refl })
  changes t (shapes.more v finishes runs is) = subst Leads (sym is) (record {
    writers = turned_writers none (ends refl);
    snapshots = more k v runs (λ u at. none_writer u (sym (none_here s.sessions k) ∙ at)) refl;
  })
  changes t (shapes.less text key takes named free is) =
      subst Leads (sym is) (record { writers = λ i u at. inl (u, at, refl); snapshots = less key (forgetting text key takes (idle_key_found s k text key named).1) refl })

-- ---- an act

-- only a FORGET takes a snapshot away
asks : (a : Act) → IsWellFormed a → (text : List ℕ) → act_effect a ≡ forgets text → a ≡ acts.Plain (commands.Forget text)
asks (acts.Plain (commands.Forget named)) formed text is = cc
asks (acts.JobGroup (commands.Prune name keep dry)) formed text is = cc
asks (acts.JobGroup c) formed text is = absurd formed
asks a formed text is = cc

-- whatever its entry's kind
pub moved_changes : (R : Option (List Snapshot)) (w : World) (k m : ℕ) (a : Act) → IsWellFormed a → (n : EntryKind) → Changes (λ key. IsForgetOf key a) w.store (moved R w k m a n).store k
moved_changes R w k m a formed n =
    changes (λ key. IsForgetOf key a) w.store k m (act_effect a) (λ text key takes named. record { text = text; asks = asks a formed text takes; names = named })
    (moved R w k m a n).store (moved_shape R w k m a n)
