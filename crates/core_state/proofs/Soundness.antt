-- A store with another session is sound, and its files are there.
use Rattle.std.proofs.Common.{◌≡◌, ◌≢◌, ℕ, ◌<◌, length, set, map, sym, ap, subst, ◌∙◌, arith}
use Rattle.std.proofs.lemmas.List.{length-set}
use Rattle.std.specs.Bool.{IsTrue}
use Rattle.disk_trait.specs.Files.{Files}
use Rattle.store_types.specs.KeyOrder.{same_group_equiv}
use Rattle.store_types.specs.Names.{same_group, group_of_key}
use Rattle.store_model.specs.Store as model
use Rattle.store_model.specs.Store.{Store, session, with_session}
use Rattle.core_state.specs.declared.parts.Parts.{Parts}
use Rattle.core_state.specs.declared.kept.Session.{Session}
use Rattle.core_state.specs.Shown.{shown_session}
use Rattle.core_state.specs.Indexed.{FitsRows}
use Rattle.core_state.specs.Locked.{Locked}
use Rattle.core_state.specs.Holds.{IsSound, IsWriter, Shows, IsOnDisk, HasUploads}
use Rattle.core_state.proofs.Sessions.{changed, shown_set, writers_same, no_writer_none, no_reader_none, no_reader_writer}

-- the group of no other lane's writer
abbrev pub IsAlone : Store → ℕ → model.Writer → Type 0
IsAlone s lane x = (i : ℕ) (w : model.Writer) → i ≢ lane → session s i ≡ model.writer w → IsTrue (same_group (group_of_key w.key) (group_of_key x.key)) → ⊥

pub sound_idle : (s : Store) (lane : ℕ) → lane < 64 → IsSound s → IsSound (with_session s lane model.none)
sound_idle s lane lt h = let l : lane < length s.sessions = omega (arith, h.lanes, lt) in record {
  lanes = length-set s.sessions lane model.none ∙ h.lanes;
  order = h.order;
  each = h.each;
  groups = h.groups;
  writers = λ i w is. changed s lane model.none i (model.writer w) _ l is (λ e n. absurd (no_writer_none w n)) (λ ne old. h.writers i w old);
  readers = λ i r is. changed s lane model.none i (model.reader r) _ l is (λ e n. absurd (no_reader_none r n)) (λ ne old. h.readers i r old);
  apart = λ i j v w a b e. changed s lane model.none i (model.writer v) _ l a (λ _ n. absurd (no_writer_none v n))
      (λ _ old. changed s lane model.none j (model.writer w) _ l b (λ _ n. absurd (no_writer_none w n)) (λ _ old2. h.apart i j v w old old2 e));
}

pub sound_writer : (s : Store) (lane : ℕ) (x : model.Writer) → lane < 64 → IsWriter s.snapshots x → IsAlone s lane x → IsSound s → IsSound (with_session s lane (model.writer x))
sound_writer s lane x lt is_writer alone h = let l : lane < length s.sessions = omega (arith, h.lanes, lt) in record {
  lanes = length-set s.sessions lane (model.writer x) ∙ h.lanes;
  order = h.order;
  each = h.each;
  groups = h.groups;
  writers = λ i w is. changed s lane (model.writer x) i (model.writer w) _ l is (λ e n. subst (IsWriter s.snapshots) (writers_same x w n) is_writer) (λ ne old. h.writers i w old);
  readers = λ i r is. changed s lane (model.writer x) i (model.reader r) _ l is (λ e n. absurd (no_reader_writer x r n)) (λ ne old. h.readers i r old);
  apart = λ i j v w a b e.
      changed s lane (model.writer x) i (model.writer v) _ l a
      (λ i_is n. changed s lane (model.writer x) j (model.writer w) _ l b
      (λ j_is _. i_is ∙ sym j_is)
      (λ ne old. absurd (alone j w ne old (subst (λ (u : model.Writer). IsTrue (same_group (group_of_key w.key) (group_of_key u.key))) (sym (writers_same x v n)) (same_group_equiv.symm (group_of_key w.key) (group_of_key v.key) ∙ e)))))
      (λ ne old. changed s lane (model.writer x) j (model.writer w) _ l b
      (λ j_is n. absurd (alone i v ne old (subst (λ (u : model.Writer). IsTrue (same_group (group_of_key v.key) (group_of_key u.key))) (sym (writers_same x w n)) e)))
      (λ _ old2. h.apart i j v w old old2 e));
}

pub disk_idle : (m : Files) (s : Store) (lane : ℕ) → lane < length s.sessions → IsOnDisk m s → IsOnDisk m (with_session s lane model.none)
disk_idle m s lane l h = record {
  snapshots = h.snapshots;
  writers = λ i w is. changed s lane model.none i (model.writer w) _ l is (λ e n. absurd (no_writer_none w n)) (λ ne old. h.writers i w old);
}

pub disk_writer : (m : Files) (s : Store) (lane : ℕ) (x : model.Writer) → lane < length s.sessions → HasUploads m x → IsOnDisk m s → IsOnDisk m (with_session s lane (model.writer x))
disk_writer m s lane x l files h = record {
  snapshots = h.snapshots;
  writers = λ i w is. changed s lane (model.writer x) i (model.writer w) _ l is (λ e n. subst (HasUploads m) (writers_same x w n) files) (λ ne old. h.writers i w old);
}

-- catalogue, sessions, locks and what is kept of indexes, with one session changed
pub shows_changed : {D : Type 0} (old new : Parts D) (s : Store) (lane : ℕ) (x : model.Session) (y : Session) → new.catalogue.listed ≡ old.catalogue.listed → new.sessions.items ≡ set old.sessions.items lane y → y ≡ shown_session s.snapshots x
    → Locked new.locks (with_session s lane x) → FitsRows (with_session s lane x) new.indexes.items → IsSound (with_session s lane x) → Shows old s → Shows new (with_session s lane x)
shows_changed old new s lane x y c l is locks rows sound h = record {
  catalogue = ap (λ items. map (λ x. x.kept) items) c ∙ h.catalogue;
  sessions = l ∙ ap (λ k. set k lane y) h.sessions ∙ ap (set (map (shown_session s.snapshots) s.sessions) lane) is ∙ sym (shown_set s.snapshots s lane x);
  locks = locks;
  indexes = rows;
  sound = sound;
}
