-- OPEN_READER's tests are the store's, and what is told of them.
use Rattle.std.proofs.Common.{◌≡◌, ◌<◌, ℕ, List, [], length, Option, Some, None, Result, Ok, Err, IsTrue, refl, sym, ap, subst, ◌∙◌, arith}
use Rattle.std.specs.Option.{option_map}
use Rattle.disk_trait.specs.declared.disk.Disk.{Ghosts}
use Rattle.disk_trait.specs.declared.disk.DiskError.TheVariants as disks
use Rattle.disk_trait.specs.Files.{Files}
use Rattle.store_types.specs.declared.names.SnapshotKey.{SnapshotKey}
use Rattle.store_types.specs.declared.refusal.Refusal.{Refusal}
use Rattle.store_types.specs.declared.refusal.Refusal.TheVariants.{BadName, NoSnapshot, Unreadable, WrongState}
use Rattle.store_types.specs.declared.refusal.SessionState.{SessionState}
use Rattle.store_types.specs.Chain.Refusing.{◌>>=◌, if_none, or_else}
use Rattle.store_files.specs.Archive.{Snapshot}
use Rattle.wire_commands.specs.declared.reply.Reply.{Reply}
use Rattle.wire_commands.specs.declared.reply.Reply.TheVariants as replies
use Rattle.wire_commands.specs.declared.reply.Reply.TheVariants.{Done}
use Rattle.wire_commands.specs.declared.command.Command.TheVariants.{OpenReader}
use Rattle.store_model.specs.Heads as model_heads
use Rattle.store_model.specs.Store as model
use Rattle.store_model.specs.Store.{Store, none, writer, reader, session, with_session, snapshot_named}
use Rattle.store_model.specs.ReaderSteps.{open_reader}
use Rattle.store_model.specs.Steps.{outcome}
use Rattle.store_model.proofs.Done.{err_ok, ok_same, passed}
use Rattle.store_model.proofs.HeadLemmas.{idle_key_found}
use Rattle.store_history.specs.declared.act.Act.TheVariants.{Plain}
use Rattle.store_stops.specs.declared.stop.Stop.{Stop}
use Rattle.store_stops.specs.declared.stop.Stop.TheVariants.{Refused, NoMemory, DiskFailed}
use Rattle.core_state.specs.declared.kept.Kept.{Kept}
use Rattle.core_state.specs.declared.parts.Parts.{Parts}
use Rattle.core_state.specs.Decides.{Decides}
use Rattle.core_state.specs.Found.{kept_named}
use Rattle.core_state.specs.Heads.{idle_key}
use Rattle.core_state.specs.Holds.{IsSound, IsReader, IsOnDisk, Shows}
use Rattle.core_state.specs.Kept.{KeptAt, kept_at}
use Rattle.store_history.specs.Replies.{may_answer}
use Rattle.core_state.specs.Settles.{kind_by, reply_by}
use Rattle.core_state.specs.Shown.{shown_snapshot}
use Rattle.core_state.specs.Stops.{told}
use Rattle.core_state.specs.Unreadables.{Asked, TellsUnreadable}
use Rattle.core_state.proofs.Found.{kept_is}
use Rattle.core_state.proofs.FromState.{Stops, stopped}
use Rattle.core_state.proofs.HeadLemmas.{idle_key_is, idle_key_refuses, refuses_none, refuses_or, refuses_some, refuses_then}
use Rattle.core_state.proofs.Sessions.{changed, no_writer_reader}
use Rattle.core_state.proofs.Unreadables.{tells_failed, tells_other, tells_read}
use Rattle.core_reader.specs.Asked.{as_known, asked_open, damage_of, to_open}

-- ---- the tests in a row

abbrev behind_whole : SnapshotKey → Option (List ℕ) → Result SnapshotKey Refusal
behind_whole key damage = if_none Unreadable damage >>= λ _. Ok key

abbrev behind_kept : SnapshotKey → Option Kept → Result SnapshotKey Refusal
behind_kept key o = or_else NoSnapshot o >>= λ x. behind_whole key x.unreadable

module _ (text : List ℕ) (k : KeptAt) where
  abbrev behind_key : SnapshotKey → Result SnapshotKey Refusal
  behind_key key = behind_kept key (kept_named key k.catalogue)

  open_is : to_open text k ≡ (idle_key text k >>= behind_key)
  unfolding to_open
  open_is = refl

  pub open_damaged : (key : SnapshotKey) (x : Kept) (name : List ℕ) → idle_key text k ≡ Ok key → kept_named key k.catalogue ≡ Some x → x.unreadable ≡ Some name → to_open text k ≡ Err (Unreadable name)
  unfolding to_open
  open_damaged key x name head there damage = rw (head, there, damage) refl

  -- what has each refusal that may be
  pub open_refuses : (P : Refusal → Type 0) → ((state : SessionState) → P (WrongState state)) → P BadName → P NoSnapshot → ((name : List ℕ) → P (Unreadable name))
      → (r : Refusal) → to_open text k ≡ Err r → P r
  open_refuses P busy bad missing damaged r e =
      refuses_then P (idle_key text k) behind_key (idle_key_refuses P k text busy bad)
      (λ key. refuses_then P (or_else NoSnapshot (kept_named key k.catalogue)) (λ x. behind_whole key x.unreadable) (refuses_or P NoSnapshot (kept_named key k.catalogue) missing)
      (λ x. refuses_then P (if_none Unreadable x.unreadable) (λ _. Ok key) (refuses_some P (λ name. Unreadable name) x.unreadable damaged) (λ _. refuses_none P key))) r (sym open_is ∙ e)

  pub open_answers : (r : Refusal) → to_open text k ≡ Err r → IsTrue (may_answer (Plain (OpenReader text)) (replies.Refused r))
  open_answers = open_refuses (λ r. IsTrue (may_answer (Plain (OpenReader text)) (replies.Refused r))) (λ state. refl) refl refl (λ name. refl)

  -- ---- the file that makes the snapshot damaged

  abbrev damage_told : Result SnapshotKey Refusal → Option Asked
  damage_told (Err (Unreadable name)) = Some (as_known name)
  damage_told r = None

  asked_is : asked_open text k ≡ damage_told (to_open text k)
  asked_is = by_head (idle_key text k) (λ r e. idle_key_refuses (λ q. None ≡ damage_told (Err q)) k text (λ state. refl) refl r e) ∙ ap damage_told (sym open_is)
    where
      by_damage : (key : SnapshotKey) (damage : Option (List ℕ)) → option_map as_known damage ≡ damage_told (behind_whole key damage)
      by_damage key None = refl
      by_damage key (Some name) = refl

      by_kept : (key : SnapshotKey) (o : Option Kept) → damage_of (or_else NoSnapshot o) ≡ damage_told (behind_kept key o)
      by_kept key None = refl
      by_kept key (Some x) = by_damage key x.unreadable

      by_head : (o : Result SnapshotKey Refusal) → ((r : Refusal) → o ≡ Err r → None ≡ damage_told (Err r))
          → damage_of (o >>= λ key. or_else NoSnapshot (kept_named key k.catalogue)) ≡ damage_told (o >>= behind_key)
      by_head (Ok key) other = by_kept key (kept_named key k.catalogue)
      by_head (Err r) other = other r refl

  module _ {D : Type 0} (d : Ghosts D) (disk : D) where
    abbrev Tells : Result Reply Stop → Type 0
    Tells result = TellsUnreadable d disk (asked_open text k) (kind_by (told result)) (Some (reply_by (told result)))

    -- refused
    tells_so : (r : Refusal) → to_open text k ≡ Err r → Tells (Err (Refused r))
    tells_so r e =
        open_refuses (λ q. to_open text k ≡ Err q → Tells (Err (Refused q)))
        (λ state at. other (WrongState state) (λ name is. cc) (asked_is ∙ ap damage_told at)) (λ at. other BadName (λ name is. cc) (asked_is ∙ ap damage_told at))
        (λ at. other NoSnapshot (λ name is. cc) (asked_is ∙ ap damage_told at)) damaged r e e
      where
        other : (q : Refusal) → ((name : List ℕ) → Some (replies.Refused q) ≡ Some (replies.Refused (Unreadable name)) → ⊥) → asked_open text k ≡ None → Tells (Err (Refused q))
        other q apart unasked = tells_other d disk (asked_open text k) 0 (Some (replies.Refused q)) apart unasked

        damaged : (name : List ℕ) → to_open text k ≡ Err (Unreadable name) → Tells (Err (Refused (Unreadable name)))
        damaged name at = tells_read d disk (asked_open text k) (as_known name) (Err (Unreadable name)) (asked_is ∙ ap damage_told at) refl (λ h. refl)

    -- opened
    pub tells_opened : (key : SnapshotKey) → to_open text k ≡ Ok key → Tells (Ok Done)
    tells_opened key e = tells_other d disk (asked_open text k) 0 (Some Done) (λ name is. cc) (asked_is ∙ ap damage_told e)

    -- or short of memory behind it
    pub tells_short : (result : Result Reply Stop) → Stops result NoMemory → Tells result
    tells_short result stops = stopped Tells result NoMemory stops (tells_failed d disk (asked_open text k) disks.NoMemory)

-- as it was decided
pub tells_decided : {D : Type 0} (d : Ghosts D) (parts : Parts D) (lane : ℕ) (text : List ℕ) (stop : Stop) (result : Result Reply Stop) → Stops result stop
    → Decides (λ (key : SnapshotKey). key) (to_open text) parts lane (Err stop) → TellsUnreadable d parts.disk (asked_open text (kept_at parts lane)) (kind_by (told result)) (Some (reply_by (told result)))
tells_decided d parts lane text stop result stops decides = stopped (Tells text (kept_at parts lane) d parts.disk) result stop stops (by_stop stop decides)
  where
    by_stop : (stop : Stop) → Decides (λ (key : SnapshotKey). key) (to_open text) parts lane (Err stop) → Tells text (kept_at parts lane) d parts.disk (Err stop)
    by_stop (Refused r) says = tells_so text (kept_at parts lane) d parts.disk r says.0
    by_stop NoMemory says = tells_failed d parts.disk (asked_open text (kept_at parts lane)) disks.NoMemory
    by_stop DiskFailed says = absurd says

-- ---- the step

err_same : {A : Type 0} (q r : Refusal) → ◌≡◌ {A = Result A Refusal} (Err q) (Err r) → q ≡ r
err_same q r e = cc

ok_err : {A : Type 0} (x : A) (r : Refusal) → ◌≡◌ {A = Result A Refusal} (Ok x) (Err r) → ⊥
ok_err x r e = cc

module _ (s : Store) (lane m : ℕ) (text : List ℕ) where
  abbrev step_with : SnapshotKey → Option Snapshot → model.Outcome
  step_with key o = or_else NoSnapshot o >>= λ _. Ok (with_session s lane (reader (record { key = key; noted = [] })), Done)

  abbrev step_by : SnapshotKey → model.Outcome
  step_by key = step_with key (snapshot_named key s.snapshots)

  step_is : outcome s lane m (OpenReader text) ≡ (model_heads.idle_key s lane text >>= step_by)
  unfolding outcome open_reader
  step_is = refl

module _ {D : Type 0} (parts : Parts D) (s : Store) (lane m : ℕ) (text : List ℕ) (shows : Shows parts s) (lt : lane < 64) where
  abbrev k : KeptAt
  k = kept_at parts lane

  -- what is refused the store refuses
  pub open_refused : (r : Refusal) → to_open text k ≡ Err r → outcome s lane m (OpenReader text) ≡ Err r
  open_refused r e =
      step_is s lane m text ∙ ap (λ (o : Result SnapshotKey Refusal). o >>= step_by s lane m text) (sym (idle_key_is parts s lane shows lt text)) ∙ by_head (idle_key text k) (sym (open_is text k) ∙ e)
    where
      by_named : (key : SnapshotKey) (o : Option Snapshot) → behind_kept key (option_map shown_snapshot o) ≡ Err r → step_with s lane m text key o ≡ Err r
      by_named key None e = ap (λ q. Err q) (err_same {A = SnapshotKey} NoSnapshot r e)
      by_named key (Some x) e = absurd (ok_err key r e)

      by_head : (o : Result SnapshotKey Refusal) → (o >>= behind_key text k) ≡ Err r → (o >>= step_by s lane m text) ≡ Err r
      by_head (Ok key) e = by_named key (snapshot_named key s.snapshots) (ap (behind_kept key) (sym (kept_is parts.catalogue.listed s.snapshots key shows.catalogue)) ∙ e)
      by_head (Err q) e = ap (λ x. Err x) (err_same {A = SnapshotKey} q r e)

  -- a snapshot that is opened is there, and the lane has no session
  pub record IsOpen (key : SnapshotKey) : Type 0 where
    pub idle : session s lane ≡ none
    pub snapshot : Snapshot
    pub there : snapshot_named key s.snapshots ≡ Some snapshot
    pub step : outcome s lane m (OpenReader text) ≡ Ok (with_session s lane (reader (record { key = key; noted = [] })), Done)

  pub open_found : (key : SnapshotKey) → to_open text k ≡ Ok key → IsOpen key
  open_found key e = by_head (passed (idle_key text k) (behind_key text k) key (sym (open_is text k) ∙ e))
    where
      opens : (x : Snapshot) → snapshot_named key s.snapshots ≡ Some x → step_by s lane m text key ≡ Ok (with_session s lane (reader (record { key = key; noted = [] })), Done)
      opens x there = ap (step_with s lane m text key) there

      by_named : (found : SnapshotKey) → model_heads.idle_key s lane text ≡ Ok found → (o : Option Snapshot) → snapshot_named found s.snapshots ≡ o → behind_kept found (option_map shown_snapshot o) ≡ Ok key → IsOpen key
      by_named found head None at e = absurd (err_ok NoSnapshot key e)
      by_named found head (Some x) at e =
          let same : found ≡ key = ok_same found key e in
          let there : snapshot_named key s.snapshots ≡ Some x = subst (λ y. snapshot_named y s.snapshots ≡ Some x) same at in
          record {
            idle = (idle_key_found s lane text found head).0;
            snapshot = x;
            there = there;
            step = step_is s lane m text ∙ ap (λ (o : Result SnapshotKey Refusal). o >>= step_by s lane m text) (head ∙ ap (λ y. Ok y) same) ∙ opens x there;
          }

      by_head : (found : SnapshotKey) × (idle_key text k ≡ Ok found) × (behind_key text k found ≡ Ok key) → IsOpen key
      by_head (found, head, e1) =
          by_named found (sym (idle_key_is parts s lane shows lt text) ∙ head) (snapshot_named found s.snapshots) refl
          (ap (behind_kept found) (sym (kept_is parts.catalogue.listed s.snapshots found shows.catalogue)) ∙ e1)

-- ---- a reader more

readers_same : (v w : model.Reader) → reader v ≡ reader w → v ≡ w
readers_same v w e = cc

pub sound_reader : (s : Store) (lane : ℕ) (x : model.Reader) → lane < 64 → IsReader s.snapshots x → IsSound s → IsSound (with_session s lane (reader x))
sound_reader s lane x lt is_reader h = let l : lane < length s.sessions = omega (arith, h.lanes, lt) in record {
  lanes = Rattle.std.proofs.lemmas.List.length-set s.sessions lane (reader x) ∙ h.lanes;
  order = h.order;
  each = h.each;
  groups = h.groups;
  writers = λ i w is. changed s lane (reader x) i (writer w) _ l is (λ e n. absurd (no_writer_reader w x n)) (λ ne old. h.writers i w old);
  readers = λ i r is. changed s lane (reader x) i (reader r) _ l is (λ e n. subst (IsReader s.snapshots) (readers_same x r n) is_reader) (λ ne old. h.readers i r old);
  apart = λ i j v w a b e. changed s lane (reader x) i (writer v) _ l a (λ _ n. absurd (no_writer_reader v x n))
      (λ _ old. changed s lane (reader x) j (writer w) _ l b (λ _ n. absurd (no_writer_reader w x n)) (λ _ old2. h.apart i j v w old old2 e));
}

pub disk_reader : (m : Files) (s : Store) (lane : ℕ) (x : model.Reader) → lane < length s.sessions → IsOnDisk m s → IsOnDisk m (with_session s lane (reader x))
disk_reader m s lane x l h = record {
  snapshots = h.snapshots;
  writers = λ i w is. changed s lane (reader x) i (writer w) _ l is (λ e n. absurd (no_writer_reader w x n)) (λ ne old. h.writers i w old);
}
