-- OPEN_WRITER is the store's.
use Rattle.disk_trait.specs.declared.disk.Disk.{Ghosts}
use Rattle.std.proofs.Common.{◌≡◌, ℕ, ◌<◌, Bool, true, false, length, set, map, List, [], Option, Some, None, Result, Ok, Err, IsTrue, refl, sym, ap, subst, ◌∙◌, arith}
use Rattle.std.proofs.lemmas.List.Elements.{All-nil}
use Rattle.std.specs.Prelude.{nat_lt}
use Rattle.disk_trait.specs.Files.{Files}
use Rattle.store_types.specs.declared.names.SnapshotKey.{SnapshotKey}
use Rattle.store_types.specs.declared.refusal.Refusal.{Refusal}
use Rattle.store_types.specs.declared.refusal.Refusal.TheVariants.{GroupBusy, NotNewer, TooMany}
use Rattle.store_types.specs.declared.names.GroupKey.{GroupKey}
use Rattle.store_types.specs.Chain.Refusing.{◌>>=◌, unless, if_none}
use Rattle.store_types.specs.KeyOrder.{same_group_equiv}
use Rattle.store_types.specs.Names.{IsKey, same_group, group_of_key}
use Rattle.lock_book.specs.Locks as book
use Rattle.lock_book.specs.Locks.{other_than, TakesWriter}
use Rattle.wire_commands.specs.declared.reply.Reply.{Reply}
use Rattle.wire_commands.specs.declared.reply.Reply.TheVariants.{Base}
use Rattle.wire_commands.specs.declared.reply.Reply.TheVariants as replies
use Rattle.wire_commands.specs.declared.command.Command.TheVariants.{OpenWriter}
use Rattle.store_model.specs.Heads as model_heads
use Rattle.store_model.specs.Store as model
use Rattle.store_model.specs.Store.{Store, Writer, writer, session, with_session, Outcome, writes_group, group_holder, in_group, latest_in}
use Rattle.store_model.specs.WriterSteps.{want_newer, new_writer, base_text, goes_on, open_writer}
use Rattle.store_model.specs.Steps.{outcome}
use Rattle.store_model.proofs.Done.{ok_same, passed}
use Rattle.store_model.proofs.GroupTimes.{newer_than_all}
use Rattle.store_model.proofs.HeadLemmas.{idle_key_found}
use Rattle.store_history.specs.declared.act.Act.TheVariants.{Plain}
use Rattle.backup_session.specs.Session.{settled}
use Rattle.backup_session.specs.Session as sessions
use Rattle.core_state.specs.declared.kept.StoredFile.{StoredFile}
use Rattle.core_state.specs.Named.{is_named}
use Rattle.core_state.proofs.NamedLemmas.{writer_stays_named}
use Rattle.backup_session.specs.Steps as rows
use Rattle.backup_session.specs.Shown as shows
use Rattle.core_state.specs.declared.kept.Session.{Session}
use Rattle.core_state.specs.declared.kept.Session.TheVariants as kept
use Rattle.core_state.specs.declared.parts.Parts.{Parts}
use Rattle.core_state.specs.Shown.{shown_snapshot}
use Rattle.core_state.specs.Holds.{IsSound, IsWriter, Shows, IsOnDisk, HasUploads, Holds}
use Rattle.core_state.proofs.LockLemmas.{idle_holds, locked_writer, no_holder}
use Rattle.core_state.specs.Indexed.{FitsRows}
use Rattle.core_state.proofs.Rows.{rows_begun}
use Rattle.core_state.proofs.Soundness.{IsAlone, sound_writer, disk_writer, shows_changed}
use Rattle.core_state.specs.declared.kept.Kept.{Kept}
use Rattle.core_state.specs.Found.{kept_in, latest_kept, latest_whole}
use Rattle.core_state.specs.Heads.{idle_key}
use Rattle.core_state.specs.Kept.{KeptAt, kept_at}
use Rattle.store_history.specs.Replies.{may_answer}
use Rattle.core_state.proofs.HeadLemmas.{idle_key_is, idle_key_refuses, refuses_none, refuses_some, refuses_then, refuses_unless}
use Rattle.core_writer.specs.Opened.{base_for, base_in, base_kept, new_writing, other_holder, to_write}
use Rattle.core_writer.proofs.OpenedLemmas.{latest_shown, latest_whole-shown, count_shown, may_open}

-- ---- the store's tests

abbrev tests : {A : Type 0} → Option ℕ → Result (Unit {0}) Refusal → Bool → Result A Refusal → Result A Refusal
tests holder newer room go = if_none GroupBusy holder >>= λ _. newer >>= λ _. unless (TooMany 4096) room >>= λ _. go

err_same : {A : Type 0} (r q : Refusal) → (let e : Result A Refusal = Err r in e ≡ Err q) → r ≡ q
err_same r q e = cc

refuses_alike : {A B : Type 0} (holder : Option ℕ) (newer : Result (Unit {0}) Refusal) (room : Bool) (a : A) (go : Result B Refusal) (r : Refusal) → tests holder newer room (Ok a) ≡ Err r → tests holder newer room go ≡ Err r
refuses_alike {A} (Some lane) newer room a go r e = ap (λ x. Err x) (err_same {A = A} (GroupBusy lane) r e)
refuses_alike {A} None (Err q) room a go r e = ap (λ x. Err x) (err_same {A = A} q r e)
refuses_alike {A} None (Ok u) false a go r e = ap (λ x. Err x) (err_same {A = A} (TooMany 4096) r e)
refuses_alike {A} None (Ok u) true a go r e = cc

passes_alike : {A B : Type 0} (holder : Option ℕ) (newer : Result (Unit {0}) Refusal) (room : Bool) (a b : A) (go : Result B Refusal) → tests holder newer room (Ok a) ≡ Ok b → tests holder newer room go ≡ go
passes_alike (Some lane) newer room a b go e = cc
passes_alike None (Err q) room a b go e = cc
passes_alike None (Ok u) false a b go e = cc
passes_alike None (Ok u) true a b go e = refl

module _ (s : Store) (lane moment : ℕ) (text : List ℕ) where
  abbrev step : Outcome
  step = outcome s lane moment (OpenWriter text)

  -- the head refuses
  pub head_refused : (r : Refusal) → model_heads.idle_key s lane text ≡ Err r → step ≡ Err r
  unfolding outcome open_writer
  head_refused r e = rw e refl

  abbrev after_tests : SnapshotKey → Outcome
  after_tests key = goes_on s lane (new_writer key moment (latest_in (group_of_key key) s.snapshots)) (Base (base_text (latest_in (group_of_key key) s.snapshots)))

  abbrev store_tests : {A : Type 0} → SnapshotKey → Result A Refusal → Result A Refusal
  store_tests key go =
      tests (group_holder s (group_of_key key)) (want_newer key.time (latest_in (group_of_key key) s.snapshots)) (nat_lt (length (in_group (group_of_key key) s.snapshots)) 4096) go

  in_turn : (key : SnapshotKey) → model_heads.idle_key s lane text ≡ Ok key → step ≡ store_tests key (after_tests key)
  unfolding outcome open_writer
  in_turn key head = rw head refl

  kept_tests : (key : SnapshotKey) → base_kept (map shown_snapshot s.snapshots) (group_holder s (group_of_key key)) key ≡ store_tests key (Ok (latest_in (group_of_key key) s.snapshots))
  unfolding base_in
  kept_tests key =
      rw (latest_shown (group_of_key key) s.snapshots, latest_whole-shown (group_of_key key) s.snapshots, count_shown (group_of_key key) s.snapshots) refl

  pub refused : (key : SnapshotKey) (r : Refusal) → model_heads.idle_key s lane text ≡ Ok key → base_kept (map shown_snapshot s.snapshots) (group_holder s (group_of_key key)) key ≡ Err r → step ≡ Err r
  refused key r head e = in_turn key head ∙ refuses_alike (group_holder s (group_of_key key)) (want_newer key.time (latest_in (group_of_key key) s.snapshots)) (nat_lt (length (in_group (group_of_key key) s.snapshots)) 4096) (latest_in (group_of_key key) s.snapshots) (after_tests key) r (sym (kept_tests key) ∙ e)

  pub opened : (key : SnapshotKey) (base : Option SnapshotKey) → model_heads.idle_key s lane text ≡ Ok key → base_kept (map shown_snapshot s.snapshots) (group_holder s (group_of_key key)) key ≡ Ok base
      → step ≡ Ok (with_session s lane (writer (new_writer key moment base)), Base (base_text base))
  unfolding goes_on
  opened key base head e =
      let latest = sym (latest_whole-shown (group_of_key key) s.snapshots) ∙ (may_open _ _ key base e).latest in
      in_turn key head ∙ passes_alike (group_holder s (group_of_key key)) (want_newer key.time (latest_in (group_of_key key) s.snapshots)) (nat_lt (length (in_group (group_of_key key) s.snapshots)) 4096) (latest_in (group_of_key key) s.snapshots) base (after_tests key) (sym (kept_tests key) ∙ e)
      ∙ ap (λ b. Ok (with_session s lane (writer (new_writer key moment b)), Base (base_text b))) latest

-- ---- the new writer

not_true : (b : Bool) → b ≡ false → b ≡ true → ⊥
not_true true e f = cc
not_true false e f = cc

-- no writer has the group
pub alone : (s : Store) (lane : ℕ) (x : Writer) → IsSound s → group_holder s (group_of_key x.key) ≡ None → IsAlone s lane x
alone s lane x sound free = λ i w ne is same.
    let group = group_of_key x.key in
    let none : writes_group group (session s i) ≡ false = no_holder s group free i sound in
    not_true (same_group group (group_of_key w.key)) (ap (writes_group group) (sym is) ∙ none) (same_group_equiv.symm group (group_of_key w.key) ∙ same)

pub is_new_writer : (s : Store) (key : SnapshotKey) (moment : ℕ) (base : Option SnapshotKey) → IsSound s → IsKey key → want_newer key.time (latest_in (group_of_key key) s.snapshots) ≡ Ok tt → length (in_group (group_of_key key) s.snapshots) < 4096
    → IsWriter s.snapshots (new_writer key moment base)
is_new_writer s key moment base h is newer room = record {
  key = is;
  newer = newer_than_all (group_of_key key) key.time s.snapshots h.order newer;
  room = room;
  names = refl;
  kinds = All-nil _;
  contents = All-nil _;
  count = omega arith;
  pool = All-nil _;
  begun = tt;
  pooled = All-nil _;
  free = All-nil _;
  differ = refl;
}

no_uploads : (m : Files) (key : SnapshotKey) (moment : ℕ) (base : Option SnapshotKey) → HasUploads m (new_writer key moment base)
no_uploads m key moment base = record { files = All-nil _; pool = All-nil _ }

-- a new writer's key has a text
pub named_new : (v : sessions.Session) (files : List StoredFile) (key : SnapshotKey) (moment : ℕ) (base : Option SnapshotKey) → v ≡ settled (rows.opened key moment base) → IsKey key
    → is_named (kept.Writer (record { session = v; files = files })) ≡ true
named_new v files key moment base is named =
    ap (λ x. is_named (kept.Writer (record { session = x; files = files }))) is ∙ writer_stays_named (record { session = settled (rows.opened key moment base); files = files }) named refl

-- a lane without a session finds the groups of other lanes alone
pub tests_are : {D : Type 0} (old : Parts D) (s : Store) (lane : ℕ) (key : SnapshotKey) (r : Result (Option SnapshotKey) Refusal)
    → base_kept (map (λ x. x.kept) old.catalogue.listed) (other_than lane (book.group_holder old.locks (group_of_key key))) key ≡ r → session s lane ≡ model.none → Shows old s
    → base_kept (map shown_snapshot s.snapshots) (group_holder s (group_of_key key)) key ≡ r
tests_are old s lane key r is idle h =
    let holder = (idle_holds old.locks s lane idle h.locks).groups (group_of_key key) ∙ (h.locks).groups (group_of_key key) in
    ap (λ k. base_kept k (group_holder s (group_of_key key)) key) (sym h.catalogue) ∙ ap (λ o. base_kept (map (λ x. x.kept) old.catalogue.listed) o key) (sym holder) ∙ is

-- ---- the tests in a row

ok_err : {A : Type 0} (x : A) (r : Refusal) → ◌≡◌ {A = Result A Refusal} (Ok x) (Err r) → ⊥
ok_err x r e = cc

-- the refusals of those behind the head
module _ (kept : List Kept) (group : GroupKey) (time : ℕ) where
  abbrev room : Bool
  room = nat_lt (length (kept_in group kept)) 4096

  abbrev behind_newer : Result (Option SnapshotKey) Refusal
  behind_newer = unless (TooMany 4096) room >>= λ _. Ok (latest_whole group kept)

  abbrev behind_free : Result (Option SnapshotKey) Refusal
  behind_free = want_newer time (latest_kept group kept) >>= λ _. behind_newer

  base_refuses : (P : Refusal → Type 0) → ((lane : ℕ) → P (GroupBusy lane)) → ((latest : ℕ) → P (NotNewer latest)) → P (TooMany 4096)
      → (holder : Option ℕ) (r : Refusal) → base_in kept holder group time ≡ Err r → P r
  unfolding base_in
  base_refuses P busy newer full holder r e =
      refuses_then P (if_none (λ lane. GroupBusy lane) holder) (λ _. behind_free) (refuses_some P (λ lane. GroupBusy lane) holder busy)
      (λ _. refuses_then P (want_newer time (latest_kept group kept)) (λ _. behind_newer) (by_latest (latest_kept group kept))
      (λ _. refuses_then P (unless (TooMany 4096) room) (λ _. Ok (latest_whole group kept)) (refuses_unless P (TooMany 4096) room full) (λ _. refuses_none P (latest_whole group kept)))) r e
    where
      by_latest : (latest : Option SnapshotKey) (r : Refusal) → want_newer time latest ≡ Err r → P r
      by_latest None r e = absurd (ok_err tt r e)
      by_latest (Some key) r e = refuses_unless P (NotNewer key.time) (nat_lt key.time time) (newer key.time) r e

abbrev with_key : SnapshotKey → Option SnapshotKey → Result (SnapshotKey × Option SnapshotKey) Refusal
with_key key base = Ok (key, base)

module _ (text : List ℕ) (k : KeptAt) where
  abbrev base_at : SnapshotKey → Result (Option SnapshotKey) Refusal
  base_at key = base_for k.locks k.catalogue k.lane key

  abbrev behind_key : SnapshotKey → Result (SnapshotKey × Option SnapshotKey) Refusal
  behind_key key = base_at key >>= with_key key

  write_is : to_write text k ≡ (idle_key text k >>= behind_key)
  unfolding to_write
  write_is = refl

  pub write_answers : (r : Refusal) → to_write text k ≡ Err r → IsTrue (may_answer (Plain (OpenWriter text)) (replies.Refused r))
  write_answers r e =
      let P : Refusal → Type 0 = λ q. IsTrue (may_answer (Plain (OpenWriter text)) (replies.Refused q)) in
      refuses_then P (idle_key text k) behind_key (idle_key_refuses P k text (λ state. refl) refl)
      (λ key. refuses_then P (base_at key) (with_key key) (base_refuses _ _ _ P (λ lane. refl) (λ latest. refl) refl _) (λ base. refuses_none P (key, base))) r (sym write_is ∙ e)

  -- what they have found
  pub write_found : (key : SnapshotKey) (base : Option SnapshotKey) → to_write text k ≡ Ok (key, base) → (idle_key text k ≡ Ok key) × (base_at key ≡ Ok base)
  write_found key base e = by_head (passed (idle_key text k) behind_key (key, base) (sym write_is ∙ e))
    where
      by_base : (found : SnapshotKey) → idle_key text k ≡ Ok found → (of_base : Option SnapshotKey) × (base_at found ≡ Ok of_base) × (with_key found of_base ≡ Ok (key, base))
          → (idle_key text k ≡ Ok key) × (base_at key ≡ Ok base)
      by_base found head (of_base, at, e) =
          let both : ◌≡◌ {A = SnapshotKey × Option SnapshotKey} (found, of_base) (key, base) = ok_same (found, of_base) (key, base) e in
          let one : found ≡ key = ap (λ (p : SnapshotKey × Option SnapshotKey). p.0) both in
          let two : of_base ≡ base = ap (λ (p : SnapshotKey × Option SnapshotKey). p.1) both in
          (head ∙ ap (λ y. Ok y) one, subst (λ y. base_at y ≡ Ok base) one (at ∙ ap (λ y. Ok y) two))

      by_head : (found : SnapshotKey) × (idle_key text k ≡ Ok found) × (behind_key found ≡ Ok (key, base)) → (idle_key text k ≡ Ok key) × (base_at key ≡ Ok base)
      by_head (found, head, e) = by_base found head (passed (base_at found) (with_key found) (key, base) e)

  -- no other lane's writer has the group
  pub write_free : (key : SnapshotKey) (base : Option SnapshotKey) → to_write text k ≡ Ok (key, base) → other_holder k.locks k.lane (group_of_key key) ≡ None
  write_free key base e = (may_open _ _ key base (write_found key base e).1).free

module _ {D : Type 0} (parts : Parts D) (s : Store) (lane moment : ℕ) (text : List ℕ) (shows : Shows parts s) (lt : lane < 64) where
  abbrev k : KeptAt
  k = kept_at parts lane

  abbrev Refuses : Refusal → Type 0
  Refuses r = outcome s lane moment (OpenWriter text) ≡ Err r

  by_base : (r : Refusal) (key : SnapshotKey) → model_heads.idle_key s lane text ≡ Ok key → (b : Result (Option SnapshotKey) Refusal) → base_at text k key ≡ b → (b >>= with_key key) ≡ Err r → Refuses r
  by_base r key head (Ok base) at e = absurd (ok_err (key, base) r e)
  by_base r key head (Err q) at e =
      refused s lane moment text key q head (tests_are parts s lane key (Err q) at (idle_key_found s lane text key head).0 shows) ∙ ap (λ x. Err x) (err_same {A = SnapshotKey × Option SnapshotKey} q r e)

  by_head : (r : Refusal) (o : Result SnapshotKey Refusal) → o ≡ model_heads.idle_key s lane text → (o >>= behind_key text k) ≡ Err r → Refuses r
  by_head r (Ok key) head e = by_base r key (sym head) (base_at text k key) refl e
  by_head r (Err q) head e = head_refused s lane moment text q (sym head) ∙ ap (λ x. Err x) (err_same {A = SnapshotKey × Option SnapshotKey} q r e)

  -- what is refused the store refuses
  pub write_refused : (r : Refusal) → to_write text k ≡ Err r → Refuses r
  write_refused r e = by_head r (idle_key text k) (idle_key_is parts s lane shows lt text) (sym (write_is text k) ∙ e)

module _ {D : Type 0} (g : Ghosts D) where
  pub opens : (old new : Parts D) (s : Store) (lane moment : ℕ) (text : List ℕ) (key : SnapshotKey) (base : Option SnapshotKey) (y : Session) (reply : Reply)
      → lane < 64 → to_write text (kept_at old lane) ≡ Ok (key, base) → IsKey key
      → new.catalogue.listed ≡ old.catalogue.listed → new.sessions.items ≡ set old.sessions.items lane y → new.indexes.items ≡ old.indexes.items → TakesWriter old.locks new.locks lane (group_of_key key) base → y ≡ kept.Writer (new_writing key moment base) → shows.Shows (rows.opened key moment base) (new_writer key moment base) → reply ≡ Base (base_text base)
      → Holds g old s → (after : Store) × (outcome s lane moment (OpenWriter text) ≡ Ok (after, reply)) × Shows new after × IsOnDisk (g.content old.disk) after
  opens old new s lane moment text key base y reply lt decided is_key c l rows k y_is shown reply_is h =
      let sound = (h.shows).sound in
      let within : lane < length s.sessions = omega (arith, sound.lanes, lt) in
      let found = write_found text (kept_at old lane) key base decided in
      let head : model_heads.idle_key s lane text ≡ Ok key = sym (idle_key_is old s lane h.shows lt text) ∙ found.0 in
      let none = (idle_key_found s lane text key head).0 in
      let tested2 = tests_are old s lane key (Ok base) found.1 none h.shows in
      let may = may_open (map shown_snapshot s.snapshots) (group_holder s (group_of_key key)) key base tested2 in
      let w = new_writer key moment base in
      let is_writer = is_new_writer s key moment base sound is_key (ap (want_newer key.time) (sym (latest_shown (group_of_key key) s.snapshots)) ∙ may.newer) (subst (λ n. n < 4096) (count_shown (group_of_key key) s.snapshots) may.room) in
      let sound_after = sound_writer s lane w lt is_writer (alone s lane w sound may.free) sound in
      let locks = locked_writer old.locks new.locks s lane w within sound sound_after none k (h.shows).locks in (
        with_session s lane (writer w),
        opened s lane moment text key base head tested2 ∙ ap (λ r. Ok (with_session s lane (writer w), r)) (sym reply_is),
        shows_changed old new s lane (writer w) y c l (y_is ∙ ap (λ v. kept.Writer (record { session = settled v; files = [] })) shown.same) locks
            (subst (FitsRows (with_session s lane (writer w))) (sym rows) (rows_begun s lane old.indexes.items within (h.shows).indexes (writer w) none)) sound_after h.shows,
        disk_writer (g.content old.disk) s lane w within (no_uploads (g.content old.disk) key moment base) h.files,
      )
