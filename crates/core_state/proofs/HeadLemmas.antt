-- Which refusals a command's head has, and that it is the plain store's.
use Rattle.std.proofs.Common.{◌≡◌, ◌∙◌, ◌<◌, ◌==◌, ℕ, Bool, true, false, if◌then◌else◌, length, List, Option, Some, None, Result, Ok, Err, IsErrAnd, refl, sym, ap, subst}
use Rattle.store_types.specs.declared.names.GroupKey.{GroupKey}
use Rattle.store_types.specs.declared.names.SnapshotKey.{SnapshotKey}
use Rattle.store_types.specs.declared.refusal.Refusal.{Refusal}
use Rattle.store_types.specs.declared.refusal.Refusal.TheVariants.{BadName, WrongState}
use Rattle.store_types.specs.declared.refusal.SessionState.{SessionState}
use Rattle.store_types.specs.Chain.Refusing.{◌>>=◌, if_none, or_else, unless}
use Rattle.store_types.specs.Names.{group_of, key_of}
use Rattle.store_files.specs.Archive.{Snapshot}
use Rattle.store_model.specs.Heads as model
use Rattle.store_model.specs.Store as store
use Rattle.store_model.specs.Store.{Store, session}
use Rattle.store_stops.specs.declared.stop.Stop.{Stop}
use Rattle.store_stops.specs.declared.stop.Stop.TheVariants.{Refused, NoMemory, DiskFailed}
use Rattle.core_state.specs.declared.parts.Parts.{Parts}
use Rattle.core_state.specs.Decides.{Decides}
use Rattle.core_state.specs.Heads.{after_in, group_in, idle_group, idle_in, idle_key, key_in}
use Rattle.core_state.specs.Holds.{Shows}
use Rattle.core_state.specs.Kept.{KeptAt, kept_at}
use Rattle.core_state.specs.Shown.{shown_session}
use Rattle.core_state.specs.Wanted.{want_idle}
use Rattle.core_state.proofs.Commanding.{busy_by_state, session_shown}

ok_err : {A : Type 0} (x : A) (r : Refusal) → ◌≡◌ {A = Result A Refusal} (Ok x) (Err r) → ⊥
ok_err x r e = cc

err_same : {A : Type 0} (q r : Refusal) → ◌≡◌ {A = Result A Refusal} (Err q) (Err r) → q ≡ r
err_same q r e = cc

-- ---- the refusals of tests that come one after another

module _ (P : Refusal → Type 0) where
  -- the first test's, or one of what comes after it
  pub refuses_then : {A B : Type 0} (first : Result A Refusal) (next : A → Result B Refusal) → ((r : Refusal) → first ≡ Err r → P r) → ((x : A) (r : Refusal) → next x ≡ Err r → P r)
      → (r : Refusal) → (first >>= next) ≡ Err r → P r
  refuses_then (Ok x) next p q r e = q x r e
  refuses_then (Err cause) next p q r e = subst P (err_same cause r e) (p cause refl)

  pub refuses_or : {A : Type 0} (refusal : Refusal) (o : Option A) → P refusal → (r : Refusal) → or_else refusal o ≡ Err r → P r
  refuses_or refusal None p r e = subst P (err_same refusal r e) p
  refuses_or refusal (Some x) p r e = absurd (ok_err x r e)

  pub refuses_some : {A : Type 0} (refusal : A → Refusal) (o : Option A) → ((x : A) → P (refusal x)) → (r : Refusal) → if_none refusal o ≡ Err r → P r
  refuses_some refusal None p r e = absurd (ok_err tt r e)
  refuses_some refusal (Some x) p r e = subst P (err_same (refusal x) r e) (p x)

  pub refuses_unless : (refusal : Refusal) (b : Bool) → P refusal → (r : Refusal) → unless refusal b ≡ Err r → P r
  refuses_unless refusal true p r e = absurd (ok_err tt r e)
  refuses_unless refusal false p r e = subst P (err_same refusal r e) p

  pub refuses_none : {A : Type 0} (x : A) (r : Refusal) → ◌≡◌ {A = Result A Refusal} (Ok x) (Err r) → P r
  refuses_none x r e = absurd (ok_err x r e)

  -- ---- and of the heads

  module _ (k : KeptAt) where
    pub idle_in_refuses : ((state : SessionState) → P (WrongState state)) → (r : Refusal) → idle_in k ≡ Err r → P r
    unfolding idle_in
    idle_in_refuses busy r e = busy_by_state k.session r P busy e

    module _ (text : List ℕ) where
      pub key_in_refuses : P BadName → (r : Refusal) → key_in text k ≡ Err r → P r
      unfolding key_in
      key_in_refuses bad r e = refuses_or BadName (key_of text) bad r e

      pub group_in_refuses : P BadName → (r : Refusal) → group_in text k ≡ Err r → P r
      unfolding group_in
      group_in_refuses bad r e = refuses_or BadName (group_of text) bad r e

      pub after_in_refuses : P BadName → (r : Refusal) → after_in text k ≡ Err r → P r
      unfolding after_in
      after_in_refuses bad r e = by_length (length text == 0) e
        where
          by_length : (b : Bool) → (if b then Ok None else (key_in text k >>= λ key. Ok (Some key))) ≡ Err r → P r
          by_length true e = absurd (ok_err None r e)
          by_length false e = refuses_then (key_in text k) (λ key. Ok (Some key)) (key_in_refuses bad) (λ key. refuses_none (Some key)) r e

      pub idle_key_refuses : ((state : SessionState) → P (WrongState state)) → P BadName → (r : Refusal) → idle_key text k ≡ Err r → P r
      unfolding idle_key
      idle_key_refuses busy bad r e = refuses_then (idle_in k) (λ u. key_in text k) (idle_in_refuses busy) (λ u. key_in_refuses bad) r e

      pub idle_group_refuses : ((state : SessionState) → P (WrongState state)) → P BadName → (r : Refusal) → idle_group text k ≡ Err r → P r
      unfolding idle_group
      idle_group_refuses busy bad r e = refuses_then (idle_in k) (λ u. group_in text k) (idle_in_refuses busy) (λ u. group_in_refuses bad) r e

-- ---- what they have found

found : {A : Type 0} (refusal : Refusal) (o : Option A) (x : A) → or_else refusal o ≡ Ok x → o ≡ Some x
found refusal None x e = cc
found refusal (Some y) x e = cc

module _ (k : KeptAt) (text : List ℕ) where
  pub key_in_named : (key : SnapshotKey) → key_in text k ≡ Ok key → key_of text ≡ Some key
  unfolding key_in
  key_in_named key e = found BadName (key_of text) key e

  pub idle_key_named : (key : SnapshotKey) → idle_key text k ≡ Ok key → key_of text ≡ Some key
  unfolding idle_key
  idle_key_named key e = key_in_named key (by_session (idle_in k) e)
    where
      by_session : (r : Result (Unit {0}) Refusal) → (r >>= λ u. key_in text k) ≡ Ok key → key_in text k ≡ Ok key
      by_session (Ok u) e = e
      by_session (Err refusal) e = cc

  pub idle_group_named : (group : GroupKey) → idle_group text k ≡ Ok group → group_of text ≡ Some group
  unfolding idle_group group_in
  idle_group_named group e = by_session (idle_in k) e
    where
      by_session : (r : Result (Unit {0}) Refusal) → (r >>= λ u. or_else BadName (group_of text)) ≡ Ok group → group_of text ≡ Some group
      by_session (Ok u) e = found BadName (group_of text) group e
      by_session (Err refusal) e = cc

-- ---- a decision that its first test stops

module _ {A B C E D : Type 0} (shown : A → B) (first : KeptAt → Result B Refusal) (also : C → E) (wanted : KeptAt → Result E Refusal) (parts : Parts D) (lane : ℕ)
    (so : (r : Refusal) → first (kept_at parts lane) ≡ Err r → wanted (kept_at parts lane) ≡ Err r) where
  stops_first : (stop : Stop) → Decides shown first parts lane (Err stop) → Decides also wanted parts lane (Err stop)
  stops_first (Refused r) says = (so r says.0, says.1)
  stops_first NoMemory says = tt
  stops_first DiskFailed says = absurd says

  pub decided_first : (stop : Stop) (result : Result C Stop) → IsErrAnd result (λ x. x ≡ stop) → Decides shown first parts lane (Err stop) → Decides also wanted parts lane result
  decided_first stop (Ok x) is says = absurd is
  decided_first stop (Err x) is says = subst (λ y. Decides also wanted parts lane (Err y)) (sym is) (stops_first stop says)

-- ---- they are the plain store's

same_idle : (snapshots : List Snapshot) (x : store.Session) → want_idle (shown_session snapshots x) ≡ store.want_idle x
same_idle snapshots store.none = refl
same_idle snapshots (store.writer w) = refl
same_idle snapshots (store.reader r) = refl

module _ {D : Type 0} (parts : Parts D) (s : Store) (lane : ℕ) where
  pub key_in_is : (text : List ℕ) → key_in text (kept_at parts lane) ≡ model.key_in s lane text
  unfolding key_in model.key_in
  key_in_is text = refl

  pub group_in_is : (text : List ℕ) → group_in text (kept_at parts lane) ≡ model.group_in s lane text
  unfolding group_in model.group_in
  group_in_is text = refl

  pub after_in_is : (text : List ℕ) → after_in text (kept_at parts lane) ≡ model.after_in s lane text
  unfolding after_in key_in model.after_in
  after_in_is text = refl

  module _ (shows : Shows parts s) (lt : lane < 64) where
    pub idle_in_is : idle_in (kept_at parts lane) ≡ model.idle_in s lane
    unfolding idle_in model.idle_in
    idle_in_is = ap want_idle (session_shown parts s lane shows lt) ∙ same_idle s.snapshots (session s lane)

    pub idle_key_is : (text : List ℕ) → idle_key text (kept_at parts lane) ≡ model.idle_key s lane text
    unfolding idle_key model.idle_key
    idle_key_is text = ap (λ r. r >>= λ u. key_in text (kept_at parts lane)) idle_in_is ∙ ap (λ key. model.idle_in s lane >>= λ u. key) (key_in_is text)

    pub idle_group_is : (text : List ℕ) → idle_group text (kept_at parts lane) ≡ model.idle_group s lane text
    unfolding idle_group model.idle_group
    idle_group_is text = ap (λ r. r >>= λ u. group_in text (kept_at parts lane)) idle_in_is ∙ ap (λ group. model.idle_in s lane >>= λ u. group) (group_in_is text)
