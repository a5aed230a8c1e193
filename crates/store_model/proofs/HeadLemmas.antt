-- What a command's head has found.
use Rattle.std.proofs.Common.{◌≡◌, ℕ, List, Option, Some, None, Ok, refl, ap}
use Rattle.store_types.specs.declared.names.SnapshotKey.{SnapshotKey}
use Rattle.store_types.specs.declared.names.GroupKey.{GroupKey}
use Rattle.store_types.specs.declared.refusal.Refusal.{Refusal}
use Rattle.store_types.specs.Chain.Refusing.{or_else}
use Rattle.store_types.specs.Names.{key_of, group_of}
use Rattle.store_model.specs.Store.{Session, none, writer, reader, Store, session, want_idle}
use Rattle.store_model.specs.Heads.{key_in, group_in, idle_in, idle_key, idle_group}
use Rattle.store_model.proofs.Done.{ok_same, err_ok, passed}

-- there is one
one : {A : Type 0} (refusal : Refusal) (o : Option A) (x : A) → or_else refusal o ≡ Ok x → o ≡ Some x
one refusal None x e = absurd (err_ok refusal x e)
one refusal (Some y) x e = ap (λ a. Some a) (ok_same y x e)

no_session : (x : Session) (u : Unit {0}) → want_idle x ≡ Ok u → x ≡ none
no_session none u e = refl
no_session (writer v) u e = absurd (err_ok _ u e)
no_session (reader r) u e = absurd (err_ok _ u e)

module _ (s : Store) (k : ℕ) where
  pub is_idle : (u : Unit {0}) → idle_in s k ≡ Ok u → session s k ≡ none
  unfolding idle_in
  is_idle u e = no_session (session s k) u e

  module _ (text : List ℕ) where
    pub key_named : (key : SnapshotKey) → key_in s k text ≡ Ok key → key_of text ≡ Some key
    unfolding key_in
    key_named key e = one _ (key_of text) key e

    pub group_named : (g : GroupKey) → group_in s k text ≡ Ok g → group_of text ≡ Some g
    unfolding group_in
    group_named g e = one _ (group_of text) g e

    pub idle_key_found : (key : SnapshotKey) → idle_key s k text ≡ Ok key → (session s k ≡ none) × (key_of text ≡ Some key)
    unfolding idle_key
    idle_key_found key e = let (u, idle, e1) = passed (idle_in s k) _ key e in (is_idle u idle, key_named key e1)

    pub idle_group_found : (g : GroupKey) → idle_group s k text ≡ Ok g → (session s k ≡ none) × (group_of text ≡ Some g)
    unfolding idle_group
    idle_group_found g e = let (u, idle, e1) = passed (idle_in s k) _ g e in (is_idle u idle, group_named g e1)
