-- The commands on the store as a whole, by how their tests came out.
use Rattle.std.proofs.Common.{◌≡◌, ℕ, true, false, List, Option, None, Some, Ok, Err, refl, ap, ◌∙◌}
use Rattle.store_types.specs.declared.names.Keep.{Keep}
use Rattle.store_types.specs.declared.names.SnapshotKey.{SnapshotKey}
use Rattle.store_types.specs.declared.names.GroupKey.{GroupKey}
use Rattle.store_types.specs.declared.refusal.Refusal.{Refusal}
use Rattle.store_types.specs.declared.refusal.Refusal.TheVariants.{NoSnapshot, SnapshotBusy, TooMany}
use Rattle.store_types.specs.Chain.Refusing.{if_none}
use Rattle.store_files.specs.Archive.{Snapshot}
use Rattle.wire_commands.specs.declared.reply.Reply.{Reply}
use Rattle.wire_commands.specs.declared.reply.Reply.TheVariants.{Done, Listing, Files, Keys}
use Rattle.store_model.specs.Store.{Store, Session, snapshot_named, snapshot_holder, without_snapshot}
use Rattle.store_model.specs.Heads.{key_in, group_in, after_in, idle_key, idle_group}
use Rattle.store_model.specs.AdminSteps.{listed, list, file_rows, files, want_free, forget, group_texts, group, counts_fit, prune_group}

module _ (s : Store) (lane : ℕ) (text : List ℕ) where
  -- ---- LIST

  pub list_refused : (r : Refusal) → after_in s lane text ≡ Err r → list s lane text ≡ Err r
  unfolding list
  list_refused r h = rw h refl

  pub list_goes : (after : Option SnapshotKey) (reply : Reply) → after_in s lane text ≡ Ok after → reply ≡ Listing (listed s.snapshots after) → list s lane text ≡ Ok (s, reply)
  unfolding list
  list_goes after reply h is = rw (h, is) refl

  -- ---- FILES

  pub files_refused : (r : Refusal) → key_in s lane text ≡ Err r → files s lane text ≡ Err r
  unfolding files
  files_refused r h = rw h refl

  pub files_no_snapshot : (key : SnapshotKey) → key_in s lane text ≡ Ok key → snapshot_named key s.snapshots ≡ None → files s lane text ≡ Err NoSnapshot
  unfolding files
  files_no_snapshot key named none = rw (named, none) refl

  pub files_goes : (key : SnapshotKey) (x : Snapshot) (reply : Reply) → key_in s lane text ≡ Ok key → snapshot_named key s.snapshots ≡ Some x → reply ≡ Files (file_rows x.files)
      → files s lane text ≡ Ok (s, reply)
  unfolding files
  files_goes key x reply named found is = rw (named, found, is) refl

  -- ---- GROUP

  pub group_refused : (r : Refusal) → group_in s lane text ≡ Err r → group s lane text ≡ Err r
  unfolding group
  group_refused r h = rw h refl

  pub group_goes : (g : GroupKey) (reply : Reply) → group_in s lane text ≡ Ok g → reply ≡ Keys (group_texts g s.snapshots) → group s lane text ≡ Ok (s, reply)
  unfolding group
  group_goes g reply named is = rw (named, is) refl

-- ---- FORGET

module _ (s : Store) (key : SnapshotKey) where
  pub free_no_snapshot : snapshot_named key s.snapshots ≡ None → want_free s key ≡ Err NoSnapshot
  unfolding want_free
  free_no_snapshot none = rw none refl

  pub free_of_holders : (x : Snapshot) → snapshot_named key s.snapshots ≡ Some x → want_free s key ≡ if_none SnapshotBusy (snapshot_holder s key)
  unfolding want_free
  free_of_holders x found = rw found refl

module _ (s : Store) (lane : ℕ) (text : List ℕ) where
  pub forget_refused : (r : Refusal) → idle_key s lane text ≡ Err r → forget s lane text ≡ Err r
  unfolding forget
  forget_refused r e = rw e refl

  module _ (key : SnapshotKey) (begins : idle_key s lane text ≡ Ok key) where
    pub forget_not_free : (r : Refusal) → want_free s key ≡ Err r → forget s lane text ≡ Err r
    unfolding forget
    forget_not_free r e = rw (begins, e) refl

    pub forget_goes : (after : Store) → want_free s key ≡ Ok tt → after ≡ record s { snapshots = without_snapshot key s.snapshots } → forget s lane text ≡ Ok (after, Done)
    unfolding forget
    forget_goes after free is = rw (begins, free, is) refl

    -- as the code does it
    pub forget_as : want_free s key ≡ Ok tt → (before after : List Snapshot) (sessions : List Session)
        → (let store : Store = record { snapshots = before; sessions = sessions } in store ≡ s) → after ≡ without_snapshot key before
        → forget s lane text ≡ Ok ((let store : Store = record { snapshots = after; sessions = sessions } in store), Done)
    forget_as free before after sessions store gone =
        let new : Store = record { snapshots = after; sessions = sessions } in
        forget_goes new free
        (ap (λ (xs : List Snapshot). (let x : Store = record { snapshots = xs; sessions = sessions } in x)) gone
        ∙ ap (λ (x : Store). (let y : Store = record x { snapshots = without_snapshot key x.snapshots } in y)) store)

-- ---- the GROUP of a PRUNE

module _ (s : Store) (lane : ℕ) (text : List ℕ) (keep : Keep) where
  pub prune_refused : (r : Refusal) → idle_group s lane text ≡ Err r → prune_group s lane text keep ≡ Err r
  unfolding prune_group
  prune_refused r e = rw e refl

  module _ (g : GroupKey) (begins : idle_group s lane text ≡ Ok g) where
    pub prune_too_many : counts_fit keep ≡ false → prune_group s lane text keep ≡ Err (TooMany 1000)
    unfolding prune_group
    prune_too_many h = rw (begins, h) refl

    pub prune_goes : (reply : Reply) → counts_fit keep ≡ true → reply ≡ Keys (group_texts g s.snapshots) → prune_group s lane text keep ≡ Ok (s, reply)
    unfolding prune_group
    prune_goes reply h is = rw (begins, h, is) refl
