-- What a SYNC pulls, by how its tests came out.
use Rattle.std.proofs.Common.{◌≡◌, ℕ, List, take, filter, map, Option, None, Some, Ok, Err, refl, sym, ap, ◌∙◌}
use Rattle.std.specs.List.{last_or}
use Rattle.store_types.specs.declared.names.GroupKey.{GroupKey}
use Rattle.store_types.specs.declared.names.SnapshotKey.{SnapshotKey}
use Rattle.store_types.specs.declared.refusal.Refusal.{Refusal}
use Rattle.store_types.specs.declared.refusal.Refusal.TheVariants.{NoRemote}
use Rattle.store_files.specs.Archive.{Snapshot}
use Rattle.store_model.specs.Stands.{group_limit}
use Rattle.store_model.specs.Store.{Store, in_group}
use Rattle.store_model.specs.Heads.{idle_group}
use Rattle.store_model.specs.SyncJob.{is_later, to_pull}

module _ (remote : Option (List Snapshot)) (s : Store) (lane : ℕ) (text : List ℕ) where
  pub pull_refused : (r : Refusal) → idle_group s lane text ≡ Err r → to_pull remote s lane text ≡ Err r
  unfolding to_pull
  pull_refused r e = rw e refl

  module _ (g : GroupKey) (begins : idle_group s lane text ≡ Ok g) where
    pub pull_no_remote : remote ≡ None → to_pull remote s lane text ≡ Err NoRemote
    unfolding to_pull
    pull_no_remote none = rw (begins, none) refl

    pub pull_goes : (snapshots here there found : List Snapshot) (newest : Option SnapshotKey) → remote ≡ Some snapshots
        → here ≡ in_group g s.snapshots → there ≡ in_group g snapshots → newest ≡ last_or None (take group_limit (map (λ (x : Snapshot). x.key) here))
        → found ≡ filter (is_later newest) there → to_pull remote s lane text ≡ Ok found
    unfolding to_pull
    pull_goes snapshots here there found newest is own others last kept =
        let told = last ∙ ap (λ (xs : List Snapshot). last_or None (take group_limit (map (λ (x : Snapshot). x.key) xs))) own in
        rw (begins, is) (ap (λ xs. Ok xs) (sym (kept ∙ ap (filter (is_later newest)) others ∙ ap (λ o. filter (is_later o) (in_group g snapshots)) told)))
