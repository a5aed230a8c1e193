-- What OPEN_WRITER tests of what is kept is what the store tests.
use Rattle.std.proofs.Common.{◌≡◌, ℕ, ◌<◌, Bool, true, false, cond, length, map, filter, List, [], ◌∷◌, Option, Some, None, Result, Ok, Err, refl, ap, ◌∙◌}
use Rattle.std.proofs.lemmas.Bool.{ltb-true}
use Rattle.std.proofs.lemmas.List.{length-map}
use Rattle.std.specs.List.{last_or}
use Rattle.std.specs.Prelude.{nat_lt}
use Rattle.store_types.specs.declared.names.SnapshotKey.{SnapshotKey}
use Rattle.store_types.specs.declared.names.GroupKey.{GroupKey}
use Rattle.store_types.specs.declared.refusal.Refusal.{Refusal}
use Rattle.store_types.specs.declared.refusal.Refusal.TheVariants.{GroupBusy, TooMany}
use Rattle.store_types.specs.Chain.Refusing.{◌>>=◌, unless, if_none}
use Rattle.store_types.specs.Names.{same_group, group_of_key}
use Rattle.store_files.specs.Archive.{Snapshot}
use Rattle.store_model.specs.Store.{in_group, latest_in}
use Rattle.store_model.specs.WriterSteps.{want_newer}
use Rattle.core_state.specs.declared.kept.Kept.{Kept}
use Rattle.core_state.specs.Shown.{shown_snapshot}
use Rattle.core_state.specs.Found.{is_whole, kept_in, latest_kept, latest_whole}
use Rattle.core_writer.specs.Opened.{base_in, base_kept}

-- ---- each test

cond_shown : (b : Bool) (x : Snapshot) (xs : List Snapshot) (ys : List Kept) → ys ≡ map shown_snapshot xs → cond b (shown_snapshot x ∷ ys) ys ≡ map shown_snapshot (cond b (x ∷ xs) xs)
cond_shown true x xs ys e = ap (λ (l : List Kept). shown_snapshot x ∷ l) e
cond_shown false x xs ys e = e

pub kept_in-shown : (group : GroupKey) (xs : List Snapshot) → kept_in group (map shown_snapshot xs) ≡ map shown_snapshot (in_group group xs)
kept_in-shown group [] = refl
kept_in-shown group (x ∷ xs) = cond_shown (same_group (group_of_key x.key) group) x (in_group group xs) (kept_in group (map shown_snapshot xs)) (kept_in-shown group xs)

keys_shown : (xs : List Snapshot) → map (λ (x : Kept). x.key) (map shown_snapshot xs) ≡ map (λ (x : Snapshot). x.key) xs
keys_shown [] = refl
keys_shown (x ∷ xs) = ap (λ (l : List SnapshotKey). x.key ∷ l) (keys_shown xs)

pub latest_shown : (group : GroupKey) (xs : List Snapshot) → latest_kept group (map shown_snapshot xs) ≡ latest_in group xs
latest_shown group xs = ap (λ l. last_or None (map (λ (x : Kept). x.key) l)) (kept_in-shown group xs) ∙ ap (λ l. last_or None l) (keys_shown (in_group group xs))

-- all that are shown are whole
whole_shown : (xs : List Snapshot) → filter is_whole (map shown_snapshot xs) ≡ map shown_snapshot xs
whole_shown [] = refl
whole_shown (x ∷ xs) = ap (λ (l : List Kept). shown_snapshot x ∷ l) (whole_shown xs)

pub latest_whole-shown : (group : GroupKey) (xs : List Snapshot) → latest_whole group (map shown_snapshot xs) ≡ latest_in group xs
latest_whole-shown group xs = ap (latest_kept group) (whole_shown xs) ∙ latest_shown group xs

pub count_shown : (group : GroupKey) (xs : List Snapshot) → length (kept_in group (map shown_snapshot xs)) ≡ length (in_group group xs)
count_shown group xs = ap length (kept_in-shown group xs) ∙ length-map (in_group group xs) shown_snapshot

-- ---- the tests in a row

-- what the tests find, where none refuses
pub record MayOpen (kept : List Kept) (holder : Option ℕ) (key : SnapshotKey) (base : Option SnapshotKey) : Type 0 where
  pub free : holder ≡ None
  pub newer : want_newer key.time (latest_kept (group_of_key key) kept) ≡ Ok tt
  pub room : length (kept_in (group_of_key key) kept) < 4096
  pub latest : latest_whole (group_of_key key) kept ≡ base

may_by : (p : Option ℕ) (n : Result (Unit {0}) Refusal) (b : Bool) (l base : Option SnapshotKey) → (if_none GroupBusy p >>= λ _. n >>= λ _. unless (TooMany 4096) b >>= λ _. Ok l) ≡ Ok base
    → (p ≡ None) × (n ≡ Ok tt) × (b ≡ true) × (l ≡ base)
may_by (Some lane) n b l base e = cc
may_by None (Err r) b l base e = cc
may_by None (Ok u) false l base e = cc
may_by None (Ok u) true l base e = (refl, refl, refl, same l base e)
  where
    same : (l base : Option SnapshotKey) → let k : Result (Option SnapshotKey) Refusal = Ok l in k ≡ Ok base → l ≡ base
    same l base e = cc

pub may_open : (kept : List Kept) (holder : Option ℕ) (key : SnapshotKey) (base : Option SnapshotKey) → base_kept kept holder key ≡ Ok base → MayOpen kept holder key base
unfolding base_in
may_open kept holder key base e =
    let all = may_by holder (want_newer key.time (latest_kept (group_of_key key) kept)) (nat_lt (length (kept_in (group_of_key key) kept)) 4096) (latest_whole (group_of_key key) kept) base e in
    record { free = all.0; newer = all.1; room = ltb-true (length (kept_in (group_of_key key) kept)) 4096 all.2; latest = all.3 }
