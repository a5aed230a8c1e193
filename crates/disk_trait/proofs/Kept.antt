-- What the calls of a disk in memory leave.
use Rattle.std.proofs.Common.{◌≡◌, ◌≤◌, ◌+◌, ◌-◌, ◌^◌, ◌++◌, [], ◌∷◌, inl, ℕ, List, min, refl, ◌∙◌, ap, subst}
use Rattle.std.specs.FinMap.{empty}
use Rattle.disk_trait.specs.Files.{Files, SameBut}
use Rattle.disk_trait.specs.Disk.{LeavesOnly, After, Now, MayMove, MayGo}
use Rattle.disk_trait.specs.Replay.{done, played, stepped, images_of, IsPut, IsRename, IsRemove}
use Rattle.disk_trait.specs.Replayed.{played_push}
use Rattle.disk_trait.specs.Steps.{put_stepped, rename_stepped, remove_stepped}
use Rattle.disk_trait.specs.Timeline.{quiet_leaves, logged_leaves, synced, leaves_played}
use Rattle.disk_trait.specs.declared.memory.MemoryDisk.{MemoryDisk}
use Rattle.disk_trait.specs.declared.step_log.Step.{Step}
use Rattle.disk_trait.specs.declared.step_log.Step.TheVariants.{Sync}
use Rattle.disk_trait.specs.declared.step_log.LoggedStep.{LoggedStep}

abbrev calls : MemoryDisk → ℕ
calls d = d.calls

abbrev log : MemoryDisk → List LoggedStep
log d = d.log.items

abbrev images : MemoryDisk → ℕ → Files → Type 0
images d = images_of d.calls d.log.items

pub quiet : (old new : MemoryDisk) (S : Files → Files → Type 0) → ((c : Files) → S c c) → old.calls ≤ new.calls → new.log.items ≡ old.log.items → LeavesOnly calls images old new (After calls images old S)
quiet = quiet_leaves calls log (λ d. d.done)

module _ (old new : MemoryDisk) (s : Step) (later : old.calls ≤ new.calls) (count : new.calls ≡ min (old.calls + 1) (2 ^ 64 - 1)) (is : new.log.items ≡ old.log.items ++ record { at = new.calls; step = s } ∷ []) where
  pub content_is : played empty new.log.items ≡ done (played empty old.log.items) s
  content_is = ap (played empty) is ∙ played_push old.log.items empty (record { at = new.calls; step = s })

  pub put_leaves : (name bytes : List ℕ) → IsPut s name bytes → LeavesOnly calls images old new (After calls images old (SameBut name))
  put_leaves name bytes put = logged_leaves calls log (λ d. d.done) old new (record { at = new.calls; step = s }) (SameBut name) (λ c q ne. refl) later count is refl (λ c x. put_stepped s name bytes _ _ c put x)

  pub rename_leaves : (from to : List ℕ) → IsRename s from to → LeavesOnly calls images old new (After calls images old (MayMove from to))
  rename_leaves from to ren = logged_leaves calls log (λ d. d.done) old new (record { at = new.calls; step = s }) (MayMove from to) (λ c. inl refl) later count is refl (λ c x. rename_stepped s from to _ _ c ren x)

  pub remove_leaves : (name : List ℕ) → IsRemove s name → LeavesOnly calls images old new (After calls images old (MayGo name))
  remove_leaves name rem = logged_leaves calls log (λ d. d.done) old new (record { at = new.calls; step = s }) (MayGo name) (λ c. inl refl) later count is refl (λ c x. remove_stepped s name _ _ c rem x)

  sync_stepped : (c : Files) (P : Files → Type 0) → s ≡ Sync → P (played empty old.log.items) → stepped s (played empty old.log.items) P c → (b : Files) × P b × (c ≡ b)
  sync_stepped c P sync p x = (played empty old.log.items, p, subst (λ y. stepped y (played empty old.log.items) P c) sync x)

  pub sync_leaves : s ≡ Sync → LeavesOnly calls images old new (After calls images old (λ b c. c ≡ b))
  sync_leaves sync = logged_leaves calls log (λ d. d.done) old new (record { at = new.calls; step = s }) (λ b c. c ≡ b) (λ c. refl) later count is refl
      (λ c x. sync_stepped c _ sync (leaves_played old.log.items empty (λ b. b ≡ empty) refl) x)

  pub sync_durable : s ≡ Sync → Now calls images new (λ c. c ≡ played empty new.log.items)
  sync_durable sync = synced calls log (λ d. d.done) old new (record { at = new.calls; step = s }) sync is
