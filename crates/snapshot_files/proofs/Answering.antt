-- What a call leaves of the files that opening takes away.
use Rattle.std.proofs.Common.{◌≡◌, ◌-◌, ◌^◌, ◌<◌, ◌≤◌, ℕ, List, inl, inr, sym, subst}
use Rattle.std.specs.BTreeSet.{BTreeSet}
use Rattle.std.specs.Prelude.{String}
use Rattle.std.specs.declared.alloc.Global.{Global}
use Rattle.disk_trait.specs.Files.{Files}
use Rattle.disk_trait.specs.Disk.{Same, MayGo}
use Rattle.disk_trait.specs.Effects.{LeavesSame, StepsOn}
use Rattle.disk_trait.specs.Runs.{leaves_as, same_after, step_after}
use Rattle.disk_trait.specs.declared.disk.Disk.{Ghosts}
use Rattle.snapshot_files.proofs.Placing.{none_is}
use Rattle.snapshot_files.specs.Leaving.{IsLeaving, MayClean}
use Rattle.snapshot_files.specs.Removed.{HasManifests, MayLeave, StepsClean}
use Rattle.snapshot_files.proofs.Leavers.{cleans_none, cleans_one, cleans_more}

module _ {D : Type 0} (d : Ghosts D) (told : (x : D) (t : ℕ) (c : Files) → d.images x t c → d.honest x × (t ≤ d.calls x) × (t < 2 ^ 64 - 1)) (manifests : BTreeSet (String Global)) where
  -- no call
  pub leaves_none : (disk : D) → StepsOn d disk disk (MayLeave manifests)
  leaves_none disk = leaves_as (none_is d.calls d.images d.honest told disk) (λ c x. (x.0, x.1, λ read has. cleans_none read x.0 c x.2))

  -- one removal, of a file that leaves
  pub leaves_one : (old new : D) (name : List ℕ) → ((read : Files) → HasManifests manifests read → IsLeaving read name) → StepsOn d old new (MayGo name) → StepsOn d old new (MayLeave manifests)
  leaves_one old new name leaving steps = leaves_as steps (λ c x. (x.0, x.1, λ read has. cleans_one read x.0 c name (leaving read has) x.2))

  -- one behind another
  pub leaves_more : (a b c : D) → StepsOn d a b (MayLeave manifests) → StepsOn d b c (MayLeave manifests) → StepsOn d a c (MayLeave manifests)
  leaves_more a b c one two = step_after (MayLeave manifests) one two (λ f x s. s) (λ f x y s t read has. cleans_more read f x y (s read has) (t read has))

  -- by the manifests that are there
  pub leaves_by : (old new : D) → (d.honest old → HasManifests manifests (d.content old)) → StepsOn d old new (MayLeave manifests) → StepsClean d old new
  leaves_by old new has steps = leaves_as steps (λ c x. (x.0, x.1, λ h. x.2 (d.content old) (has h)))

-- a call that changes nothing, alone, and before and behind others
pub clean_same : {D : Type 0} (d : Ghosts D) (old new : D) → StepsOn d old new Same → StepsClean d old new
clean_same d old new steps = leaves_as steps (λ c x. (x.0, x.1, λ h. cleans_none (d.content old) x.0 c x.2))

pub same_clean : {D : Type 0} (d : Ghosts D) (old mid new : D) → (d.honest old → d.honest mid) → (d.honest old → d.content mid ≡ d.content old)
    → StepsOn d old mid Same → StepsClean d mid new → StepsClean d old new
same_clean d old mid new kept same one two =
    step_after (λ b c. d.honest old → MayClean (d.content old) b c) one two
    (λ b c e h. cleans_none (d.content old) b c e)
    (λ b x c e may h. subst (λ (m : Files). MayClean (d.content old) m c) e (subst (λ (m : Files). MayClean m x c) (same h) (may (kept h))))

pub clean_then : {D : Type 0} (d : Ghosts D) (old mid new : D) → StepsClean d old mid → LeavesSame d mid new → StepsClean d old new
clean_then d old mid new one (inl e) = subst (StepsClean d old) (sym e) one
clean_then d old mid new one (inr reads) = same_after one reads
