use Rattle.std.proofs.Common.{◌≡◌, ◌<◌, ◌≤◌, ℕ, false, length, get_or}
use Rattle.disk_trait.specs.CrashImage.{is_sync}
use Rattle.disk_trait.specs.declared.step_log.LoggedStep.{LoggedStep}
use Rattle.disk_trait.proofs.crashes.synced_count.Given as goal

abbrev pub invariant-loop-count : goal.invariant-loop-count
invariant-loop-count l = record {
  within : l.count ≤ length l.log;
  since : (k : ℕ) (d : LoggedStep) → l.count ≤ k → k < length l.log → is_sync (get_or l.log k d) ≡ false;
}

abbrev pub decreases-loop-count : goal.decreases-loop-count
decreases-loop-count l = l.count
