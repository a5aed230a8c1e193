-- What a sync and the removals behind it leave of a crash.
use Rattle.std.proofs.Common.{◌≡◌, ◌↔◌, ◌<◌, ◌≤◌, ◌-◌, ◌^◌, inl, inr, ℕ, sym, subst, arith}
use Rattle.disk_trait.specs.Files.{Files}
use Rattle.disk_trait.specs.Disk.{After, Same, TicksOnce}
use Rattle.disk_trait.specs.Effects.{StepsOn, IsDurable}
use Rattle.disk_trait.specs.Runs.{leaves_as, both_leave}
use Rattle.disk_trait.specs.declared.disk.Disk.{Ghosts}
use Rattle.snapshot_files.specs.Leaving.{MayClean}
use Rattle.snapshot_files.specs.Opened.{LeavesOne, Opens}
use Rattle.snapshot_files.specs.Removed.{StepsClean}

module _ {D : Type 0} (d : Ghosts D) (told : (x : D) (t : ℕ) (c : Files) → d.images x t c → d.honest x × (t ≤ d.calls x) × (t < 2 ^ 64 - 1)) where
  module _ (old synced new : D) (kept : d.honest old ↔ d.honest synced) (same : d.honest old → d.content synced ≡ d.content old)
      (tick : TicksOnce d.honest d.calls old synced) (sync : StepsOn d old synced Same) (durable : IsDurable d synced) (removals : StepsClean d synced new) where
    abbrev Removed : Files → Type 0
    Removed c = After d.calls d.images synced (λ b c. d.honest synced → MayClean (d.content synced) b c) c

    cleaned : (c : Files) → Removed c → MayClean (d.content old) (d.content old) c
    cleaned c x =
        let honest : d.honest synced = (told synced (d.calls synced) x.0 x.1).0 in
        subst (λ (m : Files). MayClean m m c) (same (kept.1 honest))
        (subst (λ (b : Files). MayClean (d.content synced) b c) (durable x.0 x.1) (x.2 honest))

    before : (c : Files) → After d.calls d.images old Same c → LeavesOne d old c
    before c x = inl (subst (d.images old (d.calls old)) (sym x.2) x.1)

    pub opens : Opens d old new
    opens = record {
      all = both_leave (leaves_as sync before) removals (λ c x. inr (cleaned c x));
      start = d.calls synced;
      started = (sync.later, removals.later);
      first = λ honest. let once = tick honest in omega (arith, once);
      until = λ t c from lt i. let x = sync.each t c from (removals.past t c (omega (arith, lt)) i) in subst (d.images old (d.calls old)) (sym x.2) x.1;
      since = λ t c since i. cleaned c (removals.each t c since i);
    }
