use Rattle.std.proofs.Common.{◌≡◌, refl, ◌∙◌, ap}
use Rattle.disk_trait.specs.declared.step_log.Step.TheVariants.{Sync}
use Rattle.disk_trait.specs.Replay.{done}
use Rattle.disk_trait.proofs.Kept.{quiet, sync_leaves, sync_durable, content_is}
use Rattle.disk_trait.proofs.memory.MemoryDiskDisk.sync.Goals as goal

pub returns-in_err-record_or_fail-clause-crash : goal.returns-in_err-record_or_fail-clause-crash
returns-in_err-record_or_fail-clause-crash c = quiet c.args.self.now c.record_or_fail.new.self _ (λ x. refl) c.record_or_fail.ensures.later c.in_err-record_or_fail.ensures.err

pub returns-clause-crash : goal.returns-clause-crash
returns-clause-crash c =
    let ok = c.in_ok-record_or_fail.ensures.ok in
    let is : ok.0 ≡ Sync = (cc ok.1) in
    sync_leaves c.args.self.now c.record_or_fail.new.self ok.0 c.record_or_fail.ensures.later c.record_or_fail.ensures.calls ok.2 is

pub returns-clause-durable : goal.returns-clause-durable
returns-clause-durable c =
    let ok = c.in_ok-record_or_fail.ensures.ok in
    let is : ok.0 ≡ Sync = (cc ok.1) in
    sync_durable c.args.self.now c.record_or_fail.new.self ok.0 c.record_or_fail.ensures.later c.record_or_fail.ensures.calls ok.2 is

pub returns-clause-same : goal.returns-clause-same
returns-clause-same c =
    let ok = c.in_ok-record_or_fail.ensures.ok in
    let is : ok.0 ≡ Sync = (cc ok.1) in
    λ h. content_is c.args.self.now c.record_or_fail.new.self ok.0 c.record_or_fail.ensures.later c.record_or_fail.ensures.calls ok.2 ∙ ap (done _) is
