use Rattle.std.proofs.Common.{inl, refl, ◌∙◌, ap, subst, IfOk}
use Rattle.std.specs.FinMap.{empty}
use Rattle.disk_trait.specs.Replay.{played, IsRename}
use Rattle.disk_trait.specs.Steps.{rename_done}
use Rattle.disk_trait.proofs.Kept.{quiet, rename_leaves, content_is}
use Rattle.disk_trait.proofs.memory.MemoryDiskDisk.rename.Goals as goal

pub returns-in-None-clause-crash : goal.returns-in-None-clause-crash
returns-in-None-clause-crash c = quiet c.args.self.now c.tick.new.self _ (λ x. inl refl) c.tick.ensures.later c.tick.ensures.log

pub returns-in-None-clause-unchanged : goal.returns-in-None-clause-unchanged
returns-in-None-clause-unchanged c = λ no. (λ h. ap (played empty) c.tick.ensures.log, quiet c.args.self.now c.tick.new.self _ (λ x. refl) c.tick.ensures.later c.tick.ensures.log, c.tick.ensures.faults)

pub returns-in_err-record_or_fail-clause-crash : goal.returns-in_err-record_or_fail-clause-crash
returns-in_err-record_or_fail-clause-crash c = quiet c.args.self.now c.record_or_fail.new.self _ (λ x. inl refl) c.record_or_fail.ensures.later c.in_err-record_or_fail.ensures.err

pub returns-clause-crash : goal.returns-clause-crash
returns-clause-crash c =
    let ok = c.in_ok-record_or_fail.ensures.ok in
    rename_leaves c.args.self.now c.record_or_fail.new.self ok.0 c.record_or_fail.ensures.later c.record_or_fail.ensures.calls ok.2 c.args.from.now c.args.to.now
    (subst (λ r. IfOk r (λ s. IsRename s c.args.from.now c.args.to.now)) ok.1 c.rename_step.ensures)

pub returns-clause-renamed : goal.returns-clause-renamed
returns-clause-renamed c =
    let ok = c.in_ok-record_or_fail.ensures.ok in
    λ h t. content_is c.args.self.now c.record_or_fail.new.self ok.0 c.record_or_fail.ensures.later c.record_or_fail.ensures.calls ok.2
    ∙ rename_done ok.0 c.args.from.now c.args.to.now _ (subst (λ r. IfOk r (λ s. IsRename s c.args.from.now c.args.to.now)) ok.1 c.rename_step.ensures)
