use Rattle.std.proofs.Common.{◌≡◌, inl, refl, sym, ◌∙◌, ap, subst, IfOk, None}
use Rattle.std.specs.FinMap.{empty, get}
use Rattle.disk_trait.specs.Replay.{played, IsRemove}
use Rattle.disk_trait.specs.Steps.{remove_done}
use Rattle.disk_trait.specs.Laws.{remove_absent}
use Rattle.disk_trait.proofs.Kept.{quiet, remove_leaves, content_is}
use Rattle.disk_trait.proofs.memory.MemoryDiskDisk.remove.Goals as goal

pub returns-in-None-clause-crash : goal.returns-in-None-clause-crash
returns-in-None-clause-crash c = quiet c.args.self.now c.tick.new.self _ (λ x. inl refl) c.tick.ensures.later c.tick.ensures.log

pub returns-in-None-clause-unchanged : goal.returns-in-None-clause-unchanged
returns-in-None-clause-unchanged c = λ no. (λ h. ap (played empty) c.tick.ensures.log, quiet c.args.self.now c.tick.new.self _ (λ x. refl) c.tick.ensures.later c.tick.ensures.log, c.tick.ensures.faults)

pub returns-in-None-clause-removed : goal.returns-in-None-clause-removed
returns-in-None-clause-removed c = λ h.
    ap (played empty) c.tick.ensures.log
    ∙ sym (remove_absent _ c.args.name.now (subst (λ l. get (played empty l) c.args.name.now ≡ None) c.deref.ensures.value c.in-None.ensures))

pub returns-in_err-record_or_fail-clause-crash : goal.returns-in_err-record_or_fail-clause-crash
returns-in_err-record_or_fail-clause-crash c = quiet c.args.self.now c.record_or_fail.new.self _ (λ x. inl refl) c.record_or_fail.ensures.later c.in_err-record_or_fail.ensures.err

pub returns-clause-crash : goal.returns-clause-crash
returns-clause-crash c =
    let ok = c.in_ok-record_or_fail.ensures.ok in
    remove_leaves c.args.self.now c.record_or_fail.new.self ok.0 c.record_or_fail.ensures.later c.record_or_fail.ensures.calls ok.2 c.args.name.now
    (subst (λ r. IfOk r (λ s. IsRemove s c.args.name.now)) ok.1 c.remove_step.ensures)

pub returns-clause-removed : goal.returns-clause-removed
returns-clause-removed c =
    let ok = c.in_ok-record_or_fail.ensures.ok in
    λ h. content_is c.args.self.now c.record_or_fail.new.self ok.0 c.record_or_fail.ensures.later c.record_or_fail.ensures.calls ok.2
    ∙ remove_done ok.0 c.args.name.now _ (subst (λ r. IfOk r (λ s. IsRemove s c.args.name.now)) ok.1 c.remove_step.ensures)
