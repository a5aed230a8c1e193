use Rattle.std.proofs.Common.{refl, ◌∙◌, subst, rules, IfOk}
use Rattle.disk_trait.specs.Replay.{IsPut}
use Rattle.disk_trait.specs.Steps.{put_done}
use Rattle.disk_trait.proofs.Kept.{quiet, put_leaves, content_is}
use Rattle.disk_trait.proofs.memory.MemoryDiskDisk.put.Goals as goal

pub returns-in_err-record-clause-crash : goal.returns-in_err-record-clause-crash
returns-in_err-record-clause-crash c = quiet c.args.self.now c.record.new.self _ (λ x q ne. refl) c.record.ensures.later c.in_err-record.ensures.err

pub returns-in_err-record-clause-unchanged : goal.returns-in_err-record-clause-unchanged
returns-in_err-record-clause-unchanged c = λ no. (λ h. search rules, quiet c.args.self.now c.record.new.self _ (λ x. refl) c.record.ensures.later c.in_err-record.ensures.err, c.record.ensures.faults)

pub returns-clause-crash : goal.returns-clause-crash
returns-clause-crash c =
    let ok = c.in_ok-record.ensures.ok in
    put_leaves c.args.self.now c.record.new.self ok.0 c.record.ensures.later c.record.ensures.calls ok.2 c.args.name.now c.args.bytes.now
    (subst (λ r. IfOk r (λ s. IsPut s c.args.name.now c.args.bytes.now)) ok.1 c.put_step.ensures)

pub returns-clause-put : goal.returns-clause-put
returns-clause-put c =
    let ok = c.in_ok-record.ensures.ok in
    λ h. content_is c.args.self.now c.record.new.self ok.0 c.record.ensures.later c.record.ensures.calls ok.2
    ∙ put_done ok.0 c.args.name.now c.args.bytes.now _ (subst (λ r. IfOk r (λ s. IsPut s c.args.name.now c.args.bytes.now)) ok.1 c.put_step.ensures)
