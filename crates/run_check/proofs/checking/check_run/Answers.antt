use Rattle.std.proofs.Common.{ap, sym, ◌∙◌}
use Rattle.store_model.specs.Load.{load}
use Rattle.store_model.specs.Store.{Store}
use Rattle.run_check.specs.Checks.{loaded}
use Rattle.run_check.proofs.Ended.{begun_of, has_compared, shown_by, told_checks}
use Rattle.run_check.proofs.checking.check_run.Goals as goal

pub returns-clause-checks : goal.returns-clause-checks
returns-clause-checks g c =
    let comparison = c.in_ok-comparison.comparison in
    told_checks g.D.Disk g.E.Disk g.S.Source c.args.disk.now c.args.remote.now c.args.ports.now c.compare_outs.new.ports c.in_ok-unequal.unequal c.told.result
    c.told.ensures.compared c.told.ensures.line c.told.ensures.why
    (λ told same line_is. has_compared g.D.Disk g.E.Disk g.S.Source c.args.ports.now c.read_order.new.ports c.read_inputs.new.ports c.compare_outs.new.ports
    c.in_ok-order.order.items c.in_ok-inputs.inputs.items comparison c.in_ok-unequal.unequal c.in_ok-order.ensures.keeps c.in_ok-order.ensures.order c.in_ok-inputs.ensures.inputs
    c.in_ok-unequal.ensures.outs c.args.disk.now c.args.remote.now told same line_is
    (λ honest. sym (c.in_ok-store.ensures.damaged honest) ∙ c.if-is_damaged.false)
    (λ honest beside. begun_of _ (load (g.D.Disk.content c.args.disk.now)) _ (loaded g.E.Disk c.args.remote.now) _ c.in_ok-order.order.items _ c.in_ok-inputs.inputs.items comparison
    (ap (λ (s : Store). s.snapshots) (c.in_ok-store.ensures.store honest))
    (shown_by (λ (s : Store). s.snapshots) c.as_ref.result c.in_ok-remote.remote c.as_ref.ensures.value ∙ c.in_ok-remote.ensures.store beside)
    c.as_slice-order.ensures.value c.as_slice-inputs.ensures.value c.in_ok-comparison.ensures))
