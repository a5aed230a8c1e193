use Rattle.std.proofs.Common.{◌-◌, ◌∙◌, arith, rules, take}
use Rattle.std.specs.FinMap.{empty}
use Rattle.disk_trait.specs.Replay.{played}
use Rattle.disk_trait.specs.Replayed.{played_before, get_nothing}
use Rattle.disk_trait.proofs.step_log.find.Goals as goal

pub returns-in-Bytes : goal.returns-in-Bytes
returns-in-Bytes c = c.loop-left.invariant.2 ∙ played_before c.args.log.now c.loop-left.left _ c.index-log-left.result c.loop-left-test.true c.loop-left.invariant.1 ∙ c.in-Bytes.ensures (played empty (take (c.loop-left.left - 1) c.args.log.now))

pub returns-in-Nothing : goal.returns-in-Nothing
returns-in-Nothing c = c.loop-left.invariant.2 ∙ played_before c.args.log.now c.loop-left.left _ c.index-log-left.result c.loop-left-test.true c.loop-left.invariant.1 ∙ c.in-Nothing.ensures (played empty (take (c.loop-left.left - 1) c.args.log.now))

pub loop-left-preserved : goal.loop-left-preserved
loop-left-preserved c = (
  search rules,
  omega arith,
  c.loop-left.invariant.2 ∙ played_before c.args.log.now c.loop-left.left _ c.index-log-left.result c.loop-left-test.true c.loop-left.invariant.1 ∙ c.in-Name.ensures (played empty (take (c.loop-left.left - 1) c.args.log.now)),
)

pub returns : goal.returns
returns c = c.loop-left.invariant.2 ∙ get_nothing c.args.log.now c.loop-left.left _ c.loop-left-test.false
