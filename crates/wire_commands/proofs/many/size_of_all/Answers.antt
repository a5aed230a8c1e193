use Rattle.std.proofs.Common.{ap, ◌∙◌, length, arith}
use Rattle.wire_commands.proofs.ManyLaws.{sum_within, sum_is}
use Rattle.wire_commands.proofs.many.size_of_all.Goals as goal

pub overflow_add-size : goal.overflow_add-size
overflow_add-size g c =
    omega (
      arith,
      c.loop-row.invariant,
      c.requires.within,
      ap length (c.as_slice.ensures.value ∙ c.head-head.ensures),
      sum_within g.R.Row.spelled c.args.rows.now c.loop-row.row-index c.row-item.result c.loop-row-test.true c.row-item.is,
    )

pub loop-row-preserved : goal.loop-row-preserved
loop-row-preserved g c =
    omega (
      arith,
      c.loop-row.invariant,
      ap length (c.as_slice.ensures.value ∙ c.head-head.ensures),
      sum_is g.R.Row.spelled c.args.rows.now c.loop-row.row-index c.row-item.result c.loop-row-test.true c.row-item.is,
    )
