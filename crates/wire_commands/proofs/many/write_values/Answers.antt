use Rattle.std.proofs.Common.{◌∙◌, arith}
use Rattle.wire_commands.proofs.ManyLaws.{nothing_written, written_more, written_front}
use Rattle.wire_commands.proofs.many.write_values.Goals as goal

pub loop-row-init : goal.loop-row-init
loop-row-init g c = record { bytes = nothing_written _ _ (omega arith); later = omega arith }

pub returns-in_err-write_counted-clause-bytes : goal.returns-in_err-write_counted-clause-bytes
returns-in_err-write_counted-clause-bytes g c =
    written_front g.R.Row.spelled c.args.rows.now c.loop-row.row-index c.row-item.result _ _ _ _ _ _ c.as_slice.result.now c.from_residual.result
    c.loop-row-test.true c.row-item.is (c.as_slice.ensures.value ∙ c.head-head.ensures) c.from_residual.ensures.0 c.loop-row.invariant.bytes c.in_err-write_counted.ensures.bytes

pub loop-row-preserved : goal.loop-row-preserved
loop-row-preserved g c = record {
  bytes = written_more g.R.Row.spelled c.args.rows.now c.loop-row.row-index c.row-item.result _ _ _ _ _ _ c.as_slice.result.now
      c.loop-row-test.true c.row-item.is (c.as_slice.ensures.value ∙ c.head-head.ensures) c.loop-row.invariant.bytes c.in_ok-write_counted.ensures.bytes;
  later = omega arith;
}
