use Rattle.wire_commands.proofs.ManyLaws.{rows_no_header, rows_no_head, rows_all}
use Rattle.wire_commands.proofs.many.put_rows.Goals as goal

pub returns-in_err-write_counted-clause-bytes : goal.returns-in_err-write_counted-clause-bytes
returns-in_err-write_counted-clause-bytes g c =
    rows_no_header _ _ _ _ c.to_le_bytes.result c.as_slice-head.result.now c.args.head.now _ c.size_of_all.result c.from_residual.result c.as_slice-head.ensures.value
    c.size_of_all.ensures c.to_le_bytes.ensures c.from_residual.ensures.0 c.in_err-write_counted.ensures.bytes

pub returns-in_err-write_counted-2-clause-bytes : goal.returns-in_err-write_counted-2-clause-bytes
returns-in_err-write_counted-2-clause-bytes g c =
    rows_no_head _ _ _ _ _ _ c.to_le_bytes.result c.as_slice-head.result.now c.args.head.now _ c.size_of_all.result c.from_residual-in_err-write_counted-2.result
    c.as_slice-head.ensures.value c.size_of_all.ensures c.to_le_bytes.ensures c.from_residual-in_err-write_counted-2.ensures.0 c.in_ok-write_counted.ensures.bytes
    c.in_err-write_counted-2.ensures.bytes

pub returns-clause-bytes : goal.returns-clause-bytes
returns-clause-bytes g c =
    rows_all _ _ _ _ _ _ _ _ c.to_le_bytes.result c.as_slice-head.result.now c.args.head.now _ c.size_of_all.result _ c.as_slice-head.ensures.value
    c.size_of_all.ensures c.to_le_bytes.ensures c.in_ok-write_counted.ensures.bytes c.in_ok-write_counted-2.ensures.bytes c.write_values.ensures.bytes
