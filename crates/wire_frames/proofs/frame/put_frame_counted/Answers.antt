use Rattle.wire_frames.proofs.WritingLemmas.{put-no_header, put-no_head, put-all}
use Rattle.wire_frames.proofs.frame.put_frame_counted.Goals as goal

pub returns-in_err-write_counted-clause-bytes : goal.returns-in_err-write_counted-clause-bytes
returns-in_err-write_counted-clause-bytes g c =
    put-no_header _ _ _ _ c.to_le_bytes.result c.args.head.now c.args.rest.now c.from_residual.result c.to_le_bytes.ensures c.from_residual.ensures.0 c.in_err-write_counted.ensures.bytes

pub returns-in_err-write_counted-2-clause-bytes : goal.returns-in_err-write_counted-2-clause-bytes
returns-in_err-write_counted-2-clause-bytes g c =
    put-no_head _ _ _ _ _ _ c.to_le_bytes.result c.args.head.now c.args.rest.now c.from_residual-in_err-write_counted-2.result c.to_le_bytes.ensures c.from_residual-in_err-write_counted-2.ensures.0 c.in_ok-write_counted.ensures.bytes c.in_err-write_counted-2.ensures.bytes

pub returns-clause-bytes : goal.returns-clause-bytes
returns-clause-bytes g c =
    put-all _ _ _ _ _ _ _ _ c.to_le_bytes.result c.args.head.now c.args.rest.now _ c.to_le_bytes.ensures c.in_ok-write_counted.ensures.bytes c.in_ok-write_counted-2.ensures.bytes c.write_counted-3.ensures.bytes
