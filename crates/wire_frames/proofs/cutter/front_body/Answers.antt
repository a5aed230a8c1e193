use Rattle.std.proofs.Common.{arith}
use Rattle.wire_frames.proofs.FramesLemmas.{cut-few, cut-is_too_long, cut-is_short, cut-is_whole}
use Rattle.wire_frames.proofs.cutter.front_body.Goals as goal

pub returns-in_default : goal.returns-in_default
returns-in_default c = cut-few _ c.in_default.ensures.cases

pub returns-then-length-gt-BODY_LIMIT : goal.returns-then-length-gt-BODY_LIMIT
returns-then-length-gt-BODY_LIMIT c =
    let parts = c.in-Some.ensures.cases in
    cut-is_too_long _ c.in-Some.header.now _ (omega (arith, parts.2)) parts.0 c.from_le_bytes-length.ensures c.if-length-gt-BODY_LIMIT.true

pub returns-then-rest-length : goal.returns-then-rest-length
returns-then-rest-length c =
    let parts = c.in-Some.ensures.cases in
    cut-is_short _ c.in-Some.header.now c.in-Some.rest.now _ (omega (arith, parts.2)) parts.0 parts.1 c.from_le_bytes-length.ensures c.if-length-gt-BODY_LIMIT.false c.if-rest-length.true

pub returns : goal.returns
returns c =
    let parts = c.in-Some.ensures.cases in
    (_, cut-is_whole _ c.in-Some.header.now c.in-Some.rest.now _ (omega (arith, parts.2)) parts.0 parts.1 c.from_le_bytes-length.ensures c.if-length-gt-BODY_LIMIT.false c.if-rest-length.false)
