use Rattle.std.proofs.Common.{◌<◌, length, ap, ◌∙◌, arith}
use Rattle.std.proofs.lemmas.List.{take_all}
use Rattle.store_model.specs.VerifyJob.{dynamic_pieces}
use Rattle.plain_lanes.proofs.JudgingLemmas.{dynamic_more}
use Rattle.plain_lanes.proofs.judging.dynamic_pieces.Goals as goal

pub loop-i-preserved : goal.loop-i-preserved
loop-i-preserved c =
    let x = c.args.view.now in
    let lt : c.loop-i.i < length x.entries = omega (arith, c.len-i-end.ensures) in
    dynamic_more x c.loop-i.i lt c.loop-i.pieces.items _ _ c.in_ok-push.ensures.items c.digest.ensures (omega (arith, c.span-start.ensures.start, c.span-start.ensures.end)) c.loop-i.invariant

pub returns : goal.returns
returns c =
    let x = c.args.view.now in
    c.loop-i.invariant ∙ ap (dynamic_pieces 0) (take_all c.loop-i.i x.entries (omega (arith, c.len-i-end.ensures)))
