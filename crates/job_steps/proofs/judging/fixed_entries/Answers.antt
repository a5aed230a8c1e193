use Rattle.std.proofs.Common.{◌<◌, length, ap, ◌∙◌, arith}
use Rattle.std.proofs.lemmas.List.{take_all}
use Rattle.store_model.specs.VerifyJob.{fixed_pieces}
use Rattle.job_steps.proofs.JudgingLemmas.{fixed_more, piece_in}
use Rattle.job_steps.proofs.judging.fixed_entries.Goals as goal

pub overflow_sub-end : goal.overflow_sub-end
overflow_sub-end c =
    let x = c.args.view.now in
    let lt : c.loop-i.i < length x.digests = omega (arith, c.len-i-end.ensures) in
    omega (arith, piece_in x c.loop-i.i c.requires lt, c.span-start.ensures.start, c.span-start.ensures.end)

pub overflow_cast-end : goal.overflow_cast-end
overflow_cast-end c =
    let x = c.args.view.now in
    let lt : c.loop-i.i < length x.digests = omega (arith, c.len-i-end.ensures) in
    omega (arith, piece_in x c.loop-i.i c.requires lt, c.span-start.ensures.start, c.span-start.ensures.end)

pub loop-i-preserved : goal.loop-i-preserved
loop-i-preserved c =
    let x = c.args.view.now in
    let lt : c.loop-i.i < length x.digests = omega (arith, c.len-i-end.ensures) in
    record {
      pushed = fixed_more c.loop-i.entries.items _ _ x c.loop-i.i lt c.push_reserved.ensures.items c.digest.ensures
          (omega (arith, c.span-start.ensures.start, c.span-start.ensures.end)) c.loop-i.invariant.pushed;
      long = omega arith;
      room = omega arith;
    }

pub returns : goal.returns
returns c =
    let x = c.args.view.now in
    c.loop-i.invariant.pushed ∙ ap (fixed_pieces x.size x.chunk_size 0) (take_all c.loop-i.i x.digests (omega (arith, c.len-i-end.ensures)))
