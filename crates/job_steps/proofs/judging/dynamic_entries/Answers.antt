use Rattle.std.proofs.Common.{◌<◌, length, ap, ◌∙◌, arith}
use Rattle.std.proofs.lemmas.List.{take_all}
use Rattle.store_model.specs.VerifyJob.{dynamic_pieces}
use Rattle.job_steps.proofs.JudgingLemmas.{dynamic_more}
use Rattle.job_steps.proofs.judging.dynamic_entries.Goals as goal

pub loop-i-preserved : goal.loop-i-preserved
loop-i-preserved c =
    let x = c.args.view.now in
    let lt : c.loop-i.i < length x.entries = omega (arith, c.len-i-end.ensures) in
    record {
      pushed = dynamic_more c.loop-i.entries.items _ _ x c.loop-i.i lt c.push_reserved.ensures.items c.digest.ensures
          (omega (arith, c.span-start.ensures.start, c.span-start.ensures.end)) c.loop-i.invariant.pushed;
      long = omega arith;
      room = omega arith;
    }

pub returns : goal.returns
returns c =
    let x = c.args.view.now in
    c.loop-i.invariant.pushed ∙ ap (dynamic_pieces 0) (take_all c.loop-i.i x.entries (omega (arith, c.len-i-end.ensures)))
