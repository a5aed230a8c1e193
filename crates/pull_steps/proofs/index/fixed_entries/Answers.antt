use Rattle.std.proofs.Common.{◌<◌, sym, length, ◌∙◌, arith}
use Rattle.pull_steps.proofs.Entered.{fixed_done, fixed_more, fixed_none}
use Rattle.pull_steps.proofs.index.fixed_entries.Goals as goal

pub loop-i-preserved : goal.loop-i-preserved
loop-i-preserved c =
    let x = c.args.view.now in
    let lt : c.loop-i.i < length x.digests = omega (arith, c.len-i-end.ensures) in
    record {
      made = fixed_more x c.loop-i.i c.loop-i.entries.items _ _ lt c.push_reserved.ensures.items c.digest.ensures c.span.ensures.start ∙ c.loop-i.invariant.made;
      long = omega arith;
      room = omega arith;
    }

pub returns : goal.returns
returns c =
    let x = c.args.view.now in
    sym (fixed_done x c.loop-i.i c.loop-i.entries.items (omega (arith, c.len-i-end.ensures))) ∙ c.loop-i.invariant.made ∙ fixed_none x 0
