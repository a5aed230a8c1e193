use Rattle.std.proofs.Common.{length, ap, ◌∙◌, arith}
use Rattle.store_model.proofs.VerifyLemmas.{dynamic_read}
use Rattle.job_steps.proofs.JudgingLemmas.{dynamic_small, last_same, length-dynamic_pieces}
use Rattle.job_steps.proofs.judging.dynamic_judged.Goals as goal

pub returns : goal.returns
returns c =
    dynamic_read c.args.row.now c.args.bytes.now c.compared.result c.size-total.result c.csum.result.0 c.in_ok-entries.entries.items c.compared.ensures.fault
    c.in-Ok.view c.in-Ok.ensures.exact (c.size-total.ensures ∙ last_same c.in-Ok.view.entries) c.csum.ensures c.in_ok-entries.ensures

pub invariant_of-result : goal.invariant_of-result
invariant_of-result c =
    let x = c.in-Ok.view in
    let small = dynamic_small c.args.bytes.now x c.in-Ok.ensures.exact in
    let count = ap length c.in_ok-entries.ensures ∙ length-dynamic_pieces 0 x.entries in
    record {
      count = omega (arith, count, small.0, c.in_ok-entries.entries.ok.0);
      size = omega (arith, c.size-total.ensures, small.1);
      fits = c.compared.ensures.fits;
    }
