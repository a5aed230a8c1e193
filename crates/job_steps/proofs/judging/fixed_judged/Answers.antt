use Rattle.std.proofs.Common.{length, ap, ◌∙◌, arith}
use Rattle.store_model.proofs.VerifyLemmas.{fixed_read}
use Rattle.job_steps.proofs.JudgingLemmas.{fixed_small, has_pieces, length-fixed_pieces}
use Rattle.job_steps.proofs.judging.fixed_judged.Goals as goal

pub fixed_entries-requires : goal.fixed_entries-requires
fixed_entries-requires c = has_pieces c.args.bytes.now c.in-Ok.view c.in-Ok.ensures.exact

pub returns : goal.returns
returns c =
    fixed_read c.args.row.now c.args.bytes.now c.compared.result c.size-total.result c.csum.result.0 c.in_ok-entries.entries.items c.compared.ensures.fault
    c.in-Ok.view c.in-Ok.ensures.exact c.size-total.ensures c.csum.ensures c.in_ok-entries.ensures

pub invariant_of-result : goal.invariant_of-result
invariant_of-result c =
    let x = c.in-Ok.view in
    let fits = has_pieces c.args.bytes.now x c.in-Ok.ensures.exact in
    let count = ap length c.in_ok-entries.ensures ∙ length-fixed_pieces x.size x.chunk_size 0 x.digests in
    record {
      count = omega (arith, count, fits.limit, c.in_ok-entries.entries.ok.0);
      size = omega (arith, c.size-total.ensures, fixed_small x fits);
      fits = c.compared.ensures.fits;
    }
