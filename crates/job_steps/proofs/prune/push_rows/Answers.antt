use Rattle.std.proofs.Common.{◌++◌, map, sym, ap, ◌∙◌}
use Rattle.std.proofs.lemmas.Iterator.{YieldsList-from_slice, YieldsList-from_zip}
use Rattle.std.proofs.lemmas.Iterator.Adapters.{YieldsList-from_vec}
use Rattle.std.proofs.lemmas.Iterator.Consumers.{YieldsList-end}
use Rattle.std.proofs.lemmas.Simd.{map-map}
use Rattle.job_steps.specs.Rows.{row_of}
use Rattle.job_steps.proofs.prune.push_rows.Goals as goal

pub returns : goal.returns
returns c =
    let road = YieldsList-from_zip (YieldsList-from_vec c.args.snapshots.items (cc) (cc)) (YieldsList-from_slice c.args.marks.now (cc)) in
    let all = YieldsList-end road c.loop-snapshot.yielded _ c.loop-snapshot.yielded_by _ c.next.new.self c.in-None.is c.next.ensures.steps in
    c.loop-snapshot.invariant.pushed
    ∙ ap (λ xs. c.args.rows.now.items ++ xs) (sym (map-map row_of (λ p. (p.0, p.1.now)) c.loop-snapshot.yielded) ∙ ap (map row_of) all.0)
