use Rattle.std.proofs.Common.{◌++◌, ◌≤◌, ◌<◌, length, take, Some, sym, ap, ◌∙◌, arith}
use Rattle.std.proofs.lemmas.List.{take_at}
use Rattle.store_model.specs.VerifyJob.{judged}
use Rattle.job_steps.specs.Visits.{shown_visit}
use Rattle.job_steps.proofs.VerifyLemmas.{judged_more, judged_whole}
use Rattle.job_steps.proofs.stages.Reading.append.Goals as goal

pub returns-then-len-total-clause-whole : goal.returns-then-len-total-clause-whole
returns-then-len-total-clause-whole c =
    let r = c.args.self.now in
    let bytes = r.bytes.items ++ c.args.more.now in
    let short : length bytes < c.args.total = omega (arith, c.len.ensures, ap length c.in_ok-extend_from_slice.ensures.items) in
    sym (judged_more (shown_visit r.visit) r.row bytes c.args.total short)

pub returns-in-Ok-clause-whole : goal.returns-in-Ok-clause-whole
returns-in-Ok-clause-whole c =
    let r = c.args.self.now in
    let bytes = r.bytes.items ++ c.args.more.now in
    let within : c.args.total ≤ length bytes = omega (arith, c.len.ensures, ap length c.in_ok-extend_from_slice.ensures.items) in
    ap Some (c.in-Ok.ensures ∙ ap (judged r.visit.snapshot r.row) c.in_ok-extend_from_slice.ensures.items)
    ∙ sym (judged_whole (shown_visit r.visit) r.row bytes c.args.total within)

pub returns-in-Err-clause-err : goal.returns-in-Err-clause-err
returns-in-Err-clause-err c =
    let r = c.args.self.now in
    c.truncate.ensures.items ∙ ap (take c.len-before.result) c.in_ok-extend_from_slice.ensures.items
    ∙ take_at r.bytes.items c.args.more.now c.len-before.result (omega (arith, c.len-before.ensures, r.bytes.ok.0))
