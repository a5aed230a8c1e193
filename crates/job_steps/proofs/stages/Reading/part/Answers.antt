use Rattle.std.proofs.Common.{◌++◌, sym, ◌∙◌}
use Rattle.job_steps.specs.Visits.{shown_visit}
use Rattle.job_steps.proofs.VerifyLemmas.{long_done, not_long, part_taken}
use Rattle.job_steps.proofs.stages.Reading.part.Goals as goal

pub returns-in-Ok-Some-clause-ok : goal.returns-in-Ok-Some-clause-ok
returns-in-Ok-Some-clause-ok c =
    let r = c.args.self in
    c.done.ensures.job ∙ long_done (shown_visit r.visit) r.row (r.bytes.items ++ c.args.more.now) c.args.total c.in-Ok-Some.fault (sym c.in-Ok-Some.field-0-is ∙ c.in-Ok-Some.ensures.fault)

pub returns-in-Ok-clause-ok : goal.returns-in-Ok-clause-ok
returns-in-Ok-clause-ok c =
    let r = c.args.self in
    c.read.ensures.job
    ∙ part_taken r c.append.new.self c.append.ensures.visit c.append.ensures.row c.args.more.now c.args.total (not_long r.row c.args.total (sym c.in-Ok-None.field-0-is ∙ c.in-Ok-None.ensures.fault))
    c.in-Ok.ensures.ok c.in-Ok.whole c.in-Ok.ensures.whole
