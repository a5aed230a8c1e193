use Rattle.std.proofs.Common.{◌≡◌, Some, ap, sym, subst, ◌∙◌, arith}
use Rattle.std.specs.Prelude.{IfOk}
use Rattle.store_model.specs.Job.{Job}
use Rattle.store_model.specs.VerifyJob.{judged, file_done, file_read}
use Rattle.plain_lanes.specs.Jobs.{shown_job}
use Rattle.plain_lanes.specs.Visits.{shown_visit}
use Rattle.store_model.proofs.VerifyLemmas.{part_more, part_too_long, part_whole}
use Rattle.plain_lanes.proofs.VerifyLemmas.{long_some, long_none}
use Rattle.plain_lanes.proofs.verify.part_read.Goals as goal

pub returns-in-Some-clause-job : goal.returns-in-Some-clause-job
returns-in-Some-clause-job c =
    let v = shown_visit c.args.visit in
    let row = c.args.row in
    let long = long_some row c.args.total c.in-Some.fault (sym c.in_ok-fault.ensures.fault ∙ c.in-Some.is) in
    let told = ap (λ f. file_done v row (Some f)) long.1 ∙ part_too_long v row c.args.bytes.items c.args.total long.0 in
    subst (λ (x : Job). IfOk c.file_done.result (λ job. shown_job job ≡ x)) told c.file_done.ensures.job

pub returns-then-so_far-total-clause-job : goal.returns-then-so_far-total-clause-job
returns-then-so_far-total-clause-job c =
    let fits = long_none c.args.row c.args.total (sym c.in_ok-fault.ensures.fault ∙ c.in_default.is) in
    part_more (shown_visit c.args.visit) c.args.row c.args.bytes.items c.args.total fits (omega arith)

pub returns-clause-job : goal.returns-clause-job
returns-clause-job c =
    let v = shown_visit c.args.visit in
    let row = c.args.row in
    let says = c.in_ok-judged.ensures.judged ∙ ap (λ s. judged s row c.deref.result.now) c.as_slice.ensures ∙ ap (judged v.snapshot row) c.deref.ensures.value in
    let fits = long_none row c.args.total (sym c.in_ok-fault.ensures.fault ∙ c.in_default.is) in
    let told = ap (file_read v row) says ∙ part_whole v row c.args.bytes.items c.args.total fits (omega arith) in
    subst (λ (x : Job). IfOk c.file_read.result (λ job. shown_job job ≡ x)) told c.file_read.ensures.job
