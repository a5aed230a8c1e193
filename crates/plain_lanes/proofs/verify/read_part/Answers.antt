use Rattle.std.proofs.Common.{◌≡◌, ◌++◌, sym, ap, subst, ◌∙◌}
use Rattle.std.specs.Prelude.{IfOk}
use Rattle.wire_commands.specs.HasText.{ReplyHasText}
use Rattle.store_model.specs.Job.{Job}
use Rattle.store_model.specs.VerifyJob.{part_read, read_part}
use Rattle.plain_lanes.specs.Jobs.{shown_job}
use Rattle.plain_lanes.specs.Visits.{shown_visit, read_by}
use Rattle.plain_lanes.proofs.VerifyLemmas.{read_not}
use Rattle.plain_lanes.proofs.verify.read_part.Goals as goal

pub returns-in_ok-extend_from_slice-in-Ok-clause-job : goal.returns-in_ok-extend_from_slice-in-Ok-clause-job
unfolding read_part
returns-in_ok-extend_from_slice-in-Ok-clause-job c =
    let v = shown_visit c.args.visit in
    let part = c.in-Ok.part in
    let longer = c.in_ok-extend_from_slice-in-Ok.ensures.items ∙ ap (λ more. c.args.bytes.items ++ more) c.as_slice.ensures in
    let told = ap (λ bytes. part_read v c.args.row bytes part.0) longer ∙ ap (read_part v c.args.row c.args.bytes.items) (sym c.in-Ok.ensures) in
    subst (λ (x : Job). IfOk c.part_read.result (λ job. shown_job job ≡ x)) told c.part_read.ensures.job

pub returns-in-Err-clause-job : goal.returns-in-Err-clause-job
returns-in-Err-clause-job c =
    let v = shown_visit c.args.visit in
    let told = ap (read_by v c.args.row) c.in-Err.ensures.1 ∙ read_not v c.args.row c.args.bytes.items c.args.reply c.in-Err.ensures.0 in
    subst (λ (x : Job). IfOk c.unread.result (λ job. shown_job job ≡ x)) told c.unread.ensures.job

pub unread-requires-clause-reply : goal.unread-requires-clause-reply
unread-requires-clause-reply c = subst ReplyHasText (sym c.in-Err.ensures.1) c.requires.reply
