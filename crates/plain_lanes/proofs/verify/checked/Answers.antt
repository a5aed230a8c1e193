use Rattle.std.proofs.Common.{◌≡◌, ◌+◌, sym, ap, subst, ◌∙◌, arith, rules}
use Rattle.std.specs.Option.{option_or}
use Rattle.std.specs.Prelude.{IfOk}
use Rattle.wire_commands.specs.HasText.{ReplyHasText}
use Rattle.store_model.specs.Job.{Job}
use Rattle.store_model.specs.VerifyJob.{next_chunk}
use Rattle.plain_lanes.specs.Jobs.{shown_job}
use Rattle.plain_lanes.specs.Visits.{shown_visit, checked_by}
use Rattle.plain_lanes.proofs.VerifyLemmas.{chunk_checked, not_checked}
use Rattle.plain_lanes.proofs.verify.checked.Goals as goal

pub returns-in_ok-place-in-Ok-clause-job : goal.returns-in_ok-place-in-Ok-clause-job
returns-in_ok-place-in-Ok-clause-job c =
    let v = shown_visit c.args.visit in
    let later = c.args.later.items in
    let place : c.in_ok-place-in-Ok.place ≡ c.args.place + 1 = search (rules, arith) in
    let told =
    ap (λ fault. next_chunk v c.args.row fault c.in_ok-place-in-Ok.place later) c.first_fault-fault.ensures.first
    ∙ ap (λ n. next_chunk v c.args.row (option_or c.args.fault c.in-Ok.found) n later) place
    ∙ chunk_checked v c.args.row c.args.fault c.args.place c.args.piece later c.args.reply c.in-Ok.found c.in-Ok.ensures.fault in
    subst (λ (x : Job). IfOk c.next_chunk.result (λ job. shown_job job ≡ x)) told c.next_chunk.ensures.job

pub returns-in-Err-clause-job : goal.returns-in-Err-clause-job
returns-in-Err-clause-job c =
    let v = shown_visit c.args.visit in
    let told =
    ap (checked_by v c.args.row c.args.fault) c.in-Err.ensures.fault.1
    ∙ not_checked v c.args.row c.args.fault c.args.place c.args.piece c.args.later.items c.args.reply c.in-Err.ensures.fault.0 in
    subst (λ (x : Job). IfOk c.unchecked.result (λ job. shown_job job ≡ x)) told c.unchecked.ensures.job

pub unchecked-requires-clause-reply : goal.unchecked-requires-clause-reply
unchecked-requires-clause-reply c = subst ReplyHasText (sym c.in-Err.ensures.fault.1) c.requires.reply
