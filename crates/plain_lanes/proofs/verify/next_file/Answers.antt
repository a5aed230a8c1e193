use Rattle.std.proofs.Common.{◌≡◌, ℕ, List, length, sym, ap, subst, ◌∙◌, arith}
use Rattle.wire_commands.specs.declared.rows.FaultRow.{FaultRow}
use Rattle.wire_commands.specs.declared.reply.Reply.TheVariants.{Verified}
use Rattle.wire_commands.specs.HasText.{FitsFileRow, ReplyHasText}
use Rattle.std.proofs.lemmas.List.Elements.{All-head, All-tail, All-same}
use Rattle.store_model.specs.Job.{Visit, asking, reading, closing}
use Rattle.plain_lanes.specs.Visits.{shown_visit}
use Rattle.store_model.proofs.VerifyLemmas.{rows_of_test, verified_spelled, next_none, next_some}
use Rattle.plain_lanes.proofs.verify.next_file.Goals as goal

pub asked-requires : goal.asked-requires
asked-requires c =
    let v = c.args.visit in
    subst (λ (rows : List FaultRow). ReplyHasText (Verified v.files v.entries v.bytes rows)) (sym c.from_vec.ensures)
    (verified_spelled v.files v.entries v.bytes v.faults.items (omega arith) (omega arith) (omega arith) v.few (rows_of_test v.faults.items v.spelled))

pub returns-in_default-clause-job : goal.returns-in_default-clause-job
returns-in_default-clause-job c =
    let v = c.args.visit in
    let empty : length v.later.items ≡ 0 = omega (arith, (rw c.in_default.is at c.pop_front.ensures.cases)) in
    c.asked.ensures.job ∙ ap (λ rows. asking (closing (Verified v.files v.entries v.bytes rows))) c.from_vec.ensures ∙ next_none (shown_visit v) v.later.items empty

pub returns-clause-job : goal.returns-clause-job
returns-clause-job c =
    let v = c.args.visit in
    let rest = c.pop_front.new.self.items in
    let at : Visit = record (shown_visit v) { later = rest } in
    ap (λ (b : List ℕ). asking (reading at c.in-Some.row b)) c.new.ensures.items ∙ next_some (shown_visit v) v.later.items rest c.in-Some.row c.in-Some.ensures.items

pub invariant_of-visit : goal.invariant_of-visit
invariant_of-visit c =
    let v = c.args.visit in
    let row = c.in-Some.row in
    let rest = c.pop_front.new.self.items in
    record {
      few = v.few;
      spelled = v.spelled;
      listed = All-tail FitsFileRow row rest (All-same FitsFileRow _ v.later.items (sym c.in-Some.ensures.items) v.listed);
    }

pub invariant_of-result : goal.invariant_of-result
invariant_of-result c =
    let v = c.args.visit in
    let row = c.in-Some.row in
    let rest = c.pop_front.new.self.items in
    All-head FitsFileRow row rest (All-same FitsFileRow _ v.later.items (sym c.in-Some.ensures.items) v.listed)
