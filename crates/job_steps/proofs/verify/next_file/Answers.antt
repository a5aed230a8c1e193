use Rattle.std.proofs.Common.{◌≡◌, ◌≤◌, ℕ, List, drop, length, ap, ◌∙◌, arith, length-drop}
use Rattle.std.proofs.lemmas.List.Elements.{All-drop, All-same}
use Rattle.wire_commands.specs.HasText.{FitsFileRow}
use Rattle.wire_commands.specs.declared.reply.Reply.{Reply}
use Rattle.store_model.specs.Job.{Visit, asking, reading, closing}
use Rattle.job_steps.specs.Visits.{shown_visit}
use Rattle.store_model.proofs.VerifyLemmas.{next_none, next_some}
use Rattle.job_steps.proofs.verify.next_file.Goals as goal

pub returns-in-Some-clause-job : goal.returns-in-Some-clause-job
returns-in-Some-clause-job c =
    let v = c.args.visit in
    let rest = c.pop_front.new.self.items in
    let at : Visit = record (shown_visit v) { later = rest } in
    ap (λ (b : List ℕ). asking (reading at c.in-Some.row b)) c.new.ensures.items ∙ next_some (shown_visit v) v.later.items rest c.in-Some.row c.in-Some.ensures.items

pub returns-in-None-clause-job : goal.returns-in-None-clause-job
returns-in-None-clause-job c =
    let v = c.args.visit in
    let empty : length v.later.items ≡ 0 = omega (arith, c.in-None.ensures.cases) in
    ap (λ (r : Reply). asking (closing r)) c.report.ensures.report ∙ next_none (shown_visit v) v.later.items empty

pub invariant_of-visit : goal.invariant_of-visit
invariant_of-visit c =
    let v = c.args.visit in
    let rest = c.pop_front.new.self.items in
    let less : length rest ≤ length v.later.items = omega (arith, ap length c.pop_front.ensures.rest, length-drop 1 v.later.items) in
    record {
      told = omega (arith, v.told, less);
      few = v.few;
      room = v.room;
      entries_few = v.entries_few;
      bytes_few = v.bytes_few;
      spelled = v.spelled;
      listed = All-same FitsFileRow rest (drop 1 v.later.items) c.pop_front.ensures.rest (All-drop FitsFileRow 1 v.later.items v.listed);
    }
