use Rattle.std.proofs.Common.{◌≡◌, ◌∷◌, [], ◌++◌, List, true, false, length, sym, ap, subst, ◌∙◌, arith, length-append}
use Rattle.std.proofs.lemmas.List.Elements.{All-head, All-tail, All-push, All-same}
use Rattle.wire_commands.specs.declared.rows.PruneRow.{PruneRow}
use Rattle.wire_commands.specs.declared.reply.Reply.TheVariants.{Marks}
use Rattle.wire_commands.specs.HasText.{FitsPruneRow, ReplyHasText}
use Rattle.store_model.specs.Job.{over}
use Rattle.store_model.specs.PruneJob.{go_on}
use Rattle.plain_lanes.proofs.PruneLemmas.{tested, marks_spelled, popped_fit, popped_goes, popped_stays, none_left}
use Rattle.plain_lanes.proofs.prune.go_on.Goals as goal

pub invariant_of-result : goal.invariant_of-result
invariant_of-result c =
    let before = c.loop-row.before.items in
    let rest = c.pop_front.new.self.items in
    let r = c.in-Some.row in
    let popped : c.loop-row.later.items ≡ r ∷ rest = c.in-Some.ensures.items in
    let fit = popped_fit before c.loop-row.later.items rest r popped c.loop-row.invariant.to_come in
    let shorter = ap length popped in
    (omega (arith, shorter, c.loop-row.invariant.count), c.loop-row.invariant.done, All-head FitsPruneRow r rest fit, All-tail FitsPruneRow r rest fit)

pub returns-then-eq-clause-job : goal.returns-then-eq-clause-job
returns-then-eq-clause-job c =
    let r = c.in-Some.row in
    sym (popped_goes c.loop-row.before.items c.loop-row.later.items c.pop_front.new.self.items r c.in-Some.ensures.items (tested r c.eq.result true c.eq.ensures c.if-eq.true))
    ∙ c.loop-row.invariant.same

pub loop-row-preserved : goal.loop-row-preserved
loop-row-preserved c =
    let before = c.loop-row.before.items in
    let later = c.loop-row.later.items in
    let rest = c.pop_front.new.self.items in
    let r = c.in-Some.row in
    let popped : later ≡ r ∷ rest = c.in-Some.ensures.items in
    let pushed : c.push.new.self.items ≡ before ++ r ∷ [] = c.in_ok-push.ensures.items in
    let fit = popped_fit before later rest r popped c.loop-row.invariant.to_come in
    let shorter = ap length popped in
    let longer = ap length pushed ∙ length-append before (r ∷ []) in
    record {
      same = ap (λ b. go_on b rest) pushed ∙ sym (popped_stays before later rest r popped (tested r c.eq.result false c.eq.ensures c.if-eq.false)) ∙ c.loop-row.invariant.same;
      count = omega (arith, shorter, longer, c.loop-row.invariant.count);
      done = All-same FitsPruneRow c.push.new.self.items (before ++ r ∷ []) pushed (All-push FitsPruneRow before r c.loop-row.invariant.done (All-head FitsPruneRow r rest fit));
      to_come = All-tail FitsPruneRow r rest fit;
    }

pub returns-clause-job : goal.returns-clause-job
returns-clause-job c =
    let empty : length c.loop-row.later.items ≡ 0 = omega (arith, (rw c.in_default.is at c.pop_front.ensures.cases)) in
    ap (λ rows. over (Marks rows)) c.from_vec.ensures ∙ sym (none_left c.loop-row.before.items c.loop-row.later.items empty) ∙ c.loop-row.invariant.same

pub returns-clause-spelled : goal.returns-clause-spelled
returns-clause-spelled c =
    subst (λ (rows : List PruneRow). ReplyHasText (Marks rows)) (sym c.from_vec.ensures)
    (marks_spelled c.loop-row.before.items (omega (arith, c.loop-row.invariant.count)) c.loop-row.invariant.done)
