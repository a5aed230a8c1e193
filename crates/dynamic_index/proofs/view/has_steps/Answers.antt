use Rattle.std.proofs.Common.{◌∙◌, ◌<◌, ◌≤◌, ◌+◌, length, drop, true, false, sym, ap, arith}
use Rattle.store_files.specs.DynamicIndex.{fields_of, steps_fit}
use Rattle.std.proofs.lemmas.List.{at_drop_all}
use Rattle.dynamic_index.proofs.Cells.{count_is}
use Rattle.dynamic_index.proofs.Steps.{is_step, steps_more}
use Rattle.dynamic_index.proofs.view.has_steps.Goals as goal

pub returns-then-not-is_step : goal.returns-then-not-is_step
returns-then-not-is_step c =
    let es = (fields_of c.args.bytes.now).entries in
    let below : c.loop-i.i < length es = omega (arith, c.loop-i-test.true, count_is c.args.bytes.now) in
    let step = sym (ap (is_step c.loop-i.start) c.end_at-end.ensures) ∙ sym c.if-not-is_step.ensures in
    sym (steps_more c.loop-i.start es c.loop-i.i _ false below step) ∙ c.loop-i.invariant

pub loop-i-preserved : goal.loop-i-preserved
loop-i-preserved c =
    let es = (fields_of c.args.bytes.now).entries in
    let below : c.loop-i.i < length es = omega (arith, c.loop-i-test.true, count_is c.args.bytes.now) in
    let step = sym (ap (is_step c.loop-i.start) c.end_at-end.ensures) ∙ sym c.if-not-is_step.ensures in
    ap (λ end. steps_fit end (drop (c.loop-i.i + 1) es)) c.end_at-end.ensures
    ∙ sym (steps_more c.loop-i.start es c.loop-i.i _ true below step) ∙ c.loop-i.invariant

pub returns : goal.returns
returns c =
    let es = (fields_of c.args.bytes.now).entries in
    let all : length es ≤ c.loop-i.i = omega (arith, c.loop-i-test.false, count_is c.args.bytes.now) in
    sym (at_drop_all (steps_fit c.loop-i.start) es c.loop-i.i all) ∙ c.loop-i.invariant
