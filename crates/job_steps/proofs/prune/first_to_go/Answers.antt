use Rattle.std.proofs.Common.{◌≡◌, ◌<◌, true, false, length, sym, ◌∙◌, arith}
use Rattle.job_steps.proofs.RowLemmas.{tested_at, goes_past, stops, ends}
use Rattle.job_steps.proofs.prune.first_to_go.Goals as goal

pub returns-then-eq-clause-first : goal.returns-then-eq-clause-first
returns-then-eq-clause-first c =
    let rows = c.args.rows.now in
    let place = c.loop-place.place in
    let lt : place < length rows = omega arith in
    stops rows place lt (tested_at rows place c.index-rows-place.result c.eq.result true lt c.index-rows-place.is c.eq.ensures c.if-eq.true)
    ∙ c.loop-place.invariant

pub loop-place-preserved : goal.loop-place-preserved
loop-place-preserved c =
    let rows = c.args.rows.now in
    let place = c.loop-place.place in
    let lt : place < length rows = omega arith in
    sym (goes_past rows place lt (tested_at rows place c.index-rows-place.result c.eq.result false lt c.index-rows-place.is c.eq.ensures c.if-eq.false))
    ∙ c.loop-place.invariant

pub returns-clause-first : goal.returns-clause-first
returns-clause-first c =
    let rows = c.args.rows.now in
    let last : length rows ≡ c.loop-place.place = omega arith in
    ends rows c.loop-place.place last ∙ c.loop-place.invariant
