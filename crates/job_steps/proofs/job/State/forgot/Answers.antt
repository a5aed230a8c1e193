use Rattle.std.proofs.Common.{◌+◌, ◌<◌, take, drop, length, sym, ◌∙◌, arith}
use Rattle.store_model.specs.Jobs as jobs
use Rattle.job_steps.specs.Rows.{row_at}
use Rattle.job_steps.proofs.RowLemmas.{goes_on_behind, ends_unmarked}
use Rattle.job_steps.proofs.job.State.forgot.Goals as goal

pub returns-in_default : goal.returns-in_default
unfolding jobs.take
returns-in_default c =
    let f = c.args.forgetting in
    let rows = f.rows.items in
    sym (ends_unmarked (take f.place rows) (row_at rows f.place).snapshot (drop (f.place + 1) rows) c.args.reply (sym c.mark_by.ensures ∙ c.in_default.is))

pub returns : goal.returns
unfolding jobs.take
returns c =
    let f = c.args.forgetting in
    let lt : f.place < length f.rows.items = omega (arith, f.within, f.rows.ok.0) in
    c.going_on.ensures
    ∙ goes_on_behind f.rows.items f.place c.index_mut.result.now c.in-Some.mark c.args.reply lt c.index_mut.ensures.value (sym c.mark_by.ensures ∙ c.in-Some.is)
