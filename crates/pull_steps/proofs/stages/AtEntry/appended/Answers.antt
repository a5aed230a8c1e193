use Rattle.std.proofs.Common.{◌+◌, ap, ◌∙◌, arith}
use Rattle.store_history.specs.Pulling.{batch}
use Rattle.pull_steps.specs.Entries.{append_from, appended_behind}
use Rattle.pull_steps.proofs.Placed.{drop_end, goes_past}
use Rattle.pull_steps.proofs.stages.AtEntry.appended.Goals as goal

pub returns-clause-job : goal.returns-clause-job
returns-clause-job c =
    let a = c.args.self in
    let es = (a.sending).index.entries in
    c.next_append.ensures.job
    ∙ ap (append_from a.sending) (drop_end es.items (a.place + batch) c.min-end.result (omega (arith, c.min-end.ensures, c.len.ensures, es.ok.0)))
    ∙ goes_past c.args.reply (appended_behind a) c.in_default.not-Refused
