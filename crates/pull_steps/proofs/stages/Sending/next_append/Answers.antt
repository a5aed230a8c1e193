use Rattle.std.proofs.Common.{◌<◌, length, arith}
use Rattle.store_history.specs.Pulling as model
use Rattle.pull_steps.specs.States.{EndsInText, shown_course, shown_index, shown_stock}
use Rattle.pull_steps.proofs.Sent.{appends_at, at_entry}
use Rattle.pull_steps.proofs.stages.Sending.next_append.Goals as goal

pub returns-then-from-len-clause-job : goal.returns-then-from-len-clause-job
returns-then-from-len-clause-job c =
    let s = c.args.self in
    appends_at s c.args.from (omega (arith, c.len.ensures, s.index.entries.ok.0))

pub returns-then-from-len-clause-text : goal.returns-then-from-len-clause-text
returns-then-from-len-clause-text c =
    let s = c.args.self in
    let lt : c.args.from < length s.index.entries.items = omega (arith, c.len.ensures, s.index.entries.ok.0) in
    at_entry (λ e later. model.appending (shown_course s.course) (shown_stock s.stock) (shown_index s.index) e later) EndsInText s.index.entries.items c.args.from lt
    (λ e later. c.requires.texts)
