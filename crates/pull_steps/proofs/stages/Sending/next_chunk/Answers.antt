use Rattle.std.proofs.Common.{sym, ◌∙◌}
use Rattle.store_history.specs.Pulling as model
use Rattle.pull_steps.specs.States.{EndsInText, shown_course, shown_index, shown_stock}
use Rattle.pull_steps.proofs.Sent.{at_entry}
use Rattle.pull_steps.proofs.stages.Sending.next_chunk.Goals as goal

pub returns-in-Unsent-clause-job : goal.returns-in-Unsent-clause-job
returns-in-Unsent-clause-job c = sym c.in-Unsent.ensures.next

pub returns-in-Unsent-clause-text : goal.returns-in-Unsent-clause-text
returns-in-Unsent-clause-text c =
    let s = c.args.self in
    at_entry (λ e later. model.reading_chunk (shown_course s.course) (shown_stock s.stock) (shown_index s.index) e later) EndsInText s.index.entries.items c.in-Unsent.place
    c.in-Unsent.ensures.within (λ e later. c.requires.texts)

pub returns-in-Mismatched-clause-job : goal.returns-in-Mismatched-clause-job
returns-in-Mismatched-clause-job c = c.mismatched.ensures.job ∙ sym c.in-Mismatched.ensures.next

pub returns-in-End-clause-job : goal.returns-in-End-clause-job
returns-in-End-clause-job c = c.next_append.ensures.job ∙ sym c.in-End.ensures.next
