use Rattle.std.proofs.Common.{◌≡◌, refl, sym, ap, subst, ◌∙◌, IfOk}
use Rattle.pbs_server.specs.declared.status.Status.TheVariants.{Ok, NoMemory}
use Rattle.pbs_server.specs.Generating.{TellsSummary, no_memory}
use Rattle.pbs_server.specs.Statuses.{beside_sink}
use Rattle.pbs_server.proofs.Summed.{cut_summary, whole_summary}
use Rattle.pbs_server.proofs.summing.tell.Goals as goal

-- there was no memory for it
pub returns-in_default-clause-journal : goal.returns-in_default-clause-journal
returns-in_default-clause-journal g c =
    λ text is. subst (λ b. TellsSummary g.J.Sink Ok text c.args.journal.now c.args.journal.now NoMemory b) (sym c.requires.unfailed) (no_memory refl refl)

pub returns-in-Ok-write_all_of-clause-journal : goal.returns-in-Ok-write_all_of-clause-journal
returns-in-Ok-write_all_of-clause-journal g c =
    λ text is. whole_summary g.J.Sink c.args.journal.now c.write_all_of.new.sink c.deref.result.now text (c.deref.ensures.value ∙ subst (λ r. IfOk r (λ v. v.items ≡ text)) c.in-Ok.is is)
    c.in-Ok-write_all_of.ensures.bytes c.in-Ok-write_all_of.ensures.cause.later c.args.served.status c.args.served.report.journal_failed c.requires.ok c.requires.unfailed

pub returns-clause-journal : goal.returns-clause-journal
returns-clause-journal g c =
    λ text is. cut_summary g.J.Sink c.args.journal.now c.write_all_of.new.sink c.deref.result.now text (c.deref.ensures.value ∙ subst (λ r. IfOk r (λ v. v.items ≡ text)) c.in-Ok.is is)
    c.in-Err.ensures.bytes c.in-Err.ensures.cause.failed c.in-Err.ensures.cause.later c.with_failed_journal.result.status c.with_failed_journal.result.report.journal_failed
    (ap (λ r. r.status) c.with_failed_journal.ensures ∙ ap beside_sink c.requires.ok) (ap (λ r. (r.report).journal_failed) c.with_failed_journal.ensures)
