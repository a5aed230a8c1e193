use Rattle.std.proofs.Common.{◌≡◌, sym, ap, subst, ◌∙◌}
use Rattle.std.specs.Prelude.{IfErr}
use Rattle.store_history.specs.Pulling.{take_more}
use Rattle.pull_steps.specs.declared.pull.State.{State}
use Rattle.pull_steps.specs.States.{EndsInText, pull_in}
use Rattle.pull_steps.specs.Taken.{IsReadOf}
use Rattle.pull_steps.proofs.Steps.{appended_is, appending_texts, reading_kept, reading_texts, sending_texts, sent_is}
use Rattle.pull_steps.proofs.pull.State.take.Goals as goal

pub chunk_read-requires-clause-texts : goal.chunk_read-requires-clause-texts
chunk_read-requires-clause-texts c =
    reading_texts c.in-ReadingChunk.at (subst (λ (s : State). EndsInText (pull_in s)) c.in-ReadingChunk.is c.requires.texts)

pub sent-requires-clause-texts : goal.sent-requires-clause-texts
sent-requires-clause-texts c =
    sending_texts c.in-SendingChunk.chunk (subst (λ (s : State). EndsInText (pull_in s)) c.in-SendingChunk.is c.requires.texts)

pub appended-requires-clause-texts : goal.appended-requires-clause-texts
appended-requires-clause-texts c =
    appending_texts c.in-Appending.at (subst (λ (s : State). EndsInText (pull_in s)) c.in-Appending.is c.requires.texts)

pub returns-in-ReadingChunk-clause-err : goal.returns-in-ReadingChunk-clause-err
returns-in-ReadingChunk-clause-err c =
    let reply = c.args.reply in
    subst (λ (s : State). IfErr c.chunk_read.result (λ state. (pull_in state ≡ pull_in s) × IsReadOf (pull_in s) reply)) (sym c.in-ReadingChunk.is)
    (reading_kept c.in-ReadingChunk.at reply c.chunk_read.result c.chunk_read.ensures.err)

pub returns-in-SendingChunk-clause-ok : goal.returns-in-SendingChunk-clause-ok
returns-in-SendingChunk-clause-ok c =
    let reply = c.args.reply in
    c.sent.ensures.job ∙ sent_is c.in-SendingChunk.chunk reply ∙ ap (λ (s : State). take_more (pull_in s) reply) (sym c.in-SendingChunk.is)

pub returns-in-Appending-clause-ok : goal.returns-in-Appending-clause-ok
returns-in-Appending-clause-ok c =
    let reply = c.args.reply in
    c.appended.ensures.job ∙ appended_is c.in-Appending.at reply ∙ ap (λ (s : State). take_more (pull_in s) reply) (sym c.in-Appending.is)
