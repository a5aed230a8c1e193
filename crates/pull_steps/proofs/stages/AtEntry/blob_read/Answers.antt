use Rattle.std.proofs.Common.{length, sym, ap, ◌∙◌}
use Rattle.pull_steps.specs.Indexes.{fits_at}
use Rattle.pull_steps.proofs.Placed.{chunk_sent, mismatch_read, reading_again, reading_text, sending_text}
use Rattle.pull_steps.proofs.Sent.{entries_are, head_at, tail_at}
use Rattle.pull_steps.proofs.stages.AtEntry.blob_read.Goals as goal

pub returns-then-not-fits-clause-ok : goal.returns-then-not-fits-clause-ok
returns-then-not-fits-clause-ok c =
    let a = c.args.self in
    let is = ap (fits_at (a.sending).index a.place) (ap length c.as_slice.ensures) in
    c.mismatched.ensures.job ∙ mismatch_read a c.args.blob c.index.result.now c.index.ensures (sym is ∙ sym c.fits.ensures ∙ c.if-not-fits.true)

pub returns-in-Ok-clause-ok : goal.returns-in-Ok-clause-ok
returns-in-Ok-clause-ok c =
    let a = c.args.self in
    let n = c.in-Ok.ensures in
    let is = ap (fits_at (a.sending).index a.place) (ap length c.as_slice.ensures) in
    chunk_sent a c.note.new.self n.place n.course n.index c.args.blob (n.sent (head_at a) (tail_at a) (entries_are a)) (sym is ∙ sym c.fits.ensures ∙ c.if-not-fits.false)

pub returns-in-Ok-clause-text : goal.returns-in-Ok-clause-text
returns-in-Ok-clause-text c = sending_text c.args.self c.note.new.self c.args.blob c.in-Ok.ensures.course c.requires.texts

pub returns-in-Err-clause-err : goal.returns-in-Err-clause-err
returns-in-Err-clause-err c =
    let n = c.in-Err.ensures in
    let a = c.args.self in
    let is = ap (fits_at (a.sending).index a.place) (ap length c.as_slice.ensures) in
    (reading_again a c.note.new.self n.place n.course n.index n.err, sym is ∙ sym c.fits.ensures ∙ c.if-not-fits.false)

pub returns-in-Err-clause-text : goal.returns-in-Err-clause-text
returns-in-Err-clause-text c = reading_text c.args.self c.note.new.self c.in-Err.ensures.course c.requires.texts
