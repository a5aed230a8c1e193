use Rattle.std.proofs.Common.{◌∙◌}
use Rattle.std.proofs.lemmas.Bool.{MatchBool-at_false, MatchBool-at_true}
use Rattle.job_steps.specs.Visits.{HasNext, IsRead}
use Rattle.job_steps.proofs.VerifyLemmas.{chunks_done, chunks_text}
use Rattle.job_steps.proofs.verify.next_chunk.Goals as goal

pub returns-then-is_read-clause-job : goal.returns-then-is_read-clause-job
returns-then-is_read-clause-job c =
    let chunks = c.args.chunks in
    let read = MatchBool-at_true (IsRead chunks) (HasNext chunks) c.if-is_read.true c.is_read.ensures in
    c.file_done.ensures.job ∙ chunks_done c.args.visit c.args.row c.args.fault chunks read (c.requires.ends read)

pub returns-clause-text : goal.returns-clause-text
returns-clause-text c =
    let chunks = c.args.chunks in
    let next = MatchBool-at_false (IsRead chunks) (HasNext chunks) c.if-is_read.false c.is_read.ensures in
    chunks_text c.args.visit c.args.row c.args.fault chunks next
