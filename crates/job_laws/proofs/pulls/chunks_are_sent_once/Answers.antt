use Rattle.job_laws.proofs.SentOnce.{chunks_are_sent_once}
use Rattle.job_laws.proofs.pulls.chunks_are_sent_once.Goals as goal

pub returns : goal.returns
returns c = chunks_are_sent_once
