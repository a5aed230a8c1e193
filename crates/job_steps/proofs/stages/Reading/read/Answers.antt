use Rattle.std.proofs.Common.{◌≡◌, ◌+◌, length, sym, ap, ◌∙◌, arith}
use Rattle.store_model.specs.Job.{Visit}
use Rattle.job_steps.specs.Checks.{read_on}
use Rattle.job_steps.specs.Visits.{shown_visit}
use Rattle.job_steps.proofs.VerifyLemmas.{chunks_first}
use Rattle.job_steps.proofs.stages.Reading.read.Goals as goal

pub returns-clause-job : goal.returns-clause-job
returns-clause-job c =
    let v = shown_visit c.args.self.visit in
    let w = c.in-Some.whole in
    let many : c.len.result ≡ length (w.chunks.entries.items) = omega (arith, c.len.ensures, w.chunks.entries.ok.0) in
    c.next_chunk.ensures.job
    ∙ chunks_first v _ c.args.self.row w (ap (λ n. (let y : Visit = record v { entries = v.entries + n; bytes = v.bytes + w.bytes } in y)) many)
    ∙ ap (read_on c.args.self) (sym c.in-Some.is)
