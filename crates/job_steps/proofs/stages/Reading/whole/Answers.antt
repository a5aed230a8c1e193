use Rattle.std.proofs.Common.{List, ap, ◌∙◌}
use Rattle.store_types.specs.declared.piece.Piece.{Piece}
use Rattle.store_model.specs.VerifyJob.{Judged, judged}
use Rattle.job_steps.proofs.stages.Reading.whole.Goals as goal

pub returns : goal.returns
returns c =
    let r = c.args.self.now in
    let j = c.in_ok-judged.judged in
    ap (λ (es : List Piece). (let y : Judged = record { fault = j.fault; bytes = j.bytes; entries = es } in y)) c.in_ok-chunks.ensures.entries
    ∙ c.in_ok-judged.ensures ∙ ap (λ s. judged s r.row c.deref.result.now) c.as_slice.ensures ∙ ap (judged r.visit.snapshot r.row) c.deref.ensures.value
