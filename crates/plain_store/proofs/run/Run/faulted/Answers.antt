use Rattle.std.proofs.Common.{◌≡◌, ap, sym, Some, unwrap_or, ◌∙◌}
use Rattle.store_model.specs.Lanes.{Run, next_of}
use Rattle.store_model.specs.Weave.{told_fault, fault_refusal}
use Rattle.plain_store.proofs.RunLemmas.{faulted_cut, faulted_told}
use Rattle.plain_store.proofs.run.Run.faulted.Goals as goal
use Rattle.plain_store.proofs.run.Run.faulted.Goals.{then-not-is_cut_off+in_ok-tell_fault, else-not-is_cut_off}

pub returns-clause-told : goal.returns-clause-told
returns-clause-told c =
    let r = c.args.self.now in
    let k = c.args.lane in
    let place = c.args.place in
    let ending = c.args.ending in
    let later = c.args.later.now in
    let kept = c.unwrap_or.result in
    let first = ap (λ (x : Run). x.fault) c.self.view_is in
    let same : kept ≡ unwrap_or r.fault place = c.unwrap_or.ensures ∙ ap (λ f. unwrap_or f place) first in
    elim c.if-not-is_cut_off.branch [
      | then-not-is_cut_off+in_ok-tell_fault w ↦
          let refusal = w.fault_refusal.ensures.refusal ∙ ap fault_refusal first in
          let before = c.self-2.view_is ∙ w.self-is ∙ w.in_ok-tell_fault.ensures.told ∙ ap (λ q. told_fault r k q (next_of r k)) refusal in
          ap (λ (x : Run). (let y : Run = record x { fault = Some kept } in y)) before
          ∙ faulted_told r k place ending later (next_of r k) kept same (sym c.is_cut_off.ensures ∙ w.if-not-is_cut_off.true)
      | else-not-is_cut_off w ↦
          ap (λ (x : Run). (let y : Run = record x { fault = Some kept } in y)) (c.self-2.view_is ∙ w.self-is)
          ∙ faulted_cut r k place ending later (next_of r k) kept same (sym c.is_cut_off.ensures ∙ w.if-not-is_cut_off.false)
    ]
