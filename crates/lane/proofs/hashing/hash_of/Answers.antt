use Rattle.std.proofs.Common.{[], ◌++◌, sym, ap, ◌∙◌, rules, append_assoc, append-nil}
use Rattle.std.proofs.lemmas.List.{nil_from_length}
use Rattle.sha2.specs.Sha256.{sha256}
use Rattle.lane.proofs.hashing.hash_of.Goals as goal

pub loop-part-init : goal.loop-part-init
loop-part-init g c = (search rules, tt, search rules, ([], search rules, search rules))

pub loop-part-preserved : goal.loop-part-preserved
loop-part-preserved g c =
    let so_far = c.loop-part.invariant.3 in
    let steps = c.in-Some.ensures.steps in (
      search rules,
      tt,
      steps.0 ∙ c.loop-part.invariant.2,
      (
        so_far.0 ++ c.in-Some.part.now,
        c.update.ensures so_far.0 so_far.1,
        append_assoc so_far.0 _ _ ∙ ap (λ t. so_far.0 ++ t) (sym steps.1.0) ∙ so_far.2,
      ),
    )

pub returns : goal.returns
returns g c =
    let so_far = c.loop-part.invariant.3 in
    let none = nil_from_length _ c.in-None.ensures.steps.1.0 in
    c.finalize.ensures so_far.0 so_far.1 ∙ ap sha256 (sym (append-nil so_far.0) ∙ ap (λ t. so_far.0 ++ t) (sym none) ∙ so_far.2)
