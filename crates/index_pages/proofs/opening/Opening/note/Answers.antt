use Rattle.std.proofs.Common.{◌++◌, ◌∷◌, [], ap, ap₂, ◌∙◌}
use Rattle.hash_states.specs.States.{absorb}
use Rattle.hash_states.proofs.States.{absorb_is}
use Rattle.index_pages.proofs.Noting.{noted}
use Rattle.index_pages.proofs.opening.Opening.note.Goals as goal

pub returns-clause-notes : goal.returns-clause-notes
returns-clause-notes c = λ sums bytes read.
    let page = c.args.bytes.now in
    let made = c.of-sum.ensures in
    record {
      sums = c.in_ok-push.ensures.items ∙ ap₂ (λ ks k. ks ++ k ∷ []) read.sums (noted c.of-sum.result _ bytes page made.before made.sum read.hashed);
      hashed = made.state ∙ ap (λ s. absorb s page) read.hashed ∙ absorb_is bytes page;
    }
