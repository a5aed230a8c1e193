use Rattle.std.proofs.Common.{ap, ◌∙◌}
use Rattle.hash_states.specs.States.{digest_of}
use Rattle.hash_states.proofs.States.{digest_is}
use Rattle.index_pages.proofs.opening.Opening.close.Goals as goal

pub returns-clause-closes : goal.returns-clause-closes
returns-clause-closes c = λ sums bytes read.
    record {
      sums = read.sums;
      csum = c.digest-csum.ensures ∙ ap digest_of read.hashed ∙ digest_is bytes;
    }
