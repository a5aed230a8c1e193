use Rattle.std.proofs.Common.{◌∙◌, ap, sym}
use Rattle.std.specs.FinMap.{get}
use Rattle.known_chunks.proofs.Entries.{get-lengths_of}
use Rattle.known_chunks.proofs.known.Known.find.Goals as goal

pub returns : goal.returns
returns c =
    c.copied.ensures ∙ c.get.ensures.value ∙ sym (get-lengths_of c.args.digest.now _)
    ∙ ap (λ m. get m c.args.digest.now.0) c.self.view_is
