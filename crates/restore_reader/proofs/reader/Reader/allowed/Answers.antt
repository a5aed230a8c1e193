use Rattle.std.proofs.Common.{ap, ◌∙◌}
use Rattle.std.specs.List.{list_any}
use Rattle.restore_reader.specs.Session.{Reading}
use Rattle.restore_reader.specs.Steps.{has_digest}
use Rattle.restore_reader.proofs.Plainly.{allowed_plainly}
use Rattle.restore_reader.proofs.reader.Reader.allowed.Goals as goal

pub returns-clause-plain : goal.returns-clause-plain
returns-clause-plain c = λ files r shows.
    let digest = c.args.digest.now in
    c.names_digest.ensures ∙ ap (list_any (has_digest digest.0)) c.deref.ensures.value
    ∙ ap (λ (s : Reading). list_any (has_digest digest.0) s.noted) c.self.view_is
    ∙ allowed_plainly files r c.args.self.now digest shows
