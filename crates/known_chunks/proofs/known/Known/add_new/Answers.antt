use Rattle.std.proofs.Common.{rules, ap, ◌∙◌}
use Rattle.std.specs.Option.{unwrap_or}
use Rattle.known_chunks.specs.Lengths.{with_length}
use Rattle.known_chunks.proofs.Entries.{lengths_of-kept}
use Rattle.known_chunks.proofs.known.Known.add_new.Goals as goal

pub returns-clause-ok : goal.returns-clause-ok
returns-clause-ok c =
    let length = c.args.length in
    let now = c.or_insert.ensures.value ∙ ap (λ o. unwrap_or o length) c.in_ok-self-inside.ensures.value in
    let kept =
    lengths_of-kept c.args.digest.now length c.or_insert.result.now c.self.inside.lengths.entries _ now (c.in_ok-self-inside.ensures.update.0 c.or_insert.result.now).0
    ∙ ap (λ m. with_length m (c.args.digest.now.0, length)) c.self.view_is in
    search (rules, kept)
