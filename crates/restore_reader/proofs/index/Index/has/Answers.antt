use Rattle.std.proofs.Common.{ap, sym, ◌∙◌}
use Rattle.std.specs.List.{list_any}
use Rattle.std.specs.Str.{bytes_eq}
use Rattle.restore_reader.specs.Digests.{bytes_of}
use Rattle.restore_reader.specs.Session.{Noted}
use Rattle.restore_reader.specs.Steps.{has_digest}
use Rattle.restore_reader.proofs.Tables.{is_digest, any_bytes, in_distinct}
use Rattle.restore_reader.proofs.index.Index.has.Goals as goal

pub returns : goal.returns
returns c =
    let digest = c.args.digest.now in
    let items = c.self.inside.digests.items in
    c.contains.ensures ∙ ap (list_any (is_digest digest)) c.deref.ensures.value
    ∙ sym (any_bytes (λ d. bytes_eq d digest.0) items) ∙ sym (in_distinct digest.0 (bytes_of items))
    ∙ ap (λ (x : Noted). has_digest digest.0 x) c.self.view_is
