use Rattle.std.proofs.Common.{◌≡◌, None, ◌∙◌, ap, sym, rules}
use Rattle.std.specs.List.{remove}
use Rattle.store_model.specs.WriterCalls.{has_number}
use Rattle.plain_sessions.proofs.Opened.{gone_there, place_none}
use Rattle.plain_sessions.proofs.archives.Open.close.Goals as goal

pub returns-in-Some : goal.returns-in-Some
returns-in-Some c =
    let xs = c.args.self.now in
    c.remove.ensures.items ∙ ap (λ l. remove l c.in-Some.place) c.self.view_is ∙ gone_there (has_number c.args.number) xs c.in-Some.place (sym c.place_of.ensures ∙ c.in-Some.is)

pub returns-in_default : goal.returns-in_default
returns-in_default c =
    let none : c.place_of.result ≡ None = search rules in
    sym (place_none (has_number c.args.number) c.args.self.now (sym c.place_of.ensures ∙ none)).1
