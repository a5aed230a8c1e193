use Rattle.std.proofs.Common.{◌≡◌, ◌∙◌, ap, sym, Ok, Some, None, rules}
use Rattle.core_state.specs.Kept.{kept_at}
use Rattle.core_state.specs.Found.{path_in}
use Rattle.core_state.proofs.Commanding.{gives_by}
use Rattle.core_reader.proofs.ReadPart.{place_absent, place_there, place_unread}
use Rattle.core_reader.proofs.reading.path_of.Goals as goal

pub returns-in_err-reader-clause-value : goal.returns-in_err-reader-clause-value
returns-in_err-reader-clause-value g c =
    let parts = c.args.parts.now in
    gives_by _ _ _ _ c.from_residual.ensures.1 (place_unread c.args.name.now (kept_at parts c.args.lane) _ c.in_err-reader.ensures.value)

pub returns-in_default-clause-value : goal.returns-in_default-clause-value
returns-in_default-clause-value g c =
    let parts = c.args.parts.now in
    let r = c.in_ok-reader.reader.now in
    let missing : path_in r.key c.args.name.now parts.catalogue.listed ≡ None = search rules in
    place_absent c.args.name.now (kept_at parts c.args.lane) r c.in_ok-reader.ensures.value missing

pub returns-clause-value : goal.returns-clause-value
returns-clause-value g c =
    let parts = c.args.parts.now in
    let r = c.in_ok-reader.reader.now in
    let found : path_in r.key c.args.name.now parts.catalogue.listed ≡ Some c.in-Some.path.now = search rules in
    place_there c.args.name.now (kept_at parts c.args.lane) r c.in-Some.path.now c.in_ok-reader.ensures.value found
    ∙ ap Ok (sym (c.in_ok-path.ensures.ok ∙ c.as_str.ensures.text))
