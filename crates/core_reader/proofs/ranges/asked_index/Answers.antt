use Rattle.std.proofs.Common.{◌≡◌, ◌∙◌, true, false, Some, None, Ok, ap, sym, rules}
use Rattle.store_types.specs.FileNames.{is_index_name}
use Rattle.core_state.specs.Kept.{kept_at}
use Rattle.core_state.specs.Found.{path_in}
use Rattle.core_state.proofs.Commanding.{gives_by}
use Rattle.core_state.proofs.Texts.{bad_name_has_text, no_file_has_text}
use Rattle.core_reader.proofs.Ranging.{place_bad, place_found, place_missing, place_unread}
use Rattle.core_reader.proofs.ranges.asked_index.Goals as goal

pub returns-in_err-reader-clause-value : goal.returns-in_err-reader-clause-value
returns-in_err-reader-clause-value g c =
    gives_by _ _ _ _ c.from_residual.ensures.1 (place_unread c.args.file.now (kept_at c.args.parts.now c.args.lane) _ c.in_err-reader.ensures.value)

pub returns-in_default-clause-value : goal.returns-in_default-clause-value
returns-in_default-clause-value g c =
    let bad : is_index_name c.args.file.now ≡ false = search rules in
    place_bad c.args.file.now (kept_at c.args.parts.now c.args.lane) _ c.in_ok-reader.ensures.value bad

pub returns-in_default-path-clause-value : goal.returns-in_default-path-clause-value
returns-in_default-path-clause-value g c =
    let good : is_index_name c.args.file.now ≡ true = search rules in
    let missing : path_in c.in_ok-reader.reader.now.key c.args.file.now c.args.parts.now.catalogue.listed ≡ None = search rules in
    place_missing c.args.file.now (kept_at c.args.parts.now c.args.lane) _ c.in_ok-reader.ensures.value good missing

pub returns-clause-value : goal.returns-clause-value
returns-clause-value g c =
    let good : is_index_name c.args.file.now ≡ true = search rules in
    let found : path_in c.in_ok-reader.reader.now.key c.args.file.now c.args.parts.now.catalogue.listed ≡ Some c.in-Some-path.path.now = search rules in
    place_found c.args.file.now (kept_at c.args.parts.now c.args.lane) _ c.in-Some-path.path.now c.in_ok-reader.ensures.value good found
    ∙ ap Ok (sym (c.in_ok-path.ensures.ok ∙ c.as_str.ensures.text))

pub returns-in_default-clause-text : goal.returns-in_default-clause-text
returns-in_default-clause-text g c = bad_name_has_text

pub returns-in_default-path-clause-text : goal.returns-in_default-path-clause-text
returns-in_default-path-clause-text g c = no_file_has_text
