use Rattle.std.proofs.Common.{◌≡◌, ◌∙◌, true, false, Some, None, rules}
use Rattle.store_types.specs.FileNames.{is_file_name}
use Rattle.core_state.specs.Kept.{kept_at}
use Rattle.core_state.specs.Found.{path_in}
use Rattle.core_state.proofs.Commanding.{gives_by}
use Rattle.core_reader.proofs.Downloads.{asked_as, file_absent, file_bad, file_there, file_unread}
use Rattle.core_reader.proofs.downloading.asked_file.Goals as goal

pub returns-in_err-reader-clause-value : goal.returns-in_err-reader-clause-value
returns-in_err-reader-clause-value g c = λ offset.
    gives_by _ _ _ _ c.from_residual.ensures.1 (file_unread c.args.file.now offset (kept_at c.args.parts.now c.args.lane) _ c.in_err-reader.ensures.value)

pub returns-in_default-clause-value : goal.returns-in_default-clause-value
returns-in_default-clause-value g c = λ offset.
    let bad : is_file_name c.args.file.now ≡ false = search rules in
    file_bad c.args.file.now offset (kept_at c.args.parts.now c.args.lane) _ c.in_ok-reader.ensures.value bad

pub returns-in_default-path-clause-value : goal.returns-in_default-path-clause-value
returns-in_default-path-clause-value g c = λ offset.
    let good : is_file_name c.args.file.now ≡ true = search rules in
    let missing : path_in c.in_ok-reader.reader.now.key c.args.file.now c.args.parts.now.catalogue.listed ≡ None = search rules in
    file_absent c.args.file.now offset (kept_at c.args.parts.now c.args.lane) _ c.in_ok-reader.ensures.value good missing

pub returns-clause-value : goal.returns-clause-value
returns-clause-value g c = λ offset.
    let good : is_file_name c.args.file.now ≡ true = search rules in
    let named : c.in-Ok.name ≡ c.args.file.now = search rules in
    let found : path_in c.in_ok-reader.reader.now.key c.args.file.now c.args.parts.now.catalogue.listed ≡ Some c.in-Some.path.now = search rules in
    file_there c.args.file.now offset (kept_at c.args.parts.now c.args.lane) _ _ c.in_ok-reader.ensures.value good found
    ∙ asked_as c.in_ok-reader.reader.now c.args.file.now offset c.in-Some.path.now _ c.in-Ok.name c.whole_index-whole.result (c.in_ok-path.ensures.ok ∙ c.as_str.ensures.text) c.whole_index-whole.ensures named
