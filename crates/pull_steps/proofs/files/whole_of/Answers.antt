use Rattle.std.proofs.Common.{◌≡◌, true, false, ap, sym, ◌∙◌}
use Rattle.std.specs.Option.{option_map}
use Rattle.store_types.specs.FileNames.{is_index_name}
use Rattle.pull_steps.specs.States.{shown_course, shown_index}
use Rattle.pull_steps.proofs.Parts.{blob_none, blob_some, index_none, index_some, rejected_file}
use Rattle.pull_steps.proofs.files.whole_of.Goals as goal

pub returns-in-Some-clause-whole : goal.returns-in-Some-clause-whole
returns-in-Some-clause-whole c =
    let kind : is_index_name c.args.name.now ≡ true = sym c.is_index.ensures ∙ c.if-is_index.true in
    let given = sym (ap (option_map shown_index) c.in-Some.is) ∙ c.in_ok-index.ensures in
    λ s. index_some (shown_course c.args.course.now) s c.args.name.now c.args.bytes.now kind c.in-Some.index given

pub returns-in-None-clause-whole : goal.returns-in-None-clause-whole
returns-in-None-clause-whole c =
    let name = c.args.name.now in
    let kind : is_index_name name ≡ true = sym c.is_index.ensures ∙ c.if-is_index.true in
    let given = sym (ap (option_map shown_index) c.in-None.is) ∙ c.in_ok-index.ensures in
    rejected_file (shown_course c.args.course.now) name c.args.bytes.now c.bad_file.result c.bad_file.ensures.whole
    (λ s. index_none (shown_course c.args.course.now) s name c.args.bytes.now kind given)

pub returns-in-Ok-clause-whole : goal.returns-in-Ok-clause-whole
returns-in-Ok-clause-whole c =
    let kind : is_index_name c.args.name.now ≡ false = sym c.is_index.ensures ∙ c.if-is_index.false in
    λ s. blob_some (shown_course c.args.course.now) s c.args.name.now c.args.bytes.now kind c.in-Ok.field-0.now c.in-Ok.ensures

pub returns-in-Err-clause-whole : goal.returns-in-Err-clause-whole
returns-in-Err-clause-whole c =
    let name = c.args.name.now in
    let kind : is_index_name name ≡ false = sym c.is_index.ensures ∙ c.if-is_index.false in
    rejected_file (shown_course c.args.course.now) name c.args.bytes.now c.bad_file-in-Err.result c.bad_file-in-Err.ensures.whole
    (λ s. blob_none (shown_course c.args.course.now) s name c.args.bytes.now kind c.in-Err.field-0 c.in-Err.ensures)
