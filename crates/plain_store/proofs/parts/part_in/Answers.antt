use Rattle.std.proofs.Common.{◌≡◌, ◌∙◌, Err, ap, sym, rules}
use Rattle.std.specs.Prelude.{option_map}
use Rattle.store_files.specs.Archive.{File, file_text, file_named}
use Rattle.plain_sessions.proofs.Stopping.{gives_stop}
use Rattle.plain_store.specs.Parts.{part_from, file_part}
use Rattle.plain_store.proofs.PartLemmas.{part_none, part_refused, part_found}
use Rattle.plain_store.proofs.parts.part_in.Goals as goal

pub returns-in_default-clause-gives : goal.returns-in_default-clause-gives
returns-in_default-clause-gives c =
    let files = c.args.files.now in
    let name = c.args.name.now in
    let none = sym (c.file_named.ensures ∙ ap (λ n. file_named n files) c.as_slice.ensures.value) ∙ ap (option_map (λ f. f.now)) c.in_default.is in
    part_none files name c.args.offset none

pub returns-in_err-part-clause-gives : goal.returns-in_err-part-clause-gives
returns-in_err-part-clause-gives c =
    let files = c.args.files.now in
    let name = c.args.name.now in
    let f = c.in-Some.file.now in
    let there = sym (c.file_named.ensures ∙ ap (λ n. file_named n files) c.as_slice.ensures.value) ∙ ap (option_map (λ f. f.now)) c.in-Some.is in
    let text = c.in_ok-text.ensures ∙ ap (λ (g : File). file_text g.content) c.file.view_is in
    let is : c.from_residual-in_err-part.result ≡ Err c.in_err-part.field-0.0 = search rules in
    gives_stop (λ x. (x.0.now, x.1)) (λ x. x) _ c.in_err-part.field-0.0 (file_part files name c.args.offset) (part_from c.in_ok-text.text.items c.args.offset) is c.in_err-part.ensures.gives
    (λ r h. part_refused files name c.args.offset f there r (ap (λ t. part_from t c.args.offset) (sym text) ∙ h))

pub returns-clause-gives : goal.returns-clause-gives
returns-clause-gives c =
    let files = c.args.files.now in
    let name = c.args.name.now in
    let f = c.in-Some.file.now in
    let there = sym (c.file_named.ensures ∙ ap (λ n. file_named n files) c.as_slice.ensures.value) ∙ ap (option_map (λ f. f.now)) c.in-Some.is in
    let text = c.in_ok-text.ensures ∙ ap (λ (g : File). file_text g.content) c.file.view_is in
    part_found files name c.args.offset f there c.in_ok-part.part (ap (λ t. part_from t c.args.offset) (sym text) ∙ c.in_ok-part.ensures.gives)
