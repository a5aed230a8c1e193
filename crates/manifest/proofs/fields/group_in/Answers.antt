use Rattle.std.proofs.Common.{◌≡◌, ◌++◌, sym, ap, ◌∙◌}
use Rattle.std.specs.Prelude.{codes}
use Rattle.serde_json.specs.View.{view}
use Rattle.store_types.specs.Names.{group_of}
use Rattle.manifest.proofs.Groups.{group_in-texts}
use Rattle.manifest.proofs.fields.group_in.Goals as goal

pub returns : goal.returns
returns c =
    let text : c.as_bytes.result.now ≡ (c.in-Some.kind.now ++ codes "/") ++ c.in-Some-text_in.id.now =
    c.as_bytes.ensures.value ∙ c.in_ok-push_str-2.ensures.bytes ∙ ap (λ front. front ++ c.in-Some-text_in.id.now) (c.in_ok-push_str.ensures.bytes ∙ ap (λ front. front ++ codes "/") c.in_ok-text.ensures.ok) in
    c.ok.ensures.value ∙ c.in_ok-parse.ensures.value ∙ ap group_of text
    ∙ sym (group_in-texts (view c.args.json.now) c.in-Some.kind.now c.in-Some-text_in.id.now (sym c.in-Some.ensures) (sym c.in-Some-text_in.ensures))
