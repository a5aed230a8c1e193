use Rattle.std.proofs.Common.{◌≡◌, None, Some, Ok, Err, rules, sym, ap, ◌∙◌}
use Rattle.std.specs.List.{find}
use Rattle.std.specs.Option.{option_map}
use Rattle.std.specs.Str.{bytes_eq}
use Rattle.store_model.specs.ReaderSteps.{want_range}
use Rattle.restore_reader.specs.Session.{Reading}
use Rattle.restore_reader.specs.Steps.{noted_as, range_plan}
use Rattle.restore_reader.proofs.Plainly.{plan_none, plan_noted, refused}
use Rattle.restore_reader.proofs.reader.Reader.plan.Goals as goal

pub returns-in_default-clause-does : goal.returns-in_default-clause-does
returns-in_default-clause-does c =
    let s = c.args.self.now in
    let name = c.args.name.now in
    let same : c.deref.result.now ≡ s.noted = c.deref.ensures.value ∙ ap (λ (t : Reading). t.noted) c.self.view_is in
    let none : c.index_named.result ≡ None = search rules in
    plan_none s name c.args.offset c.args.length
    (sym (c.index_named.ensures ∙ ap (find (λ x. bytes_eq name x.name)) same) ∙ ap (option_map (λ x. x.now)) none)

pub returns-in_err-want_range-clause-does : goal.returns-in_err-want_range-clause-does
returns-in_err-want_range-clause-does c =
    let s = c.args.self.now in
    let name = c.args.name.now in
    let same : c.deref.result.now ≡ s.noted = c.deref.ensures.value ∙ ap (λ (t : Reading). t.noted) c.self.view_is in
    let there : noted_as s name ≡ Some c.in-Some.index.now = sym (c.index_named.ensures ∙ ap (find (λ x. bytes_eq name x.name)) same) ∙ ap (option_map (λ x. x.now)) c.in-Some.is in
    let refusal = c.in_err-want_range.field-0.0 in
    refused (range_plan s name c.args.offset c.args.length) c.from_residual.result refusal c.from_residual.ensures.1
    (plan_noted s name c.in-Some.index.now c.args.offset c.args.length (Err refusal) there
    (ap (λ size. want_range size c.args.offset c.args.length) (sym c.size.ensures) ∙ sym c.want_range.ensures.value ∙ c.in_err-want_range.was))

pub returns-clause-does : goal.returns-clause-does
returns-clause-does c =
    let s = c.args.self.now in
    let name = c.args.name.now in
    let same : c.deref.result.now ≡ s.noted = c.deref.ensures.value ∙ ap (λ (t : Reading). t.noted) c.self.view_is in
    let there : noted_as s name ≡ Some c.in-Some.index.now = sym (c.index_named.ensures ∙ ap (find (λ x. bytes_eq name x.name)) same) ∙ ap (option_map (λ x. x.now)) c.in-Some.is in
    let passed : want_range c.size.result c.args.offset c.args.length ≡ Ok tt = sym c.want_range.ensures.value ∙ c.in_ok-want_range.was in
    plan_noted s name c.in-Some.index.now c.args.offset c.args.length (Ok tt) there
    (ap (λ size. want_range size c.args.offset c.args.length) (sym c.size.ensures) ∙ passed)
    ∙ ap (λ p. Ok p) (sym c.pages.ensures)
