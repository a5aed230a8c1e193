use Rattle.std.proofs.Common.{◌≡◌, None, length, rules, sym, ap, ap₂, subst, ◌∙◌, arith}
use Rattle.std.specs.Prelude.{Result, option_map}
use Rattle.std.proofs.lemmas.List.{length-map}
use Rattle.store_stops.specs.Outcomes.{IfAnswered}
use Rattle.store_types.specs.declared.refusal.Refusal.{Refusal}
use Rattle.store_files.specs.Manifest.{Manifest}
use Rattle.backup_session.specs.Session.{Writing}
use Rattle.backup_session.specs.Answers.{TellsManifest}
use Rattle.backup_session.specs.Finish.{manifest_from}
use Rattle.backup_session.specs.Kept.{open_of}
use Rattle.backup_session.proofs.FinishChecks.{finish_open, finish_none, finish_data}
use Rattle.backup_session.proofs.state.State.finish_check.Goals as goal

pub returns-then-count-gt0-clause-does : goal.returns-then-count-gt0-clause-does
returns-then-count-gt0-clause-does c =
    let begun = c.self.inside.begun in
    let len : c.len-count.result ≡ length begun.items = omega (arith, c.len-count.ensures, begun.ok.0) in
    let count = len ∙ sym (length-map begun.items open_of) ∙ ap (λ (x : Writing). length x.begun) c.self.view_is in
    finish_open c.args.self.now c.len-count.result count c.if-count-gt0.true

pub returns-in_default-clause-does : goal.returns-in_default-clause-does
returns-in_default-clause-does c =
    let begun = c.self.inside.begun in
    let len : c.len-count.result ≡ length begun.items = omega (arith, c.len-count.ensures, begun.ok.0) in
    let count = len ∙ sym (length-map begun.items open_of) ∙ ap (λ (x : Writing). length x.begun) c.self.view_is in
    let none : length c.args.self.now.begun ≡ 0 = omega (arith, count, c.if-count-gt0.false) in
    let no_text : c.manifest.result ≡ None = search rules in
    finish_none c.args.self.now none (sym c.manifest.ensures ∙ ap (option_map (λ text. text.now)) no_text)

pub returns-clause-does : goal.returns-clause-does
returns-clause-does c =
    let w = c.args.self.now in
    let bytes = c.in-Ok.bytes.now in
    let begun = c.self.inside.begun in
    let len : c.len-count.result ≡ length begun.items = omega (arith, c.len-count.ensures, begun.ok.0) in
    let count = len ∙ sym (length-map begun.items open_of) ∙ ap (λ (x : Writing). length x.begun) c.self.view_is in
    let none : length w.begun ≡ 0 = omega (arith, count, c.if-count-gt0.false) in
    let told = finish_data w c.in-Some.text.now bytes none c.in-Some.ensures c.in-Ok.ensures in
    let key = ap (λ (x : Writing). x.key) (sym c.self.view_is) in
    let files = ap (λ (x : Writing). x.files) (sym c.self.view_is) ∙ sym c.deref.ensures.value in
    subst (λ (r : Result Manifest Refusal). IfAnswered c.checked_manifest.result (TellsManifest r))
    (sym (told ∙ ap₂ (λ k fs. manifest_from k fs bytes) key files)) c.checked_manifest.ensures.value
