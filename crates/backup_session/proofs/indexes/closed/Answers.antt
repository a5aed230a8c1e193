use Rattle.std.proofs.Common.{◌≡◌, ℕ, List, Ok, sym, ap, ap₂, ◌∙◌}
use Rattle.manifest.specs.declared.facts.FileFact.{FileFact}
use Rattle.store_stops.proofs.OutcomeLemmas.{refused}
use Rattle.backup_session.specs.Calls.{TellsClosed}
use Rattle.backup_session.specs.Steps.{want_close}
use Rattle.backup_session.proofs.Numbers.{close_given}
use Rattle.backup_session.proofs.indexes.closed.Goals as goal

pub returns-in_err-want_close-clause-exact : goal.returns-in_err-want_close-clause-exact
returns-in_err-want_close-clause-exact c =
    refused (TellsClosed c.args.begun.now c.args.count c.args.size c.args.csum.now) c.from_residual.result c.in_err-want_close.field-0.0 c.from_residual.ensures.1
    (sym c.want_close.ensures.value ∙ c.in_err-want_close.was)

pub close-requires : goal.close-requires
close-requires c =
    let passed : want_close c.args.begun.now.index c.args.count c.args.size c.args.csum.now ≡ Ok tt = sym c.want_close.ensures.value ∙ c.in_ok-want_close.was in
    (close_given c.args.begun.now.index c.args.count c.args.size c.args.csum.now tt passed).2

pub returns-clause-exact : goal.returns-clause-exact
returns-clause-exact c =
    let passed : want_close c.args.begun.now.index c.args.count c.args.size c.args.csum.now ≡ Ok tt = sym c.want_close.ensures.value ∙ c.in_ok-want_close.was in
    let given = close_given c.args.begun.now.index c.args.count c.args.size c.args.csum.now tt passed in
    let fact : List ℕ → ℕ → List ℕ → FileFact = λ name size csum. record { name = name; size = size; csum = record { 0 = csum } } in (
      passed,
      c.in_ok-text.ensures,
      ap (λ name. fact name c.args.size c.args.csum.now.0) c.in_ok-name.ensures.cases ∙ ap₂ (fact c.args.begun.now.name) given.0 given.1,
    )
