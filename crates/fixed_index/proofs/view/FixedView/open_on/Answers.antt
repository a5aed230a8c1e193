use Rattle.std.proofs.Common.{ap, sym, ◌∙◌, arith}
use Rattle.store_files.specs.FixedIndex.{fields_of}
use Rattle.fixed_index.proofs.Faults.{outcome, fixed_of-fault, is_index}
use Rattle.fixed_index.proofs.Spelling.{fixed_text-fields}
use Rattle.fixed_index.proofs.view.FixedView.open_on.Goals as goal

pub returns-in-Some-clause-exact : goal.returns-in-Some-clause-exact
returns-in-Some-clause-exact c = fixed_of-fault c.args.bytes.now ∙ ap (outcome (fields_of c.args.bytes.now)) (sym c.in-Some.ensures)

pub returns-in-None-clause-exact : goal.returns-in-None-clause-exact
returns-in-None-clause-exact c = fixed_of-fault c.args.bytes.now ∙ ap (outcome (fields_of c.args.bytes.now)) (sym c.in-None.ensures)

pub invariant_of-result : goal.invariant_of-result
invariant_of-result c = is_index c.args.bytes.now (sym c.in-None.ensures)

pub returns-in-None-clause-text : goal.returns-in-None-clause-text
returns-in-None-clause-text c =
    fixed_text-fields c.args.bytes.now (λ i. omega (arith, c.type_inv.bytes i)) (is_index c.args.bytes.now (sym c.in-None.ensures))
