use Rattle.std.proofs.Common.{ap, ◌∙◌, arith}
use Rattle.dynamic_index.specs.Pieces.{last_end, size_of}
use Rattle.dynamic_index.specs.Entries.{ends_of}
use Rattle.dynamic_index.proofs.LastEntry.{last_is}
use Rattle.dynamic_index.proofs.Steps.{last_end_small}
use Rattle.dynamic_index.proofs.writer.DynamicWriter.end.Goals as goal

pub returns-in-Some-clause-value : goal.returns-in-Some-clause-value
returns-in-Some-clause-value c = last_is c.deref.result.now c.in-Some.entry.now c.in-Some.ensures.value ∙ ap (λ es. last_end 0 (ends_of es)) c.deref.ensures.value ∙ ap size_of c.self.view_is

pub returns-in-Some-clause-limit : goal.returns-in-Some-clause-limit
returns-in-Some-clause-limit c =
    let end = last_is c.deref.result.now c.in-Some.entry.now c.in-Some.ensures.value ∙ ap (λ es. last_end 0 (ends_of es)) c.deref.ensures.value in
    omega (arith, end, last_end_small 0 (ends_of c.self.inside.entries.items) c.self.invariant.steps, c.self.invariant.limit)
