-- What a step of a job does to the plain store, and what is replied.
use Rattle.std.specs.Prelude.{ℕ}
use Rattle.store_model.specs.declared.step.Step.{Step}
use Rattle.store_model.specs.declared.step.Step.TheVariants as steps
use Rattle.store_model.specs.Store.{Store, Outcome}
use Rattle.store_model.specs.ReaderSteps.{read_file, read_chunk}
use Rattle.store_model.specs.Steps.{outcome}

abbrev pub step_outcome : Store → ℕ → ℕ → Step → Outcome
step_outcome s lane moment (steps.Command c) = outcome s lane moment c
step_outcome s lane moment (steps.ReadFile name offset) = read_file s lane name offset
step_outcome s lane moment (steps.ReadChunk name entry) = read_chunk s lane name entry
