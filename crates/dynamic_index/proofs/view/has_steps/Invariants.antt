use Rattle.std.proofs.Common.{◌≡◌, drop}
use Rattle.store_files.specs.DynamicIndex.{fields_of, steps_fit}
use Rattle.dynamic_index.proofs.view.has_steps.Given as goal

abbrev pub invariant-loop-i : goal.invariant-loop-i
invariant-loop-i l = steps_fit l.start (drop l.i (fields_of l.bytes).entries) ≡ steps_fit 0 (fields_of l.bytes).entries
