use Rattle.std.proofs.Common.{◌≡◌, ◌++◌, drop, IsTrue}
use Rattle.store_files.specs.DynamicIndex.{steps_fit}
use Rattle.restore_reader.specs.Plan.{ends_of, parts_in}
use Rattle.restore_reader.proofs.ranges.parts_of_page.Given as goal

abbrev pub invariant-loop-entry : goal.invariant-loop-entry
invariant-loop-entry l = record {
  so_far : l.parts.items ++ parts_in l.from l.to l.reached (ends_of (drop l.entry-index l.entries)) ≡ parts_in l.from l.to l.start (ends_of l.entries);
  steps : IsTrue (steps_fit l.reached (ends_of (drop l.entry-index l.entries)));
}
