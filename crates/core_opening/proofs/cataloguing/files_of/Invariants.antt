use Rattle.std.proofs.Common.{◌≡◌, ◌++◌, map}
use Rattle.core_opening.specs.Opening.{stored_at}
use Rattle.core_opening.proofs.cataloguing.files_of.Given as goal

abbrev pub invariant-loop-name : goal.invariant-loop-name
invariant-loop-name l = l.files.items ++ map (stored_at l.key) l.name-iterator ≡ map (stored_at l.key) (l.fn.names).keys
