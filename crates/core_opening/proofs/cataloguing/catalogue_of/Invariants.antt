use Rattle.std.proofs.Common.{◌+◌, length}
use Rattle.core_state.specs.Numbers.{first_number}
use Rattle.core_opening.specs.Opening.{AreInserted}
use Rattle.core_opening.proofs.Numbered.{AreBelow}
use Rattle.core_opening.proofs.cataloguing.catalogue_of.Given as goal

abbrev pub invariant-loop-found : goal.invariant-loop-found
invariant-loop-found l = record {
  listed : AreInserted l.yielded l.catalogue.listed;
  numbers : AreBelow (first_number + length l.catalogue.listed) l.catalogue.listed;
}
