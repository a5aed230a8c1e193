use Rattle.std.proofs.Common.{◌≡◌, map, take}
use Rattle.std.specs.List.{All}
use Rattle.store_types.specs.Names.{key_text}
use Rattle.core_admin.specs.Listings.{IsShort}
use Rattle.core_admin.proofs.groups.texts_of.Given as goal

abbrev pub invariant-loop-snapshot : goal.invariant-loop-snapshot
invariant-loop-snapshot l = record {
  found : l.texts.items ≡ map (λ x. key_text (x.kept).key) (take l.snapshot-index l.first);
  short : All IsShort l.texts.items;
}
