use Rattle.std.proofs.Common.{◌≡◌, map}
use Rattle.std.specs.Prelude.{All}
use Rattle.store_types.specs.Names.{key_text}
use Rattle.wire_commands.specs.HasText.{IsText}
use Rattle.plain_snapshots.proofs.listing.group_texts.Given as goal

abbrev pub invariant-loop-snapshot : goal.invariant-loop-snapshot
invariant-loop-snapshot l = (l.texts.items ≡ map (λ x. key_text x.now.key) l.yielded) × All IsText l.texts.items
