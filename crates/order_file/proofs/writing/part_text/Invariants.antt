use Rattle.std.proofs.Common.{◌≡◌, take}
use Rattle.std.specs.List.{flat_map}
use Rattle.store_files.specs.Order.{entry_text}
use Rattle.order_file.proofs.writing.part_text.Given as goal

abbrev pub invariant-loop-entry : goal.invariant-loop-entry
invariant-loop-entry l = l.text.items ≡ flat_map entry_text (take l.entry-index l.part)
