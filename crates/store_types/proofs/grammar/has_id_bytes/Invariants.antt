use Rattle.std.proofs.Common.{◌≡◌, drop}
use Rattle.std.specs.List.{list_all}
use Rattle.store_types.specs.FileNames.{is_id_byte}
use Rattle.store_types.proofs.grammar.has_id_bytes.Given as goal

-- what is left decides
abbrev pub invariant-loop-b : goal.invariant-loop-b
invariant-loop-b l = list_all is_id_byte (drop l.b-index l.text) ≡ list_all is_id_byte l.text
