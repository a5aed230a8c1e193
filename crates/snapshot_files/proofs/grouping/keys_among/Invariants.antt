use Rattle.std.proofs.Common.{◌≡◌, map, take, string_bytes}
use Rattle.std.specs.List.{All, filter_map}
use Rattle.snapshot_files.specs.Grouped.{IsOfGroup, key_among}
use Rattle.snapshot_files.proofs.grouping.keys_among.Given as goal

abbrev pub invariant-loop-name : goal.invariant-loop-name
invariant-loop-name l = record {
  value : l.keys.items ≡ filter_map (key_among l.group) (map string_bytes (take l.name-index l.names));
  named : All (IsOfGroup l.group) l.keys.items;
}
