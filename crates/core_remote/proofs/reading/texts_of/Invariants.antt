use Rattle.std.proofs.Common.{◌≡◌, ◌≤◌, length, map, take}
use Rattle.std.specs.List.{All}
use Rattle.store_types.specs.Names.{key_text}
use Rattle.core_remote.specs.RemoteActs.{IsShort}
use Rattle.core_remote.proofs.reading.texts_of.Given as goal

abbrev pub invariant-loop-key : goal.invariant-loop-key
invariant-loop-key l = record {
  value : l.texts.items ≡ map key_text (take l.key-index l.keys);
  count : length l.texts.items ≡ l.key-index;
  few : length l.texts.items ≤ 4096;
  short : All IsShort l.texts.items;
}
