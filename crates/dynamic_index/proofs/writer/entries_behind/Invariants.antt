use Rattle.std.proofs.Common.{◌≡◌, All, length, ◌≤◌, ◌+◌, ◌*◌, ◌++◌, drop}
use Rattle.dynamic_index.specs.Entries.{ends_of}
use Rattle.dynamic_index.specs.Writing.{ends_behind}
use Rattle.dynamic_index.proofs.writer.entries_behind.Given as goal

abbrev pub invariant-loop-piece : goal.invariant-loop-piece
invariant-loop-piece l = record {
  so_far : ends_of l.entries.items ++ ends_behind l.end (drop l.piece-index l.pieces) ≡ ends_behind l.fn.start l.pieces;
  digests : All (λ e. length e.digest ≡ 32) (ends_of l.entries.items);
  limit : l.end ≤ l.fn.start + l.piece-index * 4_294_967_296;
}
