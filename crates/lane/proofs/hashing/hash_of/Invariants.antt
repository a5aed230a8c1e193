use Rattle.std.proofs.Common.{◌≡◌, ◌++◌, ℕ, List}
use Rattle.std.specs.Slice.Iter.{chunks_rest, chunks_size}
use Rattle.sha2.specs.Hashers.{Holds256}
use Rattle.lane.proofs.hashing.hash_of.Given as goal

abbrev pub invariant-loop-part : goal.invariant-loop-part
invariant-loop-part g l =
    (goal.iterator-loop-part g).can_next l.part-iterator
    × (goal.iterator-loop-part g).is_finite l.part-iterator
    × (chunks_size l.part-iterator ≡ 65536)
    × ((done : List ℕ) × Holds256 l.hasher done × (done ++ chunks_rest l.part-iterator ≡ l.fn.piece))
