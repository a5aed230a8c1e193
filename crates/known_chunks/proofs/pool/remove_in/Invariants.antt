use Rattle.std.proofs.Common.{◌≡◌, ◌++◌, map, take, drop}
use Rattle.std.specs.FinMap.{remove}
use Rattle.known_chunks.proofs.pool.remove_in.Given as goal

abbrev pub invariant-loop-known : goal.invariant-loop-known
invariant-loop-known l = l.maps ≡ map (λ m. remove m l.digest.0) (take l.known-index l.fn.maps) ++ drop l.known-index l.fn.maps
