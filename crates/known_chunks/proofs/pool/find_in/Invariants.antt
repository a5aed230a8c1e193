use Rattle.std.proofs.Common.{◌≡◌, drop}
use Rattle.known_chunks.specs.Lengths.{found_in}
use Rattle.known_chunks.proofs.pool.find_in.Given as goal

abbrev pub invariant-loop-known : goal.invariant-loop-known
invariant-loop-known l = found_in l.digest.0 (drop l.known-index l.maps) ≡ found_in l.digest.0 l.maps
