use Rattle.std.proofs.Common.{◌≡◌, ℕ, List, ◌++◌, take}
use Rattle.replay.specs.Comparing.{outcome}
use Rattle.replay.proofs.comparing.Comparing.take_all.Given as goal

abbrev pub invariant-loop-byte : goal.invariant-loop-byte
invariant-loop-byte l = (kept : List ℕ) → outcome l.self kept ≡ outcome l.fn.self (take l.byte-index l.kept ++ kept)
