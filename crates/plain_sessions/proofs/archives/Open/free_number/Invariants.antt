use Rattle.std.proofs.Common.{◌≡◌, ◌-◌, map}
use Rattle.store_model.specs.Archives.{free_from, free_number}
use Rattle.plain_sessions.proofs.archives.Open.free_number.Given as goal

abbrev pub invariant-loop-number : goal.invariant-loop-number
invariant-loop-number l = free_from (16 - l.number) l.number (map (λ b. b.number) l.self) ≡ free_number (map (λ b. b.number) l.self)
