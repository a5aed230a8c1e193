-- Which calls of a disk fail on purpose.
use Rattle.std.specs.Prelude.{◌==◌, nat_le, ℕ, Bool}
use Rattle.std.specs.List.{list_any}
use Rattle.disk_trait.specs.declared.failing.Plan.{Plan}
use Rattle.disk_trait.specs.declared.failing.Plan.TheVariants.{Calls, StopAfter}

-- whether the call fails before which there were so many
abbrev pub fails_at : Plan → ℕ → Bool
fails_at (Calls numbers) made = list_any (λ n. n == made) numbers.items
fails_at (StopAfter count) made = nat_le count made
