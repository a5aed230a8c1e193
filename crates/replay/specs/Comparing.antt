-- A lane's comparison that goes on, byte by byte.
use Rattle.std.specs.Prelude.{◌≡◌, ℕ, Bool, false, ◌||◌, ◌==◌, List, ◌++◌, drop, Option, Some, None}
use Rattle.plain_store.specs.declared.frees.Free.{Free}
use Rattle.replay.specs.declared.difference.Unequal.{Unequal}
use Rattle.replay.specs.declared.comparing.Comparing.{Comparing}
use Rattle.replay.specs.Compare.{differs_from, is_free}

-- what it comes to where these bytes follow
abbrev pub outcome : Comparing → List ℕ → Option Unequal
outcome c kept = elim c.found [ Some u ↦ Some u | None ↦ differs_from c.frees.now c.lane c.place (drop c.place c.replayed.now) kept ]

-- whether this may be kept where that is replayed
abbrev pub meets : List Free → ℕ → ℕ → Option ℕ → ℕ → Bool
meets frees lane place None kept = false
meets frees lane place (Some byte) kept = (byte == kept) || is_free frees lane place

-- these bytes were the next
abbrev pub Takes : Comparing → Comparing → List ℕ → Type 0
Takes old new bytes = (kept : List ℕ) → outcome new kept ≡ outcome old (bytes ++ kept)

-- it has begun at the first byte
abbrev pub Begins : Comparing → ℕ → List ℕ → List Free → Type 0
Begins c lane replayed frees = (kept : List ℕ) → outcome c kept ≡ differs_from frees lane 0 replayed kept
