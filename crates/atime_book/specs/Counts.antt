-- How many chunks of the book were touched at a moment or later.
use Rattle.std.specs.Prelude.{◌≡◌, ◌≢◌, ◌↔◌, ℕ, Bool, false, not, List, length, filter, nat_le, Option, Some, None, IsSome}
use Rattle.std.specs.List.{AllPairs, Contains}
use Rattle.store_files.specs.Book.{Book}
use Rattle.atime_book.specs.Touches.{last_of}

-- these are the book's chunks, each once
pub record ListsBook (book : Book) (digests : List (List ℕ)) : Type 0 where
  pub once : AllPairs (λ a b. a ≢ b) digests
  pub each : (d : List ℕ) → IsSome (last_of book d) ↔ Contains digests d

abbrev pub is_since : ℕ → Option ℕ → Bool
is_since start None = false
is_since start (Some when) = nat_le start when

-- of these chunks, those that were touched at the start or later, and the others
abbrev pub used_among : Book → ℕ → List (List ℕ) → ℕ
used_among book start digests = length (filter (λ d. is_since start (last_of book d)) digests)

abbrev pub pending_among : Book → ℕ → List (List ℕ) → ℕ
pending_among book start digests = length (filter (λ d. not (is_since start (last_of book d))) digests)

-- so many of the book's chunks were touched at the start or later, and so many were not, however they are listed
pub record Divides (book : Book) (start used pending : ℕ) : Type 0 where
  pub used_is : (digests : List (List ℕ)) → ListsBook book digests → used ≡ used_among book start digests
  pub pending_is : (digests : List (List ℕ)) → ListsBook book digests → pending ≡ pending_among book start digests
