-- What reads and writes do to the bytes that a source has left and those that a sink has taken, where
-- these are told.
use Rattle.std.specs.Prelude.{◌≡◌, ℕ, ◌+◌, ◌-◌, ◌^◌, ◌<◌, ◌↔◌, min, List, [], length, take, Option, IfSome, Bool, MatchBool, Result, IfOk, is_ok}
use Rattle.std.specs.Io.KnownBytes.{prepend_known, append_known}
use Rattle.port_traits.specs.Faults.{Rose}

-- These bytes were the first that were left.
abbrev pub TakesFrom : Option (List ℕ) → Option (List ℕ) → List ℕ → Type 0
TakesFrom old new bytes = old ≡ prepend_known bytes new

-- What was taken has these bytes more at its end.
abbrev pub AddsTo : Option (List ℕ) → Option (List ℕ) → List ℕ → Type 0
AddsTo old new bytes = new ≡ append_known old bytes

-- Whether so many of the bytes were all of them, or fewer.
abbrev pub IsCountOf : Bool → List ℕ → ℕ → Type 0
IsCountOf all bytes n = MatchBool all (n ≡ length bytes) (n < length bytes)

-- All of the bytes were taken, or a front of them.
pub record Writes (old new : Option (List ℕ)) (bytes : List ℕ) (all : Bool) : Type 0 where
  pub count : ℕ
  pub how_many : IsCountOf all bytes count
  pub added : AddsTo old new (take count bytes)

-- The same, and how many were taken was added to a count, which stops at 2^64 - 1.
pub record WritesCounted (old new : Option (List ℕ)) (before after : ℕ) (bytes : List ℕ) (all : Bool) : Type 0 where
  pub count : ℕ
  pub how_many : IsCountOf all bytes count
  pub added : AddsTo old new (take count bytes)
  pub counted : after ≡ min (before + count) (2 ^ 64 - 1)

-- ---- by the source and the sink, before and after

module _ {S : Type 0} (left : S → Option (List ℕ)) where
  -- the bytes that were read, in front of these, were the first that were left
  abbrev pub GivesFront : {E : Type 0} → S → S → List ℕ → Result ℕ E → Type 0
  GivesFront old new bytes result = IfOk result (λ n. TakesFrom (left old) (left new) (take n bytes))

  -- no byte is read into some room just where none was left
  abbrev pub NoneIsEnd : {E : Type 0} → S → List ℕ → Result ℕ E → Type 0
  NoneIsEnd old room result = IfOk result (λ n. 0 < length room → IfSome (left old) (λ xs. (n ≡ 0) ↔ (xs ≡ [])))

module _ {K : Type 0} (taken : K → Option (List ℕ)) where
  -- so many of these bytes were taken, from the front
  abbrev pub TakesFront : {E : Type 0} → K → K → List ℕ → Result ℕ E → Type 0
  TakesFront old new bytes result = IfOk result (λ n. AddsTo (taken old) (taken new) (take n bytes))

  -- all of these bytes were taken where the call did not fail, with a count of them
  abbrev pub PutsCounted : {A E : Type 0} → K → K → ℕ → ℕ → List ℕ → Result A E → Type 0
  PutsCounted old new before after bytes result = WritesCounted (taken old) (taken new) before after bytes (is_ok result)

-- to take none of some bytes is a fault
abbrev pub NoneIsFault : {K E : Type 0} → (K → ℕ) → K → K → List ℕ → Result ℕ E → Type 0
NoneIsFault faults old new bytes result = IfOk result (λ n. n ≡ 0 → 0 < length bytes → Rose (faults old) (faults new))
