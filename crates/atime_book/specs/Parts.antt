-- The parts of a book: its chunks by the first bytes of their digests.
use Rattle.std.specs.Prelude.{◌≡◌, ℕ, suc, ◌<◌, ◌≤◌, List, [], ◌∷◌, Result, MatchResult, Vec, length, map, slice_index, ◌⊎◌}
use Rattle.std.specs.declared.alloc.Global.{Global}
use Rattle.std.specs.declared.cmp.Ordering.{Ordering}
use Rattle.std.specs.declared.cmp.Ordering.TheVariants.{Less, Greater}
use Rattle.std.specs.List.{All, AllWithin, HoldsAt, flat_map}
use Rattle.std.specs.List.Sorted.{IsStrictlySortedBy}
use Rattle.store_types.specs.declared.names.Digest32.{Digest32}
use Rattle.store_types.specs.Names.{text_cmp}
use Rattle.store_files.specs.Book.{Touch}
use Rattle.atime_book.specs.declared.parts.Touched.{Touched}

-- the order of digests
abbrev pub digest_cmp : Digest32 → Digest32 → Ordering
digest_cmp a b = text_cmp a.0 b.0

-- the number of the part that a digest belongs to: its first byte
abbrev pub number_of : List ℕ → ℕ
number_of digest = slice_index digest 0

abbrev pub as_touch : Touched → Touch
as_touch t = record { digest = t.digest.0; moment = t.moment }

abbrev pub touches_of : List Touched → List Touch
touches_of touched = map as_touch touched

-- the chunks of all parts in turn
abbrev pub joined : List (Vec Touched Global) → List Touched
joined parts = flat_map (λ part. part.items) parts

-- each digest is above the one before it
abbrev pub IsRising : List Touched → Type 0
IsRising touched = IsStrictlySortedBy digest_cmp (map (λ t. t.digest) touched)

-- The digests rise, and each begins with the part's number.
pub record IsPart (number : ℕ) (touched : List Touched) : Type 0 where
  pub rise : IsRising touched
  pub own : All (λ t. number_of t.digest.0 ≡ number) touched

abbrev pub ArePartsFrom : ℕ → List (Vec Touched Global) → Type 0
ArePartsFrom number [] = Unit {0}
ArePartsFrom number (part ∷ parts) = IsPart number part.items × ArePartsFrom (suc number) parts

-- There are no parts or one for each byte, each has the chunks whose digests begin with that byte, and all have so many.
pub record IsParted (parts : List (Vec Touched Global)) (count : ℕ) : Type 0 where
  pub bytes : (length parts ≡ 0) ⊎ (length parts ≡ 256)
  pub each : ArePartsFrom 0 parts
  pub counted : count ≡ length (joined parts)

-- a part for each byte, without chunks
pub record AreEmpty (parts : List (Vec Touched Global)) : Type 0 where
  pub bytes : length parts ≡ 256
  pub empty : All (λ part. part.items ≡ []) parts

-- the digest is that of the chunk at a place
pub record StandsAt (touched : List Touched) (digest : List ℕ) (place : ℕ) : Type 0 where
  pub within : place < length touched
  pub same : HoldsAt (λ t. t.digest.0 ≡ digest) touched place

-- it would stand there: those before are below it, and the others above
pub record GoesTo (touched : List Touched) (digest : List ℕ) (place : ℕ) : Type 0 where
  pub within : place ≤ length touched
  pub below : AllWithin (λ t. text_cmp t.digest.0 digest ≡ Less) touched 0 place
  pub above : AllWithin (λ t. text_cmp t.digest.0 digest ≡ Greater) touched place (length touched)

abbrev pub IsPlace : List Touched → List ℕ → Result ℕ ℕ → Type 0
IsPlace touched digest found = MatchResult found (StandsAt touched digest) (GoesTo touched digest)
