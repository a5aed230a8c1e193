-- Ports that are read to their end.
use Rattle.std.specs.Prelude.{◌≡◌, ℕ, ◌+◌, ◌^◌, ◌<◌, ◌≤◌, List, [], length, take, Option, IfSome, Result, Ok, Err, Vec, slice_get}
use Rattle.std.specs.declared.alloc.Global.{Global}
use Rattle.port_traits.specs.Bytes.{TakesFrom}
use Rattle.port_traits.specs.Faults.{Rose}
use Rattle.replay.specs.declared.reading.Unread.{Unread}
use Rattle.replay.specs.declared.reading.Unread.TheVariants as unread

-- where it is told what is left, nothing is
abbrev pub IsAtEnd : Option (List ℕ) → Type 0
IsAtEnd left = IfSome left (λ xs. xs ≡ [])

-- all that was left was read, and this is told of it
pub record IsReadOut {A : Type 0} (left left' : Option (List ℕ)) (tells : List ℕ → A → Type 0) (told : A) : Type 0 where
  pub all : List ℕ
  pub took : TakesFrom left left' all
  pub ended : IsAtEnd left'
  pub within : length all < 2 ^ 40
  pub holds : tells all told

-- as many bytes were read as are too many
pub record IsTooLong (left left' : Option (List ℕ)) : Type 0 where
  pub front : List ℕ
  pub took : TakesFrom left left' front
  pub many : length front ≡ 2 ^ 40

abbrev pub ReadsOut : {A : Type 0} → Option (List ℕ) → Option (List ℕ) → (List ℕ → A → Type 0) → Result A Unread → Type 0
ReadsOut left left' tells (Ok told) = IsReadOut left left' tells told
ReadsOut left left' tells (Err unread.TooLong) = IsTooLong left left'
ReadsOut left left' tells (Err unread.Failed) = Unit {0}
ReadsOut left left' tells (Err unread.NoMemory) = Unit {0}

-- a piece, behind so many bytes: none at the end alone
pub record IsPiece (left left' : Option (List ℕ)) (taken : ℕ) (piece : List ℕ) (n : ℕ) : Type 0 where
  pub bound : n ≤ length piece
  pub took : TakesFrom left left' (take n piece)
  pub before : taken < 2 ^ 40
  pub within : taken + n ≤ 2 ^ 40
  pub ended : n ≡ 0 → IsAtEnd left'

abbrev pub ReadsPiece : Option (List ℕ) → Option (List ℕ) → ℕ → List ℕ → Result ℕ Unread → Type 0
ReadsPiece left left' taken piece (Ok n) = IsPiece left left' taken piece n
ReadsPiece left left' taken piece (Err unread.TooLong) = (left' ≡ left) × (taken ≡ 2 ^ 40)
ReadsPiece left left' taken piece (Err unread.Failed) = Unit {0}
ReadsPiece left left' taken piece (Err unread.NoMemory) = ⊥

-- the count of faults never falls, and the source is said to have failed only where it rose
pub record HasReadCause {A : Type 0} (before now : ℕ) (result : Result A Unread) : Type 0 where
  pub later : before ≤ now
  pub failed : result ≡ Err unread.Failed → Rose before now

-- ---- what is told of all that was read

abbrev pub IsAll : List ℕ → Vec ℕ Global → Type 0
IsAll all bytes = bytes.items ≡ all

abbrev pub IsByteAt : ℕ → List ℕ → Option ℕ → Type 0
IsByteAt place all byte = byte ≡ slice_get all place
