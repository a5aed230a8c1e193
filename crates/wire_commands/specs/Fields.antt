-- The fields of a body: how each is spelled, and how it is read from the front.
use Rattle.std.specs.Prelude.{ℕ, ◌≤◌, zero, suc, Bool, true, false, List, [], ◌∷◌, ◌++◌, length, take, drop, ◌==◌, nat_lt, if◌then◌else◌, Option, Some, None, IsSome, Result, OnErr}
use Rattle.std.specs.Int.{Width, w16, w32, w64, byte_len, to_le_bytes, from_le_bytes}
use Rattle.std.specs.List.{flat_map}
use Rattle.store_types.specs.declared.names.Digest32.{Digest32}
use Rattle.store_types.specs.Chain.Reading.{◌>>=◌}

abbrev pub u16 : ℕ → List ℕ
u16 n = to_le_bytes w16 n

abbrev pub u32 : ℕ → List ℕ
u32 n = to_le_bytes w32 n

abbrev pub u64 : ℕ → List ℕ
u64 n = to_le_bytes w64 n

-- one byte of length, and that many bytes
abbrev pub text : List ℕ → List ℕ
text t = length t ∷ t

abbrev pub flag : Bool → List ℕ
flag false = 0 ∷ []
flag true = 1 ∷ []

-- values behind their count in two bytes
abbrev pub rows : {A : Type 0} → (A → List ℕ) → List A → List ℕ
rows spelled xs = u16 (length xs) ++ flat_map spelled xs

-- values behind their count in one byte
abbrev pub few_rows : {A : Type 0} → (A → List ℕ) → List A → List ℕ
few_rows spelled xs = length xs ∷ flat_map spelled xs

-- ---- reading: a value, and the bytes after it

abbrev pub Read : Type 0 → Type 0
Read A = Option (A × List ℕ)

-- the value, where nothing is left
abbrev pub whole : {A : Type 0} → Read A → Option A
whole None = None
whole (Some found) = if length found.1 == 0 then Some found.0 else None

abbrev pub byte_at : List ℕ → Read ℕ
byte_at [] = None
byte_at (b ∷ rest) = Some (b, rest)

abbrev pub bytes_at : ℕ → List ℕ → Read (List ℕ)
bytes_at n bytes = if nat_lt (length bytes) n then None else Some (take n bytes, drop n bytes)

abbrev pub number_at : Width → List ℕ → Read ℕ
number_at w bytes = do
  n ← bytes_at (byte_len w) bytes
  Some (from_le_bytes w n.0, n.1)

abbrev pub digest_at : List ℕ → Read Digest32
digest_at bytes = do
  d ← bytes_at 32 bytes
  Some (record { 0 = d.0 }, d.1)

abbrev pub text_at : List ℕ → Read (List ℕ)
text_at bytes = do
  n ← byte_at bytes
  bytes_at n.0 n.1

abbrev pub flag_from : ℕ → Option Bool
flag_from n =
    if n == 0 then Some false else
    if n == 1 then Some true else
    None

abbrev pub flag_at : List ℕ → Read Bool
flag_at bytes = do
  n ← byte_at bytes
  set ← flag_from n.0
  Some (set, n.1)

-- n values one after another
unfoldable pub many_at : {A : Type 0} → (List ℕ → Read A) → ℕ → List ℕ → Read (List A)
many_at read zero bytes = Some ([], bytes)
many_at read (suc n) bytes = do
  first ← read bytes
  others ← many_at read n first.1
  Some (first.0 ∷ others.0, others.1)

abbrev pub rows_at : {A : Type 0} → (List ℕ → Read A) → List ℕ → Read (List A)
rows_at read bytes = do
  count ← number_at w16 bytes
  many_at read count.0 count.1

abbrev pub few_rows_at : {A : Type 0} → (List ℕ → Read A) → List ℕ → Read (List A)
few_rows_at read bytes = do
  count ← byte_at bytes
  many_at read count.0 count.1

-- ---- want of memory

-- it comes only where there are so many bytes, and they spell something
abbrev pub WantsMemory : {A B E : Type 0} → ℕ → List ℕ → Option B → Result A E → Type 0
WantsMemory least bytes read result = OnErr result ((least ≤ length bytes) × IsSome read)
