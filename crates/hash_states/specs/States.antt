-- SHA-256 of bytes that come in parts: what is kept between two parts.
use Rattle.std.specs.Prelude.{◌≡◌, ℕ, ◌+◌, ◌*◌, ◌/◌, ◌%◌, ◌^◌, ◌<◌, List, [], ◌++◌, length, take, drop, slice_index_or}
use Rattle.sha2.specs.Sha256.{digest_bytes, hash_after, initial_hash_256, padding}

-- the hash value of the whole blocks so far, the bytes behind them, and how many bytes there were, modulo 2^64
pub record State : Type 0 where
  pub hash : List ℕ
  pub left : List ℕ
  pub total : ℕ

-- of these bytes
unfoldable pub state_after : List ℕ → State
state_after m = record {
  hash = hash_after initial_hash_256 m (length m / 64);
  left = drop (length m / 64 * 64) m;
  total = length m % 2 ^ 64;
}

-- and of these behind them
unfoldable pub absorb : State → List ℕ → State
absorb s bytes = record {
  hash = hash_after s.hash (s.left ++ bytes) (length (s.left ++ bytes) / 64);
  left = drop (length (s.left ++ bytes) / 64 * 64) (s.left ++ bytes);
  total = (s.total + length bytes) % 2 ^ 64;
}

-- the SHA-256 of them all
unfoldable pub digest_of : State → List ℕ
digest_of s = digest_bytes (hash_after s.hash (s.left ++ padding s.total) (length (s.left ++ padding s.total) / 64)) 8

-- ---- what a state's fields hold

abbrev pub state_of : List ℕ → List ℕ → ℕ → State
state_of value left total = record { hash = value; left = take (total % 64) left; total = total }

-- ---- quarters

-- the bytes up to the end of quarter i
abbrev pub quarters_to : ℕ → List ℕ → List ℕ
quarters_to i bytes = take (length bytes / 256 * 64 * (i + 1)) bytes

-- these are the hash values after each quarter of the bytes, behind a hash value
abbrev pub AreAfter : List ℕ → List ℕ → List (List ℕ) → Type 0
AreAfter value bytes values = (i : ℕ) → i < 4 → slice_index_or values i [] ≡ hash_after value bytes (length bytes / 256 * (i + 1))

-- and behind a state
abbrev pub NotesQuarters : State → List ℕ → List (List ℕ) → Type 0
NotesQuarters s bytes values = (i : ℕ) → i < 4 → slice_index_or values i [] ≡ (absorb s (quarters_to i bytes)).hash
