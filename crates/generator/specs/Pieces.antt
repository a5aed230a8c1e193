-- The pieces: bytes of the numbers of a linear congruential sequence.
use Rattle.std.specs.Prelude.{ℕ, zero, suc, ◌+◌, ◌*◌, ◌/◌, ◌%◌, ◌^◌, ◌==◌, Bool, if◌then◌else◌, List, [], ◌∷◌, ◌||◌, map}
use Rattle.std.specs.List.{range_with_len}

-- the number of the sequence that follows x
unfoldable pub after : ℕ → ℕ
after x = (x * 6364136223846793005 + 1442695040888963407) % 2 ^ 64

-- the top eight bits of each of the n numbers behind x
unfoldable pub bytes_after : ℕ → ℕ → List ℕ
bytes_after zero x = []
bytes_after (suc n) x = (after x / 2 ^ 56) ∷ bytes_after n (after x)

-- The first number behind the seed tells how long the piece is, from 1,024 to 5,119 bytes, and those behind it are its bytes.
unfoldable pub piece : ℕ → List ℕ
piece seed = bytes_after (1024 + after seed / 2 ^ 52) (after seed)

-- The seed of piece i of snapshot j of lane k. So even pieces are shared by all lanes and snapshots.
abbrev pub seed_of : ℕ → ℕ → ℕ → ℕ
seed_of k j i = if i % 2 == 0 then i else k * 2 ^ 32 + j * 65536 + i

-- piece i of snapshot j of lane k
abbrev pub piece_at : ℕ → ℕ → ℕ → List ℕ
piece_at k j i = piece (seed_of k j i)

-- the pieces of snapshot j of lane k
unfoldable pub pieces : ℕ → ℕ → List (List ℕ)
pieces k j = map (piece_at k j) (range_with_len 0 64)

-- whether piece i is sent with snapshot j: the even ones are with the first alone
abbrev pub is_sent : ℕ → ℕ → Bool
is_sent j i = (j == 0) || (i % 2 == 1)
