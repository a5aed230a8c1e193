-- Blobs: a magic, the CRC-32 of the data, and the data.
use Rattle.std.specs.Prelude.{◌≡◌, ℕ, ◌≤◌, List, [], ◌∷◌, ◌++◌, length, take, drop, ◌==◌, nat_lt, if◌then◌else◌, Result, Ok, Err, MatchResult}
use Rattle.std.specs.Borrow.{Bor}
use Rattle.std.specs.Int.{w32, to_le_bytes, from_le_bytes}
use Rattle.std.specs.Str.{bytes_eq}
use Rattle.store_types.specs.declared.refusal.BadBlob.{BadBlob}
use Rattle.store_types.specs.declared.refusal.BadBlob.TheVariants.{Short, Compressed, Encrypted, EncryptedCompressed, UnknownMagic, TooLong, WrongCrc}
use Rattle.crc_core.specs.Crc.{crc}

abbrev pub magic : List ℕ
magic = 66 ∷ 171 ∷ 56 ∷ 7 ∷ 190 ∷ 131 ∷ 112 ∷ 161 ∷ []

abbrev pub compressed_magic : List ℕ
compressed_magic = 49 ∷ 185 ∷ 88 ∷ 66 ∷ 111 ∷ 182 ∷ 163 ∷ 127 ∷ []

abbrev pub encrypted_magic : List ℕ
encrypted_magic = 123 ∷ 103 ∷ 133 ∷ 190 ∷ 34 ∷ 45 ∷ 76 ∷ 240 ∷ []

abbrev pub encrypted_compressed_magic : List ℕ
encrypted_compressed_magic = 230 ∷ 89 ∷ 27 ∷ 191 ∷ 11 ∷ 191 ∷ 216 ∷ 11 ∷ []

abbrev pub data_limit : ℕ
data_limit = 16_777_216

-- the most bytes of a blob: its header and the most data
abbrev pub blob_limit : ℕ
blob_limit = 16_777_228

-- the bytes of the blob of these data
unfoldable pub blob : List ℕ → List ℕ
blob bytes = magic ++ to_le_bytes w32 (crc bytes) ++ bytes

-- what has a blob
abbrev pub FitsBlob : List ℕ → Type 0
FitsBlob bytes = length bytes ≤ data_limit

-- ---- reading, with the first fault

-- behind the magic: the CRC, and the data
abbrev pub data_behind : ℕ → List ℕ → Result (List ℕ) BadBlob
data_behind kept bytes =
    if nat_lt data_limit (length bytes) then Err TooLong
    else (if kept == crc bytes then Ok bytes else Err (WrongCrc kept (crc bytes)))

abbrev pub data_under : List ℕ → List ℕ → Result (List ℕ) BadBlob
data_under begin rest =
    if bytes_eq begin compressed_magic then Err Compressed
    else (if bytes_eq begin encrypted_magic then Err Encrypted
    else (if bytes_eq begin encrypted_compressed_magic then Err EncryptedCompressed
    else (if bytes_eq begin magic then data_behind (from_le_bytes w32 (take 4 rest)) (drop 4 rest)
    else Err UnknownMagic)))

-- the data of the blob, or the first fault
unfoldable pub data_of : List ℕ → Result (List ℕ) BadBlob
data_of bytes = if nat_lt (length bytes) 12 then Err Short else data_under (take 8 bytes) (drop 8 bytes)

-- these are the data, or this is the first fault
abbrev pub Decodes : List ℕ → Result (Bor (List ℕ)) BadBlob → Type 0
Decodes bytes result = MatchResult result (λ d. data_of bytes ≡ Ok d.now) (λ e. data_of bytes ≡ Err e)
