-- What it takes that some bytes decode, and what the data then are.
use Rattle.std.proofs.Common.{◌≡◌, ℕ, ◌+◌, ◌-◌, ◌<◌, ◌≤◌, List, length, take, drop, Bool, true, false, ◌==◌, nat_lt, if◌then◌else◌, Result, Ok, Err, refl, sym, ap, subst, ◌∙◌, arith}
use Rattle.std.specs.Int.{w32, from_le_bytes}
use Rattle.std.specs.List.{copy_within}
use Rattle.std.specs.Str.{bytes_eq}
use Rattle.std.proofs.lemmas.Bool.{lt-ltb, le-ltb, ltb-false, eqb-true}
use Rattle.std.proofs.lemmas.List.{drop-drop, length-drop, take_all}
use Rattle.std.proofs.lemmas.List.Edits.{take-paste}
use Rattle.std.proofs.lemmas.Slice.Eq.{bytes_eq-Decides}
use Rattle.crc_core.specs.Crc.{crc}
use Rattle.store_types.specs.declared.refusal.BadBlob.{BadBlob}
use Rattle.store_types.specs.declared.refusal.BadBlob.TheVariants.{Short, Compressed, Encrypted, EncryptedCompressed, UnknownMagic, TooLong, WrongCrc}
use Rattle.blob_codec.specs.Blob.{magic, compressed_magic, encrypted_magic, encrypted_compressed_magic, data_limit, data_behind, data_under, data_of}

pub data_of-short : (bytes : List ℕ) → length bytes < 12 → data_of bytes ≡ Err Short
unfolding data_of
data_of-short bytes short = ap (λ t. if t then Err Short else data_under (take 8 bytes) (drop 8 bytes)) (lt-ltb (length bytes) 12 short)

pub data_of-under : (bytes : List ℕ) → 12 ≤ length bytes → data_of bytes ≡ data_under (take 8 bytes) (drop 8 bytes)
unfolding data_of
data_of-under bytes long = ap (λ t. if t then Err Short else data_under (take 8 bytes) (drop 8 bytes)) (le-ltb (length bytes) 12 long)

-- ---- where the answer is Ok, each test on the way was passed

passed : (t : Bool) (e : BadBlob) (r : Result (List ℕ) BadBlob) (p : List ℕ) → (if t then Err e else r) ≡ Ok p → (t ≡ false) × (r ≡ Ok p)
passed true e r p is = cc
passed false e r p is = (refl, is)

chosen : (t : Bool) (e : BadBlob) (r : Result (List ℕ) BadBlob) (p : List ℕ) → (if t then r else Err e) ≡ Ok p → (t ≡ true) × (r ≡ Ok p)
chosen true e r p is = (refl, is)
chosen false e r p is = cc

-- the parts of a blob with these data
pub record HasParts (bytes p : List ℕ) : Type 0 where
  pub long : 12 ≤ length bytes
  pub begins : take 8 bytes ≡ magic
  pub kept : from_le_bytes w32 (take 4 (drop 8 bytes)) ≡ crc p
  pub rest : drop 4 (drop 8 bytes) ≡ p
  pub fits : length p ≤ data_limit

under_magic : (begin rest p : List ℕ) → data_under begin rest ≡ Ok p
    → (begin ≡ magic) × (data_behind (from_le_bytes w32 (take 4 rest)) (drop 4 rest) ≡ Ok p)
under_magic begin rest p is =
    let plain = chosen (bytes_eq begin magic) UnknownMagic (data_behind (from_le_bytes w32 (take 4 rest)) (drop 4 rest)) p
    (passed (bytes_eq begin encrypted_compressed_magic) EncryptedCompressed _ p
    (passed (bytes_eq begin encrypted_magic) Encrypted _ p
    (passed (bytes_eq begin compressed_magic) Compressed _ p is).1).1).1 in
    ((bytes_eq-Decides begin magic).0 plain.0, plain.1)

behind_magic : (kept : ℕ) (bytes p : List ℕ) → data_behind kept bytes ≡ Ok p
    → (kept ≡ crc p) × (bytes ≡ p) × (length p ≤ data_limit)
behind_magic kept bytes p is =
    let short = passed (nat_lt data_limit (length bytes)) TooLong (if kept == crc bytes then Ok bytes else Err (WrongCrc kept (crc bytes))) p is in
    let checked = chosen (kept == crc bytes) (WrongCrc kept (crc bytes)) (Ok bytes) p short.1 in
    let same : bytes ≡ p = cc in
    (eqb-true kept (crc bytes) checked.0 ∙ ap crc same, same, subst (λ (q : List ℕ). length q ≤ data_limit) same (ltb-false data_limit (length bytes) short.0))

long_enough : (bytes p : List ℕ) → data_of bytes ≡ Ok p → 12 ≤ length bytes
unfolding data_of
long_enough bytes p is = ltb-false (length bytes) 12 (passed (nat_lt (length bytes) 12) Short (data_under (take 8 bytes) (drop 8 bytes)) p is).0

pub HasParts-from_data_of : (bytes p : List ℕ) → data_of bytes ≡ Ok p → HasParts bytes p
HasParts-from_data_of bytes p is =
    let long = long_enough bytes p is in
    let under = under_magic (take 8 bytes) (drop 8 bytes) p (sym (data_of-under bytes long) ∙ is) in
    let behind = behind_magic (from_le_bytes w32 (take 4 (drop 8 bytes))) (drop 4 (drop 8 bytes)) p under.1 in
    record { long = long; begins = under.0; kept = behind.0; rest = behind.1; fits = behind.2 }

-- the data, moved down to where the header was
pub copied_down : (bytes p : List ℕ) (n : ℕ) → length bytes ≡ n → HasParts bytes p → take (length p) (copy_within bytes 12 n 0) ≡ p
copied_down bytes p n are parts =
    let rest : drop 12 bytes ≡ p = sym (drop-drop 4 8 bytes) ∙ parts.rest in
    let count : length p ≡ 0 + (n - 12) = omega (arith, length-drop 12 bytes, ap length rest) in
    ap (λ k. take k (copy_within bytes 12 n 0)) count
    ∙ take-paste bytes 0 (drop 12 bytes) (n - 12) (omega arith) (omega (arith, length-drop 12 bytes))
    ∙ take_all (n - 12) (drop 12 bytes) (omega (arith, length-drop 12 bytes))
    ∙ rest
