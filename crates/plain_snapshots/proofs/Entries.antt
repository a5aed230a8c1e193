-- The entries of a dynamic index, and the digests of a fixed one, piece by piece.
use Rattle.std.proofs.Common.{◌≡◌, ℕ, suc, ◌+◌, ◌^◌, ◌%◌, ◌/◌, ◌<◌, length, map, take, drop, get_or, List, [], ◌∷◌, ◌++◌, refl, sym, ap, ◌∙◌, arith, append_assoc, drop-cons, add-one, length-append}
use Rattle.std.specs.Int.{w64, to_le_bytes}
use Rattle.std.specs.List.{concat, flat_map}
use Rattle.std.proofs.lemmas.List.{map_push, append-nil, take_more}
use Rattle.std.proofs.lemmas.List.Folds.{concat-append}
use Rattle.sha2.specs.Sha256.{sha256}
use Rattle.store_files.specs.Archive.{ends_from}
use Rattle.store_files.specs.DynamicIndex.{entry_text}

-- ---- where pieces end

pub end_more : (xs : List (List ℕ)) (i : ℕ) (x : List ℕ) → i < length xs → x ≡ get_or xs i x → length (concat (take (i + 1) xs)) ≡ length (concat (take i xs)) + length x
end_more xs i x below is =
    ap (λ l. length (concat l)) (take_more xs i x below ∙ ap (λ y. take i xs ++ y ∷ []) (sym is))
    ∙ ap length (concat-append (take i xs) (x ∷ []) ∙ ap (λ z. concat (take i xs) ++ z) (append-nil x))
    ∙ length-append (concat (take i xs)) x

-- ---- digests

pub digests_more : (xs : List (List ℕ)) (i : ℕ) (x : List ℕ) → i < length xs → x ≡ get_or xs i x
    → concat (map sha256 (take (i + 1) xs)) ≡ concat (map sha256 (take i xs)) ++ sha256 x
digests_more xs i x below is =
    ap (λ l. concat (map sha256 l)) (take_more xs i x below ∙ ap (λ y. take i xs ++ y ∷ []) (sym is))
    ∙ ap concat (map_push sha256 (take i xs) x)
    ∙ concat-append (map sha256 (take i xs)) (sha256 x ∷ [])
    ∙ ap (λ z. concat (map sha256 (take i xs)) ++ z) (append-nil (sha256 x))

-- ---- entries

-- the entries of the pieces behind a start
abbrev pub entries_from : ℕ → List (List ℕ) → List ℕ
entries_from start pieces = flat_map entry_text (ends_from start pieces)

-- eight bytes hold a number up to a multiple of 2^64
byte_0 : (n : ℕ) → n % 18446744073709551616 % 256 ≡ n % 256
byte_0 n = omega arith

byte_1 : (n : ℕ) → n % 18446744073709551616 / 256 % 256 ≡ n / 256 % 256
byte_1 n = omega arith

byte_2 : (n : ℕ) → n % 18446744073709551616 / 65536 % 256 ≡ n / 65536 % 256
byte_2 n = omega arith

byte_3 : (n : ℕ) → n % 18446744073709551616 / 16777216 % 256 ≡ n / 16777216 % 256
byte_3 n = omega arith

byte_4 : (n : ℕ) → n % 18446744073709551616 / 4294967296 % 256 ≡ n / 4294967296 % 256
byte_4 n = omega arith

byte_5 : (n : ℕ) → n % 18446744073709551616 / 1099511627776 % 256 ≡ n / 1099511627776 % 256
byte_5 n = omega arith

byte_6 : (n : ℕ) → n % 18446744073709551616 / 281474976710656 % 256 ≡ n / 281474976710656 % 256
byte_6 n = omega arith

byte_7 : (n : ℕ) → n % 18446744073709551616 / 72057594037927936 % 256 ≡ n / 72057594037927936 % 256
byte_7 n = omega arith

le_bytes_wrap : (n : ℕ) → to_le_bytes w64 (n % 2 ^ 64) ≡ to_le_bytes w64 n
le_bytes_wrap n = rw (byte_0 n, byte_1 n, byte_2 n, byte_3 n, byte_4 n, byte_5 n, byte_6 n, byte_7 n) refl

-- what ends alike up to such a multiple has the same entries
entries_wrap : (a b : ℕ) (pieces : List (List ℕ)) → a % 2 ^ 64 ≡ b % 2 ^ 64 → entries_from a pieces ≡ entries_from b pieces
entries_wrap a b [] e = refl
entries_wrap a b (p ∷ ps) e =
    let next : (a + length p) % 2 ^ 64 ≡ (b + length p) % 2 ^ 64 = omega arith in
    let texts = sym (le_bytes_wrap (a + length p)) ∙ ap (to_le_bytes w64) next ∙ le_bytes_wrap (b + length p) in
    ap (λ t. (t ++ sha256 p) ++ entries_from (a + length p) ps) texts
    ∙ ap (λ es. (to_le_bytes w64 (b + length p) ++ sha256 p) ++ es) (entries_wrap (a + length p) (b + length p) ps next)

regroup : (a b c d : List ℕ) → ((a ++ b) ++ c) ++ d ≡ a ++ ((b ++ c) ++ d)
regroup a b c d = simp append_assoc

dropped : (xs : List (List ℕ)) (i : ℕ) (x : List ℕ) → i < length xs → x ≡ get_or xs i x → drop i xs ≡ x ∷ drop (i + 1) xs
dropped xs i x below is =
    drop-cons xs i x below ∙ ap (λ y. y ∷ drop (suc i) xs) (sym is) ∙ ap (λ k. x ∷ drop k xs) (sym (add-one i))

pub entries_more : (text : List ℕ) (end : ℕ) (xs : List (List ℕ)) (i : ℕ) (x : List ℕ) (whole : List ℕ) → i < length xs → x ≡ get_or xs i x
    → text ++ entries_from end (drop i xs) ≡ whole
    → ((text ++ to_le_bytes w64 ((end + length x) % 2 ^ 64)) ++ sha256 x) ++ entries_from ((end + length x) % 2 ^ 64) (drop (i + 1) xs) ≡ whole
entries_more text end xs i x whole below is h =
    let now = (end + length x) % 2 ^ 64 in
    let wrapped : now % 2 ^ 64 ≡ (end + length x) % 2 ^ 64 = omega arith in
    ap (λ es. ((text ++ to_le_bytes w64 now) ++ sha256 x) ++ es) (entries_wrap now (end + length x) (drop (i + 1) xs) wrapped)
    ∙ ap (λ t. ((text ++ t) ++ sha256 x) ++ entries_from (end + length x) (drop (i + 1) xs)) (le_bytes_wrap (end + length x))
    ∙ regroup text (to_le_bytes w64 (end + length x)) (sha256 x) (entries_from (end + length x) (drop (i + 1) xs))
    ∙ ap (λ l. text ++ entries_from end l) (sym (dropped xs i x below is)) ∙ h
