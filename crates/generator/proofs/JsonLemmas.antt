-- The manifest is the text of its JSON value: no byte of its strings is escaped.
use Rattle.std.proofs.Common.{◌≡◌, ℕ, ◌+◌, ◌/◌, ◌%◌, ◌^◌, ◌<◌, ◌≤◌, ◌≢◌, List, [], ◌∷◌, ◌++◌, codes, decimal, slice_index, Some, refl, ap, ◌∙◌, arith, lit≤, append_assoc}
use Rattle.std.specs.List.{All, AllByRecursion}
use Rattle.std.proofs.lemmas.Bool.Decides.{nat_tests}
use Rattle.std.proofs.lemmas.Fmt.{decimal_by_steps}
use Rattle.hex.specs.Hex.{encode_with, encode_lower, hex_digit_value, lower_digits}
use Rattle.hex.proofs.HexLemmas.{IsDigits-lower_digits}
use Rattle.std.proofs.lemmas.List.Elements.{All-head, All-tail}
use Rattle.json.specs.Print.{escape_byte, escape, quoted}
use Rattle.serde_json.specs.Written.{compact_text}
use Rattle.store_types.specs.declared.names.Digest32.{Digest32}
use Rattle.generator.specs.Manifests.{id_of, time_of, manifest_text}
use Rattle.generator.specs.Json.{file_data, manifest_data}

-- a digit or a small letter, which stands for itself between the quotes
pub record IsPlain (b : ℕ) : Type 0 where
  pub least : 48 ≤ b
  pub no_backslash : b ≢ 92

abbrev pub ArePlain : List ℕ → Type 0
ArePlain = AllByRecursion IsPlain

escape-plain : (b : ℕ) → IsPlain b → escape_byte b ≡ b ∷ []
unfolding escape_byte
escape-plain b h = let low = h.least in let not = h.no_backslash in grind (arith, nat_tests)

escapes : (s : List ℕ) → ArePlain s → escape s ≡ s
escapes [] h = refl
escapes (b ∷ s) h = ap (λ front. front ++ escape s) (escape-plain b h.0) ∙ ap (λ (rest : List ℕ). b ∷ rest) (escapes s h.1)

pub quoted_before : (s rest : List ℕ) → ArePlain s → quoted s ++ rest ≡ 34 ∷ (s ++ (34 ∷ rest))
quoted_before s rest h =
    ap (λ (t : List ℕ). 34 ∷ ((t ++ 34 ∷ []) ++ rest)) (escapes s h) ∙ ap (λ (t : List ℕ). 34 ∷ t) (append_assoc s (34 ∷ []) rest)

-- ---- which texts are so

both_plain : (s t : List ℕ) → ArePlain s → ArePlain t → ArePlain (s ++ t)
both_plain [] t h k = k
both_plain (b ∷ s) t h k = (h.0, both_plain s t h.1 k)

digit_plain : (d : ℕ) → d < 10 → IsPlain (48 + d)
digit_plain d h = record { least = omega arith; no_backslash = λ e. omega arith }

decimal_plain : (n : ℕ) → n < 2 ^ 64 → ArePlain (decimal n)
decimal_plain =
    decimal_by_steps (λ m ds. ArePlain ds) (λ m l. (digit_plain m l, tt))
    (λ m ds l h. both_plain ds _ h (digit_plain (m % 10) (omega arith), tt))

pub id_plain : (k : ℕ) → k < 2 ^ 32 → ArePlain (id_of k)
id_plain k h = (record { least = lit≤ tt; no_backslash = λ e. omega arith }, decimal_plain k (omega arith))

value_plain : (b d : ℕ) → hex_digit_value b ≡ Some d → IsPlain b
value_plain b d h = record { least = grind (arith, nat_tests); no_backslash = λ e. grind (arith, nat_tests) }

hex_plain : (d : ℕ) → d < 16 → IsPlain (slice_index lower_digits d)
hex_plain d h = value_plain (slice_index lower_digits d) d (IsDigits-lower_digits d h)

pub hex_text_plain : (bytes : List ℕ) → AllByRecursion (λ b. b < 256) bytes → ArePlain (encode_lower bytes)
unfolding encode_with
hex_text_plain [] h = tt
hex_text_plain (b ∷ bytes) h = (hex_plain (b / 16) (omega (arith, h.0)), (hex_plain (b % 16) (omega arith), hex_text_plain bytes h.1))

pub each_byte : (bytes : List ℕ) → All (λ b. b < 256) bytes → AllByRecursion (λ b. b < 256) bytes
each_byte [] h = tt
each_byte (b ∷ bytes) h = (All-head (λ x. x < 256) b bytes h, each_byte bytes (All-tail (λ x. x < 256) b bytes h))

-- ---- the whole

pub text_is : (k j : ℕ) (csum : Digest32) (size : ℕ) → ArePlain (id_of k) → ArePlain (encode_lower csum.0)
    → compact_text (manifest_data k j (file_data csum size)) ≡ manifest_text k j csum size
unfolding manifest_text escape_byte
text_is k j csum size id_is csum_is =
    let id = id_of k in
    let digits = encode_lower csum.0 in
    let ends : List ℕ = 93 ∷ 125 ∷ [] in
    let named : List ℕ → List ℕ = λ t. codes ",\"filename\":\"root.didx\",\"size\":" ++ t in
    let behind = named (decimal size ++ 125 ∷ []) in
    let between : List ℕ → List ℕ = λ t.
    codes ",\"backup-time\":" ++ (decimal (time_of j) ++ (codes ",\"backup-type\":\"host\",\"files\":[{\"crypt-mode\":\"none\",\"csum\":" ++ t)) in
    let before : List ℕ → List ℕ = λ t. codes "{\"backup-id\":" ++ t in
    let within : List ℕ → List ℕ = λ t. before (quoted id ++ between t) in
    ap within (append_assoc (quoted digits ++ behind) (93 ∷ []) (125 ∷ []) ∙ append_assoc (quoted digits) behind ends)
    ∙ ap (λ t. within (quoted digits ++ named t)) (append_assoc (decimal size) (125 ∷ []) ends)
    ∙ ap before (quoted_before id (between (quoted digits ++ named (decimal size ++ (125 ∷ ends)))) id_is)
    ∙ ap (λ t. before (34 ∷ (id ++ (34 ∷ between t)))) (quoted_before digits (named (decimal size ++ (125 ∷ ends))) csum_is)
