-- Which texts are a count, by what the parse of a number gives.
use Rattle.std.proofs.Common.{◌≡◌, ◌≤◌, ◌<◌, ◌^◌, ◌&&◌, ℕ, Bool, true, false, List, length, get_or, Some, None, Result, Ok, if◌then◌else◌, nat_le, refl, ap, subst, arith}
use Rattle.std.specs.Str.{all_ascii_digits}
use Rattle.std.specs.Str.Parse.{ParsesUnsigned, digits_value}
use Rattle.std.specs.Result.{OkIff}
use Rattle.std.proofs.lemmas.Bool.{le-leb, leb-true}
use Rattle.std.proofs.lemmas.Str.Parse.{numerals_by_value, parse_gives, parse_plain, tells_all_ascii_digits}
use Rattle.command_line.specs.Reading.{count_of}

some_by : (a b c : Bool) (n v : ℕ) → a ≡ true → b ≡ true → c ≡ true → n ≡ v → Some n ≡ (if a && b && c then Some v else None)
some_by true true true n v x y z e = ap Some e
some_by true true false n v x y z e = cc
some_by true false c n v x y z e = cc
some_by false b c n v x y z e = cc

none_by : (a b c : Bool) (v : ℕ) → (a ≡ true → c ≡ true → ⊥) → None ≡ (if a && b && c then Some v else None)
none_by true true true v other = absurd (other refl refl)
none_by true true false v other = refl
none_by true false c v other = refl
none_by false b c v other = refl

module _ {E : Type 0} (text : List ℕ) (r : Result ℕ E) (parses : ParsesUnsigned 32 10 text r) (low : 49 ≤ get_or text 0 0) where
  abbrev are_digits : List ℕ → Type 0
  are_digits ds = all_ascii_digits ds ≡ true

  abbrev value : ℕ
  value = digits_value 10 text

  exact : OkIff r (are_digits text × (0 < length text) × (value < 2 ^ 32)) value
  exact = parse_plain (numerals_by_value are_digits tells_all_ascii_digits) 32 text r parses (λ plus. omega arith)

  pub is_count : (n : ℕ) → r ≡ Ok n → n ≤ 63 → Some n ≡ count_of text
  is_count n is few =
      let given = subst (λ (x : Result ℕ E). OkIff x (are_digits text × (0 < length text) × (value < 2 ^ 32)) value) is exact in
      some_by (all_ascii_digits text) (nat_le 49 (get_or text 0 0)) (nat_le value 63) n value (given.0).0 (le-leb 49 (get_or text 0 0) low)
      (le-leb value 63 (omega (arith, given.1))) given.1

  pub no_count : 0 < length text → ((n : ℕ) → r ≡ Ok n → ⊥) → None ≡ count_of text
  no_count some other =
      none_by (all_ascii_digits text) (nat_le 49 (get_or text 0 0)) (nat_le value 63) value
      (λ digits few. other value (parse_gives (numerals_by_value are_digits tells_all_ascii_digits) 32 text r parses digits some (fits few)))
    where
      fits : nat_le value 63 ≡ true → value < 2 ^ 32
      fits few = omega (arith, leb-true value 63 few)
