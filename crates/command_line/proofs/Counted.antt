-- Words that ask for made sessions say a number from 1 to 63.
use Rattle.std.proofs.Common.{◌≡◌, ◌≤◌, ◌+◌, ◌*◌, ◌-◌, ◌&&◌, ℕ, Bool, true, false, cond, List, [], ◌∷◌, Option, Some, None, if◌then◌else◌, nat_le, nat_lt, refl, subst, arith}
use Rattle.std.specs.Prelude.{codes, option_and_then, slice_index}
use Rattle.std.specs.Char.{digit_value}
use Rattle.std.specs.Str.{all_ascii_digits, bytes_eq}
use Rattle.std.specs.Str.Parse.{digits_value, digits_value_after}
use Rattle.std.proofs.lemmas.Bool.{leb-true, ltb-false}
use Rattle.clap.specs.Words.{Kinds, Row, Text, fault_of, first_of, subcommand_of}
use Rattle.command_line.specs.Program.{program}
use Rattle.command_line.specs.Reading.{IsCount, Said, check, check_in, check_of, count_of, generate, generate_in, generate_of, reading, run, run_in, run_of, said_in, sessions_in, unless}

-- ---- the number that digits write

grows : (n : ℕ) (cs : List ℕ) → n ≤ digits_value_after 10 n cs
grows n [] = omega arith
grows n (c ∷ cs) = let more = grows (n * 10 + digit_value c) cs in omega (arith, more)

cond_low : (b : Bool) (x y : ℕ) → (b ≡ true → 1 ≤ x) → (b ≡ false → 1 ≤ y) → 1 ≤ cond b x y
cond_low true x y first second = first refl
cond_low false x y first second = second refl

-- a sign above '0' has one
digit_low : (c : ℕ) → 49 ≤ c → 1 ≤ digit_value c
digit_low c low =
    cond_low (nat_lt c 48) 36 _ (λ is. omega arith)
    (λ is. cond_low (nat_lt c 58) (c - 48) _ (λ is. omega (arith, low))
    (λ above. cond_low (nat_lt c 65) 36 _ (λ is. omega arith)
    (λ is. cond_low (nat_lt c 91) (c - 55) _ (λ is. let le = ltb-false c 58 above in omega (arith, le))
    (λ far. cond_low (nat_lt c 97) 36 _ (λ is. omega arith)
    (λ is. cond_low (nat_lt c 123) (c - 87) 36 (λ is. let le = ltb-false c 91 far in omega (arith, le)) (λ is. omega arith))))))

value_low : (text : List ℕ) → 49 ≤ slice_index text 0 → 1 ≤ digits_value 10 text
value_low [] low = absurd (omega (arith, low))
value_low (c ∷ cs) low = let first = digit_low c low in let more = grows (0 * 10 + digit_value c) cs in omega (arith, first, more)

-- ---- of an argument

abbrev IfCount : Option ℕ → Type 0
IfCount None = Unit {0}
IfCount (Some n) = IsCount n

tested : (a b c : Bool) (v : ℕ) → (b ≡ true → 1 ≤ v) → (c ≡ true → v ≤ 63) → IfCount (if a && b && c then Some v else None)
tested true true true v low few = (low refl, few refl)
tested true true false v low few = tt
tested true false c v low few = tt
tested false b c v low few = tt

text_counts : (o : Option Text) → IfCount (option_and_then count_of o)
text_counts None = tt
text_counts (Some text) =
    tested (all_ascii_digits text) (nat_le 49 (slice_index text 0)) (nat_le (digits_value 10 text) 63) (digits_value 10 text)
    (λ is. value_low text (leb-true 49 (slice_index text 0) is)) (λ is. leb-true (digits_value 10 text) 63 is)

-- ---- of the words

abbrev SaysCount : Option Said → Type 0
SaysCount None = Unit {0}
SaysCount (Some (run root remote order sessions)) = Unit {0}
SaysCount (Some (generate root n)) = IsCount n
SaysCount (Some (check root order remote sessions)) = Unit {0}

run_says : (root remote order : Option Text) (sessions : Option (List Text)) → SaysCount (run_of root remote order sessions)
run_says (Some root) remote order (Some sessions) = tt
run_says (Some root) remote order None = tt
run_says None remote order sessions = tt

generate_says : (root : Option Text) (n : Option ℕ) → IfCount n → SaysCount (generate_of root n)
generate_says (Some root) (Some n) counts = counts
generate_says (Some root) None counts = tt
generate_says None n counts = tt

check_says : (root order remote : Option Text) (sessions : Option (List Text)) → SaysCount (check_of root order remote sessions)
check_says (Some root) (Some order) remote (Some sessions) = tt
check_says (Some root) (Some order) remote None = tt
check_says (Some root) None remote sessions = tt
check_says None order remote sessions = tt

named_says : (a b c : Bool) (x y z : Option Said) → SaysCount x → SaysCount y → SaysCount z → SaysCount (if a then x else if b then y else if c then z else None)
named_says true b c x y z p q r = p
named_says false true c x y z p q r = q
named_says false false true x y z p q r = r
named_says false false false x y z p q r = tt

said_says : (command : Option (Text × List Row)) → SaysCount (said_in command)
said_says None = tt
said_says (Some command) =
    let rows = command.1 in
    named_says (bytes_eq command.0 (codes "run")) (bytes_eq command.0 (codes "gen")) (bytes_eq command.0 (codes "check")) (run_in rows) (generate_in rows) (check_in rows)
    (run_says (first_of (codes "root") rows) (first_of (codes "remote") rows) (first_of (codes "order") rows) (sessions_in rows))
    (generate_says (first_of (codes "root") rows) (option_and_then count_of (first_of (codes "n") rows)) (text_counts (first_of (codes "n") rows)))
    (check_says (first_of (codes "root") rows) (first_of (codes "order") rows) (first_of (codes "remote") rows) (sessions_in rows))

unless_says : (kinds : Kinds) (said : Option Said) → SaysCount said → SaysCount (unless kinds said)
unless_says [] said says = says
unless_says (k ∷ ks) said says = tt

pub said_count : (words : List Text) (root : Text) (n : ℕ) → reading words ≡ Some (generate root n) → IsCount n
said_count words root n is =
    subst SaysCount is (unless_says (fault_of program words) (said_in (subcommand_of program words)) (said_says (subcommand_of program words)))
