-- Words that have a reading name one session at least, where they name sessions.
use Rattle.std.proofs.Common.{◌≡◌, ◌≤◌, ℕ, Bool, true, false, List, [], ◌∷◌, length, map, Option, Some, None, if◌then◌else◌, refl, subst, arith}
use Rattle.std.specs.Prelude.{codes}
use Rattle.std.specs.Str.{bytes_eq}
use Rattle.clap.specs.Words.{Kinds, Row, Text, all_of, fault_of, first_of, subcommand_of}
use Rattle.std.specs.Prelude.{option_and_then}
use Rattle.command_line.specs.Program.{program}
use Rattle.command_line.specs.Reading.{Said, check, check_in, check_of, count_of, generate, generate_in, generate_of, reading, run, run_in, run_of, said_in, some_of, unless}

abbrev pub HasSession : Option Said → Type 0
HasSession None = Unit {0}
HasSession (Some (run root remote order sessions)) = 1 ≤ length sessions
HasSession (Some (generate root n)) = Unit {0}
HasSession (Some (check root order remote sessions)) = 1 ≤ length sessions

run_has : (root remote order : Option Text) (sessions : Option (List Text)) → HasSession (run_of root remote order (some_of sessions))
run_has (Some root) remote order (Some (s ∷ ss)) = omega arith
run_has (Some root) remote order (Some []) = tt
run_has (Some root) remote order None = tt
run_has None remote order sessions = tt

generate_has : (root : Option Text) (n : Option ℕ) → HasSession (generate_of root n)
generate_has (Some root) (Some n) = tt
generate_has (Some root) None = tt
generate_has None n = tt

check_has : (root order remote : Option Text) (sessions : Option (List Text)) → HasSession (check_of root order remote (some_of sessions))
check_has (Some root) (Some order) remote (Some (s ∷ ss)) = omega arith
check_has (Some root) (Some order) remote (Some []) = tt
check_has (Some root) (Some order) remote None = tt
check_has (Some root) None remote sessions = tt
check_has None order remote sessions = tt

named_has : (a b c : Bool) (x y z : Option Said) → HasSession x → HasSession y → HasSession z → HasSession (if a then x else if b then y else if c then z else None)
named_has true b c x y z p q r = p
named_has false true c x y z p q r = q
named_has false false true x y z p q r = r
named_has false false false x y z p q r = tt

said_has : (command : Option (Text × List Row)) → HasSession (said_in command)
said_has None = tt
said_has (Some command) =
    let rows = command.1 in
    named_has (bytes_eq command.0 (codes "run")) (bytes_eq command.0 (codes "gen")) (bytes_eq command.0 (codes "check")) (run_in rows) (generate_in rows) (check_in rows)
    (run_has (first_of (codes "root") rows) (first_of (codes "remote") rows) (first_of (codes "order") rows) (all_of (codes "session") rows))
    (generate_has (first_of (codes "root") rows) (option_and_then count_of (first_of (codes "n") rows)))
    (check_has (first_of (codes "root") rows) (first_of (codes "order") rows) (first_of (codes "remote") rows) (all_of (codes "session") rows))

unless_has : (kinds : Kinds) (said : Option Said) → HasSession said → HasSession (unless kinds said)
unless_has [] said has = has
unless_has (k ∷ ks) said has = tt

pub has_session : (words : List Text) (root : Text) (remote order : Option Text) (sessions : List Text) → reading words ≡ Some (run root remote order sessions) → 1 ≤ length sessions
has_session words root remote order sessions is =
    subst HasSession is (unless_has (fault_of program words) (said_in (subcommand_of program words)) (said_has (subcommand_of program words)))

-- some texts are what they are
pub some_map : {A : Type 0} (f : A → Text) (xs : List A) → 1 ≤ length xs → some_of (Some (map f xs)) ≡ Some (map f xs)
some_map f [] some = absurd (omega arith)
some_map f (x ∷ xs) some = refl
