-- What the words say.
use Rattle.std.specs.Prelude.{ℕ, ◌≤◌, ◌&&◌, nat_le, if◌then◌else◌, List, [], ◌∷◌, codes, map, slice_index, string_bytes, Option, Some, None, option_and_then, String}
use Rattle.std.specs.Str.{all_ascii_digits, bytes_eq}
use Rattle.std.specs.Str.Parse.{digits_value}
use Rattle.std.specs.declared.alloc.Global.{Global}
use Rattle.clap.specs.Words.{Kinds, Row, Text, all_of, fault_of, first_of, subcommand_of}
use Rattle.command_line.specs.Program.{program}

-- what they say: paths as they were given, and sessions in their order
pub data Said : Type 0 where
  run : Text → Option Text → Option Text → List Text → Said
  generate : Text → ℕ → Said
  check : Text → Text → Option Text → List Text → Said

-- a number from 1 to 63: decimal digits, of which the first is no zero
abbrev pub count_of : Text → Option ℕ
count_of text =
    if all_ascii_digits text && nat_le 49 (slice_index text 0) && nat_le (digits_value 10 text) 63 then
    Some (digits_value 10 text) else None

-- it is no other
abbrev pub IsCount : ℕ → Type 0
IsCount n = (1 ≤ n) × (n ≤ 63)

abbrev pub run_of : Option Text → Option Text → Option Text → Option (List Text) → Option Said
run_of (Some root) remote order (Some sessions) = Some (run root remote order sessions)
run_of _ remote order _ = None

abbrev pub generate_of : Option Text → Option ℕ → Option Said
generate_of (Some root) (Some n) = Some (generate root n)
generate_of _ _ = None

abbrev pub check_of : Option Text → Option Text → Option Text → Option (List Text) → Option Said
check_of (Some root) (Some order) remote (Some sessions) = Some (check root order remote sessions)
check_of _ _ remote _ = None

-- one at least
abbrev pub some_of : Option (List Text) → Option (List Text)
some_of (Some (text ∷ texts)) = Some (text ∷ texts)
some_of _ = None

-- ---- by what was given for each argument

abbrev pub sessions_in : List Row → Option (List Text)
sessions_in rows = some_of (all_of (codes "session") rows)

abbrev pub run_in : List Row → Option Said
run_in rows = run_of (first_of (codes "root") rows) (first_of (codes "remote") rows)
    (first_of (codes "order") rows) (sessions_in rows)

abbrev pub generate_in : List Row → Option Said
generate_in rows = generate_of (first_of (codes "root") rows)
    (option_and_then count_of (first_of (codes "n") rows))

abbrev pub check_in : List Row → Option Said
check_in rows = check_of (first_of (codes "root") rows) (first_of (codes "order") rows)
    (first_of (codes "remote") rows) (sessions_in rows)

-- by the command's name
abbrev pub named_in : Text → List Row → Option Said
named_in name rows =
    if bytes_eq name (codes "run") then run_in rows else
    if bytes_eq name (codes "gen") then generate_in rows else
    if bytes_eq name (codes "check") then check_in rows else
    None

-- ---- the whole

abbrev pub said_in : Option (Text × List Row) → Option Said
said_in None = None
said_in (Some command) = named_in command.0 command.1

-- where no step of the parse fails
abbrev pub unless : Kinds → Option Said → Option Said
unless [] said = said
unless (kind ∷ kinds) said = None

-- The words as clap reads them: where no step of its parse fails, by the command that it finds and what was given for this one's arguments.
abbrev pub reading : List Text → Option Said
reading words = unless (fault_of program words) (said_in (subcommand_of program words))

-- the words as texts
abbrev pub texts : List (String Global) → List Text
texts words = map string_bytes words
