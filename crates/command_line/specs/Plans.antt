-- What a plan says.
use Rattle.std.specs.Prelude.{◌≡◌, ℕ, ◌+◌, ◌*◌, List, length, map, string_bytes, Option, Some, None, option_map, Result, Ok, Err}
use Rattle.std.specs.Borrow.{Bor}
use Rattle.command_line.specs.declared.plan.Plan.{Plan}
use Rattle.command_line.specs.declared.plan.Plan.TheVariants.{Run, Gen, Check}
use Rattle.command_line.specs.declared.plan.WordFault.{WordFault}
use Rattle.command_line.specs.declared.plan.WordFault.TheVariants.{NoReading, NoMemory}
use Rattle.command_line.specs.Reading.{Said, run, generate, check, texts}
use Rattle.clap.specs.Words.{Text}

abbrev pub lent_text : Option (Bor (List ℕ)) → Option Text
lent_text text = option_map (λ t. t.now) text

abbrev pub lent_texts : Option (Bor (List (Bor (List ℕ)))) → Option (List Text)
lent_texts all = option_map (λ ts. map (λ t. t.now) ts.now) all

-- the words that it was read from
abbrev pub said_by : Plan → Said
said_by (Run root remote order sessions) =
    run (string_bytes root) (option_map string_bytes remote) (option_map string_bytes order) (texts sessions.items)
said_by (Gen root n) = generate (string_bytes root) n
said_by (Check root order remote sessions) =
    check (string_bytes root) (string_bytes order) (option_map string_bytes remote) (texts sessions.items)

-- how many ports it takes: the sessions; none; the order's file, and of each session the input and the replies
abbrev pub ports_of : Said → ℕ
ports_of (run root remote order sessions) = length sessions
ports_of (generate root n) = 0
ports_of (check root order remote sessions) = 1 + 2 * length sessions

-- The plan is what was said. Words are refused for having no reading only where they have none; memory may be wanting whatever they say.
abbrev pub IsReadBy : Option Said → Result Plan WordFault → Type 0
IsReadBy said (Ok plan) = said ≡ Some (said_by plan)
IsReadBy said (Err NoReading) = said ≡ None
IsReadBy said (Err NoMemory) = Unit {0}
