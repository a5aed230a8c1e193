-- What holds of the inputs.
use Rattle.std.specs.Prelude.{◌≡◌, ℕ, ◌<◌, ◌≤◌, ◌^◌, List, length}
use Rattle.wire_commands.specs.declared.command.Command.{Command}
use Rattle.wire_commands.specs.declared.command.Command.TheVariants.{Bye}
use Rattle.wire_commands.specs.Inputs.{InputFront, nothing, next, front, frames}
use Rattle.generator.specs.Sessions.{session_of, generated}

-- from its front on an input is commands, up to BYE or to its end
pub data EndsWell : InputFront → Type 0 where
  at_end : EndsWell nothing
  at_bye : (rest : List ℕ) → EndsWell (next Bye rest)
  behind : (c : Command) (rest : List ℕ) → EndsWell (front rest) → EndsWell (next c rest)

abbrev pub IsCommands : List ℕ → Type 0
IsCommands input = EndsWell (front input)

-- ---- of the lanes 0 to 63

-- nothing stands between or behind the commands of an input
abbrev pub InputsAreCommands : Type 0
InputsAreCommands = (k : ℕ) → k ≤ 63 → IsCommands (generated k)

-- which are those of the session
abbrev pub InputsAreSessions : Type 0
InputsAreSessions = (k : ℕ) → k ≤ 63 → frames (generated k) ≡ session_of k

abbrev pub InputsAreShort : Type 0
InputsAreShort = (k : ℕ) → k ≤ 63 → length (generated k) < 2 ^ 21
