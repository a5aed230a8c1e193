-- The commands of an input: one frame each, from its front on.
use Rattle.std.specs.Prelude.{◌≡◌, ℕ, zero, suc, ◌≤◌, List, [], ◌∷◌, ◌++◌, length, Option, Some, None}
use Rattle.wire_frames.specs.Frames.{body_limit, frame, Front, short, too_long, whole, cut, FrameAt, frames_of}
use Rattle.wire_commands.specs.declared.command.Command.{Command}
use Rattle.wire_commands.specs.declared.command.Command.TheVariants.{Bye}
use Rattle.wire_commands.specs.CommandText.{command_of}

-- what stands at the front of what is left of an input
pub data InputFront : Type 0 where
  -- nothing is left
  nothing : InputFront
  -- a command, and what is left behind it
  next : Command → List ℕ → InputFront
  -- a length above the limit
  over_limit : ℕ → InputFront
  -- something that isn't a command, a cut frame included
  no_command : InputFront

abbrev pub body_front : Option Command → List ℕ → InputFront
body_front None rest = no_command
body_front (Some c) rest = next c rest

abbrev pub cut_front : Front → InputFront
cut_front short = no_command
cut_front (too_long n) = over_limit n
cut_front (whole body rest) = body_front (command_of body) rest

unfoldable pub front : List ℕ → InputFront
front [] = nothing
front (b ∷ bytes) = cut_front (cut (b ∷ bytes))

-- the commands from the front on, up to BYE or to where no command stands
abbrev pub commands_from : InputFront → (List ℕ → List Command) → List Command
commands_from (next Bye rest) go_on = Bye ∷ []
commands_from (next c rest) go_on = c ∷ go_on rest
commands_from _ go_on = []

-- the first n commands, or all
unfoldable pub first_commands : ℕ → List ℕ → List Command
first_commands zero input = []
first_commands (suc n) input = commands_from (front input) (first_commands n)

-- the commands of an input; there are no more than it has bytes
unfoldable pub frames : List ℕ → List Command
frames input = first_commands (length input) input

-- ---- the same by the frames that the input holds

abbrev pub command_and : Option Command → List Command → List Command
command_and None others = []
command_and (Some Bye) others = Bye ∷ []
command_and (Some c) others = c ∷ others

-- what the bodies spell, up to BYE or the first that is no command
unfoldable pub commands_of : List FrameAt → List Command
commands_of [] = []
commands_of (f ∷ fs) = command_and (command_of f.body) (commands_of fs)

-- ---- laws

-- A frame at the front is the command that its body spells.
abbrev pub FramesAreCommands : Type 0
FramesAreCommands = (body rest : List ℕ) → length body ≤ body_limit → front (frame body ++ rest) ≡ body_front (command_of body) rest

-- The commands of an input are those of the frames that it holds.
abbrev pub InputsAreFrames : Type 0
InputsAreFrames = (input : List ℕ) (offset : ℕ) → frames input ≡ commands_of (frames_of (record { offset = offset; bytes = input })).list

-- The commands of an input are the one at its front and those behind it.
abbrev pub InputsGoOn : Type 0
InputsGoOn = (input : List ℕ) → frames input ≡ commands_from (front input) frames
