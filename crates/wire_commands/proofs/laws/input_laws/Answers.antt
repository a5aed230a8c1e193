use Rattle.wire_commands.proofs.InputLaws.{frames_are_commands, inputs_are_frames, inputs_go_on}
use Rattle.wire_commands.proofs.laws.input_laws.Goals as goal

pub returns : goal.returns
returns c = record { front = frames_are_commands; frames = inputs_are_frames; next = inputs_go_on }
