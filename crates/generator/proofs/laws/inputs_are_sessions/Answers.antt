use Rattle.generator.proofs.SessionLemmas.{session_is_input}
use Rattle.generator.proofs.laws.inputs_are_sessions.Goals as goal

pub returns : goal.returns
returns c = record {
  commands = λ k h. (session_is_input k h).is_commands;
  frames = λ k h. (session_is_input k h).frames_are;
  short = λ k h. (session_is_input k h).short;
}
