use Rattle.wire_commands.proofs.CommandLaws.{commands_again, commands_one_text}
use Rattle.wire_commands.proofs.laws.command_laws.Goals as goal

pub returns : goal.returns
returns c = record { again = commands_again; one_text = commands_one_text }
