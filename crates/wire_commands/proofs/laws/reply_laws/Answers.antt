use Rattle.wire_commands.proofs.ReplyLaws.{replies_again, replies_one_text}
use Rattle.wire_commands.proofs.laws.reply_laws.Goals as goal

pub returns : goal.returns
returns c = record { again = replies_again; one_text = replies_one_text }
