-- What an example unfolds to compute these definitions on literals.
use Rattle.std.specs.Prelude.{⊤}
use Rattle.wire_frames.specs.Frames as frames_
use Rattle.wire_commands.specs.Fields as fields_
use Rattle.wire_commands.specs.CommandText as commandtext_
use Rattle.wire_commands.specs.Inputs as inputs_
use Rattle.wire_commands.specs.RefusalText as refusaltext_
use Rattle.wire_commands.specs.ReplyText as replytext_
use Rattle.wire_commands.specs.RefusalReading as refusalreading_
use Rattle.wire_commands.specs.ReplyReading as replyreading_

unfoldable pub wire_commands_on_literals : ⊤
unfolding frames_.cut fields_.many_at inputs_.front inputs_.first_commands inputs_.frames commandtext_.command_text commandtext_.nothing_more commandtext_.one_text commandtext_.text_and_offset commandtext_.new_fixed commandtext_.chunk commandtext_.append commandtext_.close_index commandtext_.blob commandtext_.get_chunk commandtext_.range commandtext_.prune commandtext_.fields_of commandtext_.command_of refusaltext_.refusal_text replytext_.reply_text refusalreading_.alone refusalreading_.one refusalreading_.two refusalreading_.mismatch_in refusalreading_.refusal_from replyreading_.part_in replyreading_.verified_in replyreading_.collected_in replyreading_.made replyreading_.fields_in replyreading_.reply_from replyreading_.reply_of
wire_commands_on_literals = tt
