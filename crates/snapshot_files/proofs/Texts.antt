-- What is told has a spelling.
use Rattle.std.proofs.Common.{◌<◌, ◌≤◌, ◌^◌, ℕ, List, length, arith}
use Rattle.store_types.specs.declared.refusal.Refusal.TheVariants.{BadRange, Unreadable}
use Rattle.wire_commands.specs.declared.reply.Reply.TheVariants.{Part, Refused}
use Rattle.wire_commands.specs.HasText.{ReplyHasText}
use Rattle.wire_commands.specs.RefusalText.{refusal_text}
use Rattle.wire_commands.specs.ReplyText.{reply_text}

-- a part has at most 4,194,304 bytes
pub part_has_text : (total : ℕ) (bytes : List ℕ) → total < 2 ^ 64 → length bytes ≤ 4_194_304 → ReplyHasText (Part total bytes)
unfolding reply_text
part_has_text total bytes lt short = (lt, omega (arith, short))

pub bad_range_has_text : (size : ℕ) → size < 2 ^ 64 → ReplyHasText (Refused (BadRange size))
unfolding reply_text refusal_text
bad_range_has_text size lt = (lt, omega arith)

pub unreadable_has_text : (name : List ℕ) → length name < 256 → ReplyHasText (Refused (Unreadable name))
unfolding reply_text refusal_text
unreadable_has_text name lt = (lt, omega (arith, lt))
