-- How a command of a writer stops before the disk is called.
use Rattle.std.specs.Prelude.{Bool, IsTrue}
use Rattle.store_types.specs.declared.refusal.Refusal.{Refusal}
use Rattle.wire_commands.specs.declared.reply.Reply.TheVariants as replies
use Rattle.wire_commands.specs.HasText.{ReplyHasText}
use Rattle.store_stops.specs.declared.stop.Stop.{Stop}
use Rattle.store_stops.specs.declared.stop.Stop.TheVariants.{Refused, NoMemory, DiskFailed}

-- the refusal is one of these, and has a spelling
abbrev pub RefusesBy : (Refusal → Bool) → Refusal → Type 0
RefusesBy refuses refusal = IsTrue (refuses refusal) × ReplyHasText (replies.Refused refusal)

-- so it is, or memory is wanting
abbrev pub StopsBy : (Refusal → Bool) → Stop → Type 0
StopsBy refuses (Refused refusal) = RefusesBy refuses refusal
StopsBy refuses NoMemory = Unit {0}
StopsBy refuses DiskFailed = ⊥
