-- How a SYNC ends behind a refusal.
use Rattle.std.proofs.Common.{◌≡◌, true, false, List, ℕ, length, refl, arith, length-append}
use Rattle.store_types.specs.declared.names.Digest32.{Digest32}
use Rattle.store_types.specs.declared.refusal.ChunkFault.TheVariants.{Other}
use Rattle.store_types.specs.declared.refusal.Refusal.TheVariants.{Damaged, NoMemory, Unreadable}
use Rattle.wire_commands.specs.declared.reply.Reply.{Reply}
use Rattle.wire_commands.specs.declared.reply.Reply.TheVariants.{Refused}
use Rattle.wire_commands.specs.ReplyText.{reply_text}
use Rattle.wire_commands.specs.RefusalText.{refusal_text}
use Rattle.wire_commands.specs.HasText.{ReplyHasText}
use Rattle.store_history.specs.Pulling.{asks, aborting, ends, rejected}
use Rattle.pull_steps.specs.Taken.{is_out_of_memory}

pub no_memory_text : ReplyHasText (Refused NoMemory)
unfolding reply_text refusal_text
no_memory_text = (tt, omega arith)

-- the digests of a chunk that has another length
pub damaged_text : (d : Digest32) → length d.0 ≡ 32 → ReplyHasText (Refused (Damaged d (Other d)))
unfolding reply_text refusal_text
damaged_text d is = ((is, is), simp length-append (omega (arith, is)))

pub rejected_short : (path : List ℕ) (reply : Reply) → is_out_of_memory reply ≡ true → asks (aborting NoMemory) ≡ rejected path reply
rejected_short path (Refused NoMemory) h = refl
rejected_short path (Refused refusal) h = cc
rejected_short path reply h = cc

pub rejected_other : (path : List ℕ) (reply : Reply) → is_out_of_memory reply ≡ false → ends (Unreadable path) reply ≡ rejected path reply
rejected_other path (Refused NoMemory) h = cc
rejected_other path (Refused refusal) h = refl
rejected_other path reply h = refl
