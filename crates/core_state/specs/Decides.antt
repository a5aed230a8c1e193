-- What a command's tests decide, before it does anything.
use Rattle.std.specs.Prelude.{◌≡◌, ℕ, Result, Ok, Err}
use Rattle.store_types.specs.declared.refusal.Refusal.{Refusal}
use Rattle.wire_commands.specs.HasText.{ReplyHasText}
use Rattle.wire_commands.specs.declared.reply.Reply.TheVariants as replies
use Rattle.store_stops.specs.declared.stop.Stop.{Stop}
use Rattle.store_stops.specs.declared.stop.Stop.TheVariants.{Refused, NoMemory, DiskFailed}
use Rattle.core_state.specs.declared.parts.Parts.{Parts}
use Rattle.core_state.specs.Kept.{KeptAt, kept_at}

-- The value that the definition gives by what the act finds, or its refusal, which has a text. Want of memory is free, and a fault of the
-- disk never comes.
abbrev pub Decides : {A B D : Type 0} → (A → B) → (KeptAt → Result B Refusal) → Parts D → ℕ → Result A Stop → Type 0
Decides shown wanted parts lane (Ok x) = wanted (kept_at parts lane) ≡ Ok (shown x)
Decides shown wanted parts lane (Err (Refused refusal)) = (wanted (kept_at parts lane) ≡ Err refusal) × ReplyHasText (replies.Refused refusal)
Decides shown wanted parts lane (Err NoMemory) = Unit {0}
Decides shown wanted parts lane (Err DiskFailed) = ⊥
