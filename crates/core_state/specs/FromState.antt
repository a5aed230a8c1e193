-- A command that is answered exactly by what the core keeps, on any disk.
use Rattle.std.specs.Prelude.{◌≡◌, ℕ, Some, Result, IfOk}
use Rattle.store_types.specs.declared.refusal.Refusal.{Refusal}
use Rattle.store_types.specs.declared.order.TheConstants.{COMMAND_KIND}
use Rattle.wire_commands.specs.declared.reply.Reply.{Reply}
use Rattle.store_history.specs.declared.act.Answer.{Answer}
use Rattle.core_state.specs.declared.entering.Place.{Place}
use Rattle.core_state.specs.declared.parts.Parts.{Parts}
use Rattle.core_state.specs.declared.state.Core.{Core}
use Rattle.store_stops.specs.declared.stop.Stop.{Stop}
use Rattle.core_state.specs.Kept.{KeptAt, kept_at}
use Rattle.store_history.specs.Replies.{reply_told}
use Rattle.core_state.specs.Stops.{told}

-- by what the act finds
abbrev pub FromState : Type 0
FromState = KeptAt → Result Reply Refusal

-- what it is answered, or its refusal, as a reply
abbrev pub kept_reply : {D : Type 0} → FromState → Parts D → ℕ → Reply
kept_reply wanted old lane = reply_told (wanted (kept_at old lane))

-- it is answered so, unless memory is wanting or the disk failed
abbrev pub ActTells : {D : Type 0} → FromState → Parts D → Place → Result Reply Stop → Type 0
ActTells wanted old at result = IfOk (told result) (λ reply. reply ≡ kept_reply wanted old at.lane)

-- and so is an act that was done
abbrev pub CoreTells : {D E C : Type 0} → FromState → Core D E C → ℕ → Answer → Type 0
CoreTells wanted old lane answer = (answer.entry).kind ≡ COMMAND_KIND → answer.reply ≡ Some (kept_reply wanted old.parts lane)
