-- What one act of a lane does, and how its reply is given.
use Rattle.std.specs.Prelude.{ℕ, ◌≡◌, ◌⊎◌, Bool, true, false, List, Option, Some, None, IsTrue}
use Rattle.port_traits.specs.declared.sink.Sink as sinks
use Rattle.port_traits.specs.Bytes.{WritesCounted}
use Rattle.wire_frames.specs.Frames.{frame}
use Rattle.store_types.specs.declared.refusal.Refusal.TheVariants.{NoMemory}
use Rattle.store_types.specs.declared.order.TheConstants.{PART_KIND, MEMORY_KIND}
use Rattle.wire_commands.specs.declared.reply.Reply.{Reply}
use Rattle.wire_commands.specs.declared.reply.Reply.TheVariants.{Refused}
use Rattle.wire_commands.specs.ReplyText.{reply_text}
use Rattle.store_model.specs.declared.ending.Ending.{Ending}
use Rattle.store_model.specs.declared.ending.Ending.TheVariants as endings
use Rattle.store_history.specs.declared.act.Act.{Act}
use Rattle.store_history.specs.declared.act.Act.TheVariants as acts
use Rattle.store_history.specs.declared.act.Event.{Event}
use Rattle.store_history.specs.History.{reply, lane, kind}
use Rattle.store_history.specs.Replies.{may_answer, may_give}
use Rattle.core_state.specs.History.{History, then_event}
use Rattle.turn_lock.specs.State.{SeatState}
use Rattle.seat_history.specs.Entered.{HasGrown}
use Rattle.lane.specs.declared.acts.Told.{Told}
use Rattle.lane.specs.AtOnce.{gave_all}

-- an act that has a reply, whatever comes: neither a collector's nor a lane's end
abbrev pub HasReply : Act → Type 0
HasReply acts.Start = ⊥
HasReply acts.Step = ⊥
HasReply acts.End = ⊥
HasReply a = Unit {0}

-- ---- an act

-- memory was wanting
abbrev pub IsWant : Act → Told → Type 0
IsWant act told = (act ≡ acts.Short) ⊎ (told.last ≡ true)

abbrev pub IsRefused : Reply → Type 0
IsRefused (Refused refusal) = Unit {0}
IsRefused r = ⊥

-- One act: it was entered, and this is its reply. What a read of the remote gave, and nothing else, is of kind 1.
pub record Did (before after : History → Type 0) (k : ℕ) (act : Act) (told : Told) : Type 0 where
  pub event : Event
  pub asks : event.act ≡ act
  pub lane_is : lane event ≡ k
  pub tells : reply event ≡ Some told.reply
  pub last : (event.answer).last ≡ told.last
  pub kind_is : IsWant act told → kind event ≡ MEMORY_KIND
  pub gave : kind event ≡ PART_KIND → IsTrue (may_give act told.reply)
  pub other : (kind event ≡ PART_KIND → ⊥) → IsTrue (may_answer act told.reply) ⊎ IsRefused told.reply
  pub history : (h : History) → before h → after (then_event h event)

-- what an act may tell on any disk and any remote: what its command's tests may answer, what a read of the remote gives, or another refusal
pub record MayTell (act : Act) (told : Told) : Type 0 where
  pub reply_is : IsTrue (may_answer act told.reply) ⊎ (IsTrue (may_give act told.reply) ⊎ IsRefused told.reply)
  pub want : IsWant act told → told.reply ≡ Refused NoMemory

-- ---- its reply

abbrev pub went_on : Option Ending → Bool
went_on None = true
went_on (Some e) = gave_all e

-- the lane ends where the sink failed, or where the answer is the last
abbrev pub IsEndedBy : Bool → Option Ending → Type 0
IsEndedBy is_last None = is_last ≡ false
IsEndedBy is_last (Some endings.NoMemory) = is_last ≡ true
IsEndedBy is_last (Some endings.SinkFault) = Unit {0}
IsEndedBy is_last (Some e) = ⊥

-- the reply was given to the sink, or a front of it
pub record Gives (told : Told) (taken taken' : Option (List ℕ)) (given given' : ℕ) (ending : Option Ending) : Type 0 where
  pub gave : WritesCounted taken taken' given given' (frame (reply_text told.reply)) (went_on ending)
  pub ended : IsEndedBy told.last ending

-- a sink was given it
abbrev pub GivesTo : {K : Type 0} → sinks.Ghosts K → Told → K → K → ℕ → ℕ → Option Ending → Type 0
GivesTo sink told into later given given' ending = Gives told (sink.taken into) (sink.taken later) given given' ending

-- ---- want of memory for a frame

-- it ends the lane, where the sink took its reply
abbrev pub short_ending : Option Ending → Ending
short_ending None = endings.NoMemory
short_ending (Some e) = e

pub record AnswersShort (before after : History → Type 0) (k : ℕ) (taken taken' : Option (List ℕ)) (given given' : ℕ) (ending : Ending) : Type 0 where
  pub told : Told
  pub stop : Option Ending
  pub did : Did before after k acts.Short told
  pub tells : MayTell acts.Short told
  pub gives : Gives told taken taken' given given' stop
  pub ending_is : ending ≡ short_ending stop

-- ---- of seats, by what they have of their own since another

-- the seat's own events since this one are the history's
abbrev pub Has : SeatState Event → SeatState Event → History → Type 0
Has start now h = HasGrown start now h.events

abbrev pub SeatDid : SeatState Event → SeatState Event → ℕ → Act → Told → Type 0
SeatDid old new k act told = (start : SeatState Event) → Did (Has start old) (Has start new) k act told

abbrev pub SeatAnswersShort : {K : Type 0} → sinks.Ghosts K → SeatState Event → SeatState Event → ℕ → K → K → ℕ → ℕ → Ending → Type 0
SeatAnswersShort sink old new k into later given given' ending =
    (start : SeatState Event) → AnswersShort (Has start old) (Has start new) k (sink.taken into) (sink.taken later) given given' ending
