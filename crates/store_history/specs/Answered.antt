-- What holds of each event of a history, on any disk.
use Rattle.std.specs.Prelude.{◌≡◌, ◌≤◌, ◌+◌, ◌⊎◌, ◌==◌, ℕ, true, List, [], ◌∷◌, Option, Some, None, IsTrue, if◌then◌else◌}
use Rattle.store_types.specs.Times.{last_moment}
use Rattle.store_types.specs.declared.refusal.Refusal.TheVariants.{NoMemory, RemoteFault}
use Rattle.store_types.specs.declared.order.TheConstants.{MEMORY_KIND, FAULT_KIND}
use Rattle.wire_commands.specs.declared.reply.Reply.{Reply}
use Rattle.wire_commands.specs.declared.reply.Reply.TheVariants.{Refused}
use Rattle.wire_commands.specs.HasText.{ReplyHasText}
use Rattle.store_model.specs.Weave.{fault_refusal, first_fault}
use Rattle.store_history.specs.declared.act.Act.{Act}
use Rattle.store_history.specs.declared.act.Event.{Event}
use Rattle.store_history.specs.Acts.{Class, stepping, reaching, starting, sweeping, wanting, ending, class_of}
use Rattle.store_history.specs.History.{moment, kind, reply, EntryKind, kind_of, step_kind, pass_kind, short_kind, start_kind, close_kind, fault_kind, end_kind, remote_kind}
use Rattle.store_history.specs.Replies.{may_answer, may_end, may_give}

-- the place of the disk's fault, after an entry of this kind at this place
abbrev pub fault_after : ℕ → ℕ → Option ℕ → Option ℕ
fault_after place kind before = if kind == FAULT_KIND then first_fault place before else before

-- The kinds that an act's entry may have, after this first fault: an act is done only where there was none, and a lane's end meets
-- a fault only where there was none.
abbrev pub FitsKind : Class → Option ℕ → ℕ → Type 0
FitsKind stepping fault n = ((n ≡ 0) × (fault ≡ None)) ⊎ ((n ≡ 2) ⊎ (n ≡ 5))
FitsKind reaching fault n = (((n ≡ 0) ⊎ ((n ≡ 1) ⊎ (n ≡ 7))) × (fault ≡ None)) ⊎ ((n ≡ 2) ⊎ (n ≡ 5))
FitsKind starting fault n = (((n ≡ 0) ⊎ (n ≡ 3)) × (fault ≡ None)) ⊎ ((n ≡ 2) ⊎ (n ≡ 5))
FitsKind sweeping fault n = (((n ≡ 0) ⊎ ((n ≡ 1) ⊎ (n ≡ 4))) × (fault ≡ None)) ⊎ ((n ≡ 2) ⊎ (n ≡ 5))
FitsKind wanting fault n = n ≡ 2
FitsKind ending fault n = (n ≡ 6) ⊎ ((n ≡ 5) × (fault ≡ None))

-- a read of the remote has a reply, and a mark and a visit have none
abbrev pub GivesReply : Class → Act → Option Reply → Type 0
GivesReply reaching a (Some r) = IsTrue (may_give a r) × ReplyHasText r
GivesReply reaching a None = ⊥
GivesReply c a r = r ≡ None

-- What an act is answered whose entry is of this kind, after this first fault: what its command's tests may answer, what a collector's end
-- may, what a read of the remote gives, want of memory, or the fault of the disk or of the remote. A collector's start, a mark, a visit and a
-- lane's end have no reply.
abbrev pub FitsReply : Option ℕ → Act → EntryKind → Option Reply → Type 0
FitsReply fault a step_kind (Some r) = IsTrue (may_answer a r) × ReplyHasText r
FitsReply fault a short_kind r = r ≡ Some (Refused NoMemory)
FitsReply fault a fault_kind r = r ≡ Some (Refused (fault_refusal fault))
FitsReply fault a start_kind r = r ≡ None
FitsReply fault a pass_kind r = GivesReply (class_of a) a r
FitsReply fault a remote_kind r = r ≡ Some (Refused RemoteFault)
FitsReply fault a close_kind (Some r) = IsTrue (may_end r) × ReplyHasText r
FitsReply fault a end_kind r = r ≡ None
FitsReply fault a _ r = ⊥

-- an event behind so many others, the first fault among them, and this moment
pub record IsKept (place : ℕ) (fault : Option ℕ) (before : ℕ) (e : Event) : Type 0 where
  pub kind_is : FitsKind (class_of e.act) fault (kind e)
  pub tells : FitsReply fault e.act (kind_of (kind e)) (reply e)
  pub place_is : (e.answer).place ≡ place
  -- an entry of the reserve is one of want of memory
  pub last : (e.answer).last ≡ true → kind e ≡ MEMORY_KIND
  -- moments never fall
  pub risen : before ≤ moment e
  pub in_time : moment e ≤ last_moment

-- from this place on
abbrev pub AreKept : ℕ → Option ℕ → ℕ → List Event → Type 0
AreKept place fault before [] = Unit {0}
AreKept place fault before (e ∷ es) = IsKept place fault before e × AreKept (place + 1) (fault_after place (kind e) fault) (moment e) es

-- the place of the first fault
abbrev pub fault_in : ℕ → Option ℕ → List Event → Option ℕ
fault_in place fault [] = fault
fault_in place fault (e ∷ es) = fault_in (place + 1) (fault_after place (kind e) fault) es
