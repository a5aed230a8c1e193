-- A command that stops before the disk is called.
use Rattle.std.proofs.Common.{◌≡◌, ◌<◌, ℕ, Bool, true, length, get_or, set, Result, Err, IsErrAnd, IsTrue, refl, sym, subst, ◌∙◌, arith}
use Rattle.std.proofs.lemmas.List.{get_or_default, get_or-set_same}
use Rattle.std.specs.Prelude.{IsErrOf}
use Rattle.disk_trait.specs.declared.disk.Disk.{Ghosts}
use Rattle.store_types.specs.declared.refusal.Refusal.{Refusal}
use Rattle.wire_commands.specs.declared.reply.Reply.{Reply}
use Rattle.wire_commands.specs.declared.reply.Reply.TheVariants as replies
use Rattle.store_model.specs.Store.{Store}
use Rattle.store_history.specs.declared.act.Act.{Act}
use Rattle.core_state.specs.declared.entering.Place.{Place}
use Rattle.core_state.specs.declared.kept.Session.{Session}
use Rattle.core_state.specs.declared.kept.Session.TheVariants.{Idle}
use Rattle.core_state.specs.declared.parts.Parts.{Parts}
use Rattle.store_stops.specs.declared.stop.Stop.{Stop}
use Rattle.store_stops.specs.declared.stop.Stop.TheVariants.{Refused, NoMemory, DiskFailed}
use Rattle.core_state.specs.Commands.{ActDoes}
use Rattle.core_state.specs.Holds.{Holds}
use Rattle.store_history.specs.Replies.{may_answer}
use Rattle.snapshot_files.specs.Reads.{StopHasText}
use Rattle.store_stops.specs.Stops.{IfRefused}
use Rattle.core_state.specs.Unchanged.{SameKept}
use Rattle.core_state.specs.Wanted.{session_at}
use Rattle.core_state.proofs.Commanding.{act_does, reads_none, stopped_does}
use Rattle.core_writer.specs.Stopping.{StopsBy}

stops_text : (refuses : Refusal → Bool) (stop : Stop) → StopsBy refuses stop → StopHasText stop
stops_text refuses (Refused refusal) h = h.1
stops_text refuses NoMemory h = tt
stops_text refuses DiskFailed h = absurd h

stops_kind : (refuses : Refusal → Bool) (may : Refusal → Bool) (stop : Stop) → ((refusal : Refusal) → refuses refusal ≡ true → may refusal ≡ true) → StopsBy refuses stop → IfRefused (λ refusal. IsTrue (may refusal)) stop
stops_kind refuses may (Refused refusal) so h = so refusal h.0
stops_kind refuses may NoMemory so h = tt
stops_kind refuses may DiskFailed so h = absurd h

stops_fine : (refuses : Refusal → Bool) (stop : Stop) → StopsBy refuses stop → (let read : Result (Unit {0}) Stop = Err stop in IsErrOf read DiskFailed) → ⊥
stops_fine refuses (Refused refusal) h e = cc
stops_fine refuses NoMemory h e = cc
stops_fine refuses DiskFailed h e = absurd h

module _ {D : Type 0} (d : Ghosts D) where
  pub early_does : (refuses : Refusal → Bool) (old new : Parts D) (at : Place) (act : Act) (stop : Stop) (result : Result Reply Stop) → IsErrAnd result (λ x. x ≡ stop) → new.disk ≡ old.disk → SameKept old new
      → StopsBy refuses stop → ((refusal : Refusal) → refuses refusal ≡ true → may_answer act (replies.Refused refusal) ≡ true)
      → ((s : Store) → Holds d old s → IfRefused (λ refusal. act_does s at.lane at.moment act ≡ Err refusal) stop)
      → ActDoes d old new at act result
  early_does refuses old new at act stop result stops same kept by may is =
      let read : Result (Unit {0}) Stop = Err stop in
      stopped_does d old new at act read stop result stops refl (reads_none d old.disk new.disk _ same (stops_fine refuses stop by)) kept
      (stops_text refuses stop by) (stops_kind refuses (λ r. may_answer act (replies.Refused r)) stop may by) is

-- stopped by this refusal
pub err_as : (result : Result Reply Stop) (refusal is : Refusal) → refusal ≡ is → IsErrAnd result (λ x. x ≡ Refused refusal) → IsErrAnd result (λ x. x ≡ Refused is)
err_as result refusal is e stops = subst (λ r. IsErrAnd result (λ x. x ≡ Refused r)) e stops

-- the session at a lane
pub session_found : {D : Type 0} (parts : Parts D) (lane : ℕ) (found : Session) → lane < 64 → found ≡ get_or parts.sessions.items lane found → session_at parts lane ≡ found
session_found parts lane found lt is =
    let items = parts.sessions.items in
    let within : lane < length items = omega (arith, parts.lanes, parts.sessions.ok.0, lt) in
    sym (is ∙ get_or_default items lane found Idle within)

-- and after it was set
pub idle_set : {D : Type 0} (parts : Parts D) (lane : ℕ) (x : Session) → lane < 64 → x ≡ Idle → get_or (set parts.sessions.items lane x) lane Idle ≡ Idle
idle_set parts lane x lt is =
    let within : lane < length parts.sessions.items = omega (arith, parts.lanes, parts.sessions.ok.0, lt) in
    get_or-set_same parts.sessions.items lane x Idle within ∙ is
