-- A command that stops by its decision: what it does, leaves and tells then.
use Rattle.std.proofs.Common.{◌≡◌, ℕ, true, Result, Err, IfOk, IsErrOf, IsTrue, refl, sym, ap}
use Rattle.disk_trait.specs.declared.disk.Disk.{Ghosts}
use Rattle.store_types.specs.Chain.Refusing.{◌>>=◌}
use Rattle.store_types.specs.declared.refusal.Refusal.{Refusal}
use Rattle.wire_commands.specs.declared.reply.Reply.{Reply}
use Rattle.wire_commands.specs.declared.reply.Reply.TheVariants as replies
use Rattle.snapshot_files.specs.Reads.{StopHasText}
use Rattle.store_stops.specs.Stops.{IfRefused}
use Rattle.store_stops.specs.declared.stop.Stop.{Stop}
use Rattle.store_stops.specs.declared.stop.Stop.TheVariants.{Refused, NoMemory, DiskFailed}
use Rattle.store_model.specs.Store.{Store}
use Rattle.store_history.specs.declared.act.Act.{Act}
use Rattle.core_state.specs.declared.entering.Place.{Place}
use Rattle.core_state.specs.declared.parts.Parts.{Parts}
use Rattle.core_state.specs.Closing.{closes}
use Rattle.core_state.specs.Commands.{ActDoes, ActLeaves}
use Rattle.core_state.specs.Decides.{Decides}
use Rattle.core_state.specs.Holds.{Holds}
use Rattle.core_state.specs.Kept.{KeptAt, kept_at}
use Rattle.store_history.specs.Replies.{may_answer, reply_told}
use Rattle.core_state.specs.Stops.{told}
use Rattle.core_state.specs.Unchanged.{SameKept}
use Rattle.core_state.specs.Wanted.{session_at}
use Rattle.core_state.proofs.Commanding.{act_does, reads_leaves, reads_none, stopped_does}
use Rattle.core_state.proofs.FromState.{Stops, stopped}

module _ {A B D : Type 0} (shown : A → B) (wanted : KeptAt → Result B Refusal) (parts : Parts D) (lane : ℕ) where
  -- what holds of each refusal of the definition holds of how the command stops
  pub decided : (P : Refusal → Type 0) (stop : Stop) → Decides shown wanted parts lane (Err stop) → ((r : Refusal) → wanted (kept_at parts lane) ≡ Err r → P r) → IfRefused P stop
  decided P (Refused r) decides so = so r decides.0
  decided P NoMemory decides so = tt
  decided P DiskFailed decides so = absurd decides

  pub decided_text : (stop : Stop) → Decides shown wanted parts lane (Err stop) → StopHasText stop
  decided_text (Refused r) decides = decides.1
  decided_text NoMemory decides = tt
  decided_text DiskFailed decides = absurd decides

  unfailed : (stop : Stop) → Decides shown wanted parts lane (Err stop) → IsErrOf {T = A} (Err stop) DiskFailed → ⊥
  unfailed (Refused r) decides e = cc
  unfailed NoMemory decides e = cc
  unfailed DiskFailed decides e = decides

  -- whatever the command does behind it, it is answered so
  pub decided_tells : (deed : B → Result Reply Refusal) (stop : Stop) → Decides shown wanted parts lane (Err stop)
      → IfOk (told (Err stop)) (λ reply. reply ≡ reply_told (wanted (kept_at parts lane) >>= deed))
  decided_tells deed (Refused r) decides = sym (ap (λ o. reply_told (o >>= deed)) decides.0)
  decided_tells deed NoMemory decides = tt
  decided_tells deed DiskFailed decides = absurd decides

  pub decided_told : (deed : B → Result Reply Refusal) (stop : Stop) (result : Result Reply Stop) → Stops result stop → Decides shown wanted parts lane (Err stop)
      → IfOk (told result) (λ reply. reply ≡ reply_told (wanted (kept_at parts lane) >>= deed))
  decided_told deed stop result stops decides =
      stopped (λ r. IfOk (told r) (λ reply. reply ≡ reply_told (wanted (kept_at parts lane) >>= deed))) result stop stops (decided_tells deed stop decides)

module _ {A B D : Type 0} (d : Ghosts D) (shown : A → B) (wanted : KeptAt → Result B Refusal) (old new : Parts D) (at : Place) (act : Act) (stop : Stop) (result : Result Reply Stop)
    (stops : Stops result stop) (decides : Decides shown wanted old at.lane (Err stop)) (same : new.disk ≡ old.disk) (kept : SameKept old new) where
  -- each refusal of the definition is one of the act's, and the plain store's
  pub decided_does : ((r : Refusal) → wanted (kept_at old at.lane) ≡ Err r → IsTrue (may_answer act (replies.Refused r)))
      → ((s : Store) → Holds d old s → (r : Refusal) → wanted (kept_at old at.lane) ≡ Err r → act_does s at.lane at.moment act ≡ Err r)
      → ActDoes d old new at act result
  decided_does answers is =
      stopped_does d {A = A} old new at act (Err stop) stop result stops refl
      (reads_none d old.disk new.disk _ same (unfailed shown wanted old at.lane stop decides)) kept
      (decided_text shown wanted old at.lane stop decides)
      (decided shown wanted old at.lane (λ r. IsTrue (may_answer act (replies.Refused r))) stop decides answers)
      (λ s h. decided shown wanted old at.lane (λ r. act_does s at.lane at.moment act ≡ Err r) stop decides (is s h))

  -- it is no act that may not stop so
  pub decided_leaves : (closes act (session_at old at.lane) ≡ true → ⊥) → ActLeaves d old new at act result
  decided_leaves going =
      stopped (ActLeaves d old new at act) result stop stops
      (reads_leaves d old new at act (Err stop) ⊥ (reads_none d old.disk new.disk ⊥ same (λ f. f)) kept tt (λ _. same) (λ r e t. same) (λ closing. absurd (going closing))
      (λ f. absurd (unfailed_reply stop decides f)))
    where
      unfailed_reply : (stop : Stop) → Decides shown wanted old at.lane (Err stop) → IsErrOf {T = Reply} (Err stop) DiskFailed → ⊥
      unfailed_reply (Refused r) decides e = cc
      unfailed_reply NoMemory decides e = cc
      unfailed_reply DiskFailed decides e = decides
