-- What an act on the store as a whole tells, as its command ended.
use Rattle.std.proofs.Common.{◌≡◌, ℕ, false, List, None, Some, Result, IfOk, IsTrue, subst, sym}
use Rattle.disk_trait.specs.declared.disk.Disk.{Ghosts}
use Rattle.store_types.specs.declared.names.Digest32.{Digest32}
use Rattle.store_types.specs.declared.refusal.ChunkFault.{ChunkFault}
use Rattle.store_types.specs.declared.refusal.Refusal.TheVariants.{Damaged, Unreadable}
use Rattle.wire_commands.specs.declared.reply.Reply.{Reply}
use Rattle.wire_commands.specs.declared.reply.Reply.TheVariants.{Refused}
use Rattle.store_history.specs.declared.act.Act.{Act}
use Rattle.store_history.specs.Replies.{may_answer}
use Rattle.store_stops.specs.declared.stop.Stop.{Stop}
use Rattle.core_state.specs.declared.entering.Place.{Place}
use Rattle.core_state.specs.declared.parts.Parts.{Parts}
use Rattle.core_state.specs.Kept.{KeptAt, kept_at}
use Rattle.core_state.specs.Settles.{kind_by, reply_by}
use Rattle.core_state.specs.Stops.{told}
use Rattle.core_state.specs.Tells.{ActTells}
use Rattle.core_state.specs.Unreadables.{ActUnreadable, TellsUnreadable}
use Rattle.core_state.proofs.Telling.{asks_none, needs_none}
use Rattle.core_admin.specs.AdminActs.{admin_words, asked_of_admin}
use Rattle.core_admin.specs.AnsweredBy.{ActAnswersBy}

module _ {D : Type 0} (d : Ghosts D) (old new : Parts D) (at : Place) (act : Act) (result : Result Reply Stop)
    (undamaged : (digest : Digest32) (found : ChunkFault) → may_answer act (Refused (Damaged digest found)) ≡ false) (may : IfOk (told result) (λ reply. IsTrue (may_answer act reply)))
    (so : ActAnswersBy d old at act result) where
  -- that a file is unreadable too
  pub file_tells : ActUnreadable d (asked_of_admin act) old at result → ActTells (admin_words act) d old new at result
  file_tells unreadable = record {
    answers = so;
    unreadable = unreadable;
    damaged = needs_none d old.disk act result may (λ digest. ⊥) undamaged;
    calls = λ honest. tt;
    notes = tt;
  }

  -- it asks for no file
  pub admin_tells : ((name : List ℕ) → may_answer act (Refused (Unreadable name)) ≡ false) → ((k : KeptAt) → asked_of_admin act k ≡ None) → ActTells (admin_words act) d old new at result
  admin_tells unread none =
      file_tells (subst (λ a. TellsUnreadable d old.disk a (kind_by (told result)) (Some (reply_by (told result)))) (sym (none (kept_at old at.lane))) (asks_none d old.disk act result may unread))
