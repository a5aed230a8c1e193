-- What an act of a writer tells, by its command's clauses.
use Rattle.std.proofs.Common.{◌≡◌, ℕ, List, false, Result, Ok, Err, IfOk, IsTrue, refl}
use Rattle.disk_trait.specs.declared.disk.Disk.{Ghosts}
use Rattle.disk_trait.specs.declared.disk.DiskError.{DiskError}
use Rattle.store_types.specs.declared.names.Digest32.{Digest32}
use Rattle.store_types.specs.declared.refusal.ChunkFault.{ChunkFault}
use Rattle.store_types.specs.declared.refusal.Refusal.TheVariants.{Damaged, Unreadable}
use Rattle.wire_commands.specs.declared.command.Command.TheVariants.{OpenWriter, Previous}
use Rattle.wire_commands.specs.declared.reply.Reply.{Reply}
use Rattle.wire_commands.specs.declared.reply.Reply.TheVariants.{Refused}
use Rattle.store_history.specs.declared.act.Act.{Act}
use Rattle.store_history.specs.declared.act.Act.TheVariants.{Plain}
use Rattle.store_stops.specs.declared.stop.Stop.{Stop}
use Rattle.core_state.specs.declared.entering.Place.{Place}
use Rattle.core_state.specs.declared.parts.Parts.{Parts}
use Rattle.core_state.specs.Calls.{ActCalls}
use Rattle.core_state.specs.FromState as from_states
use Rattle.core_state.specs.Kept.{kept_at}
use Rattle.store_history.specs.Replies.{may_answer}
use Rattle.core_state.specs.Stops.{told}
use Rattle.core_state.specs.Tells.{ActTells, plain_words, untold}
use Rattle.core_state.specs.Unreadables.{ActUnreadable}
use Rattle.core_state.proofs.Telling.{asks_none, calls_asked, needs_none, plain_tells}
use Rattle.core_writer.specs.AnsweredBy.{writer_told}
use Rattle.core_writer.specs.Previous.{NotesPooled, asked_of_base}
use Rattle.core_writer.specs.WriterWords.{TakesLocks, writer_words}

-- nothing is said
untold_by : {D : Type 0} (d : Ghosts D) (disk : D) (outcome : Result Reply DiskError) (k : Rattle.core_state.specs.Kept.KeptAt) → IfOk outcome (untold d disk k)
untold_by d disk (Ok reply) k = tt
untold_by d disk (Err e) k = tt

module _ {D : Type 0} (d : Ghosts D) (old new : Parts D) (at : Place) (result : Result Reply Stop) where
  abbrev MayBe : Act → Type 0
  MayBe act = IfOk (told result) (λ reply. IsTrue (may_answer act reply))

  -- an act that asks for no file and needs no chunk
  pub told_plain : (act : Act) → ((name : List ℕ) → may_answer act (Refused (Unreadable name)) ≡ false) → ((digest : Digest32) (found : ChunkFault) → may_answer act (Refused (Damaged digest found)) ≡ false)
      → MayBe act → ActTells (plain_words untold) d old new at result
  told_plain act unread undamaged may = plain_tells d old new at act untold result unread undamaged may (untold_by d old.disk (told result) (kept_at old at.lane))

  pub told_opened : (snapshot : List ℕ) → MayBe (Plain (OpenWriter snapshot)) → from_states.ActTells (writer_told snapshot) old at result → TakesLocks old new at.lane result
      → ActTells (writer_words (Plain (OpenWriter snapshot))) d old new at result
  told_opened snapshot may answers takes = record {
    answers = answers;
    unreadable = asks_none d old.disk (Plain (OpenWriter snapshot)) result may (λ name. refl);
    damaged = needs_none d old.disk (Plain (OpenWriter snapshot)) result may (λ digest. ⊥) (λ digest found. refl);
    calls = λ honest. tt;
    notes = takes;
  }

  pub told_previous : (file : List ℕ) (offset : ℕ) → MayBe (Plain (Previous file offset)) → ActUnreadable d (asked_of_base file offset) old at result → ActCalls d (asked_of_base file offset) old new at
      → NotesPooled d old new at.lane file offset result → ActTells (writer_words (Plain (Previous file offset))) d old new at result
  told_previous file offset may unreadable calls notes = record {
    answers = untold_by d old.disk (told result) (kept_at old at.lane);
    unreadable = unreadable;
    damaged = needs_none d old.disk (Plain (Previous file offset)) result may (λ digest. ⊥) (λ digest found. refl);
    calls = calls_asked d old.disk new.disk (asked_of_base file offset (kept_at old at.lane)) calls;
    notes = notes;
  }
