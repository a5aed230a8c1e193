-- A command that makes no call of the disk: what it does to its lane's session makes it the store's step.
use Rattle.disk_trait.specs.declared.disk.Disk.{Ghosts}
use Rattle.std.proofs.Common.{◌≡◌, ◌<◌, false, true, get_or, set, Some, Result, Ok, Err, refl, sym, ap, ◌∙◌}
use Rattle.wire_commands.specs.declared.reply.Reply.{Reply}
use Rattle.store_history.specs.declared.act.Act.{Act}
use Rattle.core_state.specs.Kept.{kept_at}
use Rattle.core_state.specs.declared.entering.Place.{Place}
use Rattle.core_state.specs.declared.kept.Session.{Session}
use Rattle.core_state.specs.declared.parts.Parts.{Parts}
use Rattle.store_stops.specs.declared.stop.Stop.{Stop}
use Rattle.store_stops.specs.declared.stop.Stop.TheVariants.{Refused, NoMemory, DiskFailed}
use Rattle.core_state.specs.Catalogue.{listed_by}
use Rattle.core_state.specs.Changes.{stays}
use Rattle.core_state.specs.Closing.{closes}
use Rattle.core_state.specs.Commands.{ActDoes, ActLeaves, change_at, ends_session, is_still}
use Rattle.store_history.specs.Replies.{may_answer}
use Rattle.core_state.specs.Unchanged.{SameKept}
use Rattle.core_state.specs.Wanted.{session_at}
use Rattle.core_state.proofs.Rows.{rows_same}
use Rattle.core_state.proofs.Commanding.{act_does, changed_does, changed_leaves, others_set, refused_does, refused_leaves, short_does, short_leaves, writes_set}
use Rattle.core_state.proofs.Sessions.{at_lane}
use Rattle.core_writer.specs.Stepped.{StepsQuietly}
use Rattle.core_writer.proofs.ArchiveLemmas.{goes_on}
use Rattle.core_writer.proofs.KeepLemmas.{found_stays}

pub false_true : false ≡ true → ⊥
false_true e = cc

module _ {D : Type 0} (d : Ghosts D) (old new : Parts D) (at : Place) (act : Act) (found left : Session) (result : Result Reply Stop) (lt : at.lane < 64) (here : found ≡ get_or old.sessions.items at.lane found)
    (disk : new.disk ≡ old.disk) (c : new.catalogue.listed ≡ old.catalogue.listed) (l : new.sessions.items ≡ set old.sessions.items at.lane left) (k : new.locks ≡ old.locks) (rows : new.indexes.items ≡ old.indexes.items) where
  same_kept : left ≡ found → SameKept old new
  same_kept same = record { catalogue = c; sessions = l ∙ ap (set old.sessions.items at.lane) same ∙ found_stays old.sessions.items at.lane found here; locks = k; indexes = rows }

  abbrev Quietly : Result Reply Stop → Type 0
  Quietly x = StepsQuietly found left (λ s lane. act_does s lane at.moment act) (may_answer act) x

  pub stepped_does : Quietly result → ActDoes d old new at act result
  stepped_does steps = by_result result steps
    where
      by_result : (x : Result Reply Stop) → Quietly x → ActDoes d old new at act x
      by_result (Ok reply) x = changed_does d old new at act reply disk x.text x.answers x.plain
          (λ s h. goes_on d old new s at.lane left (act_does s at.lane at.moment act) reply lt disk c l k rows
          (x.step s at.lane (h.shows).sound (at_lane old.sessions.items s at.lane found (h.shows).sessions ((h.shows).sound).lanes lt here)) h)
      by_result (Err (Refused r)) x = refused_does d old new at act r (Err (Refused r)) refl disk (same_kept x.same) x.text x.answers
          (λ s shows. x.step s at.lane shows.sound (at_lane old.sessions.items s at.lane found shows.sessions (shows.sound).lanes lt here))
      by_result (Err NoMemory) x = short_does d old new at act (Err NoMemory) refl disk (same_kept x.same)
      by_result (Err DiskFailed) x = absurd x.step

  pub stepped_leaves : change_at old at.lane act ≡ stays → ((reply : Reply) → listed_by act (Some reply) at.number (kept_at old at.lane) ≡ old.catalogue.listed)
      → is_still act ≡ false → ends_session act ≡ false → closes act (session_at old at.lane) ≡ false → Quietly result → ActLeaves d old new at act result
  stepped_leaves change listed other on closing_not steps = by_result result steps
    where
      by_result : (x : Result Reply Stop) → Quietly x → ActLeaves d old new at act x
      by_result (Ok reply) x = changed_leaves d old new at act reply disk x.plain change (c ∙ sym (listed reply)) other (λ ends. absurd (false_true (sym on ∙ ends))) (λ _. writes_set old new at.lane left lt l x.writes) (rows_same old new.indexes.items at.lane act rows) (others_set old new at.lane left l)
      by_result (Err (Refused r)) x = refused_leaves d old new at act r (Err (Refused r)) refl disk (same_kept x.same) (λ closing. false_true (sym closing_not ∙ closing))
      by_result (Err NoMemory) x = short_leaves d old new at act (Err NoMemory) refl disk (same_kept x.same) (λ closing. false_true (sym closing_not ∙ closing))
      by_result (Err DiskFailed) x = absurd x.step
