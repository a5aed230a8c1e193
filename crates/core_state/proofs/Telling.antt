-- What an act tells, behind its entry: by how its command ended, and where it was refused before it was done.
use Rattle.std.proofs.Common.{◌≡◌, ◌≤◌, ◌+◌, ℕ, List, Option, Some, None, IfSome, IsSomeAnd, Result, Ok, Err, IfOk, IsTrue, true, false, refl, sym, ap, subst, ◌∙◌, arith}
use Rattle.disk_trait.specs.declared.disk.Disk.{Ghosts}
use Rattle.disk_trait.specs.declared.disk.DiskError.{DiskError}
use Rattle.disk_trait.specs.declared.disk.DiskError.TheVariants as disks
use Rattle.disk_trait.specs.Files.{Files}
use Rattle.port_traits.specs.Readings.{Readings}
use Rattle.store_types.specs.declared.names.Digest32.{Digest32}
use Rattle.store_types.specs.declared.order.TheConstants.{COMMAND_KIND, FAULT_KIND, MEMORY_KIND}
use Rattle.store_types.specs.declared.refusal.ChunkFault.{ChunkFault}
use Rattle.store_types.specs.declared.refusal.Refusal.{Refusal}
use Rattle.store_types.specs.declared.refusal.Refusal.TheVariants as refusals
use Rattle.wire_commands.specs.declared.reply.Reply.{Reply}
use Rattle.wire_commands.specs.declared.reply.Reply.TheVariants as replies
use Rattle.store_history.specs.declared.act.Act.{Act}
use Rattle.store_history.specs.declared.act.Answer.{Answer}
use Rattle.store_stops.specs.declared.stop.Stop.{Stop}
use Rattle.store_stops.specs.declared.stop.Stop.TheVariants.{Refused, NoMemory, DiskFailed}
use Rattle.core_state.specs.declared.entering.Place.{Place}
use Rattle.core_state.specs.declared.parts.Parts.{Parts}
use Rattle.core_state.specs.declared.state.Core.{Core}
use Rattle.core_state.specs.Begins.{IsAdmitted, Refuses, short as is_out_of_memory, halted as is_halted}
use Rattle.core_state.specs.Calls.{CallsForAsked}
use Rattle.core_state.specs.Commands.{IsNoRefusal}
use Rattle.core_state.specs.Damages.{TellsDamaged}
use Rattle.core_state.specs.Kept.{KeptAt, kept_at}
use Rattle.store_history.specs.Replies.{may_answer}
use Rattle.core_state.specs.Settles.{Settles, kind_by, reply_by}
use Rattle.core_state.specs.Stops.{ended_by, told}
use Rattle.core_state.specs.Tells.{ActTells, CallsBy, CoreTells, Words, asked_calls, plain_words}
use Rattle.core_state.specs.Unreadables.{Asked, TellsUnreadable, Way, as_listing, at_entry, from_offset, known, read_with}
use Rattle.core_state.proofs.DamageLemmas.{damages_failed, damages_none, damages_stopped, halted_undamaged, memory_undamaged}
use Rattle.core_state.proofs.FromState.{undone_kind}
use Rattle.core_state.proofs.Unreadables.{tells_failed, tells_other, tells_refused}

false_true : false ≡ true → ⊥
false_true e = cc

-- ---- how often the disk was called

module _ {D : Type 0} (d : Ghosts D) where
  -- not at all
  pub calls_none : (disk : D) (most : Files → Option ℕ) → CallsBy d disk disk most
  calls_none disk most honest = by_count (most (d.content disk))
    where
      by_count : (o : Option ℕ) → IfSome o (λ count. d.calls disk ≤ d.calls disk + count)
      by_count None = tt
      by_count (Some count) = omega arith

  -- for the file that is asked for
  pub calls_asked : (old new : D) (asked : Option Asked) → CallsForAsked d old new asked → CallsBy d old new (asked_calls asked)
  calls_asked old new asked calls = by_asked asked refl
    where
      by_asked : (o : Option Asked) → asked ≡ o → CallsBy d old new (asked_calls o)
      by_asked None is honest = calls.none is honest
      by_asked (Some a) is honest = by_way a.path a.way is honest
        where
          by_way : (path : List ℕ) (way : Way) → asked ≡ Some (record { path = path; way = way }) → CallsBy d old new (asked_calls (Some (record { path = path; way = way })))
          by_way path (from_offset whole offset) is honest = calls.part path whole offset is honest
          by_way path (at_entry telling) is honest = tt
          by_way path (read_with reading) is honest = tt
          by_way path as_listing is honest = tt
          by_way path known is honest = tt

-- ---- an act that was done, as its command tells

answered_by : (P : Reply → Type 0) (outcome : Result Reply DiskError) → IfOk outcome P → kind_by outcome ≡ COMMAND_KIND → P (reply_by outcome)
answered_by P (Ok reply) p k = p
answered_by P (Err disks.NoMemory) p k = absurd (omega (arith, k))
answered_by P (Err disks.Failed) p k = absurd (omega (arith, k))

done_ended : (reply : Reply) → IsNoRefusal reply → ended_by (Some reply) ≡ Ok reply
done_ended (replies.Refused refusal) plain = absurd plain
done_ended reply plain = refl

noted_by : (P : Result Reply Stop → Type 0) (result : Result Reply Stop) → IfOk result IsNoRefusal → P result → kind_by (told result) ≡ COMMAND_KIND → P (ended_by (Some (reply_by (told result))))
noted_by P (Ok reply) plain p k = subst P (sym (done_ended reply plain)) p
noted_by P (Err (Refused refusal)) plain p k = p
noted_by P (Err NoMemory) plain p k = absurd (omega (arith, k))
noted_by P (Err DiskFailed) plain p k = absurd (omega (arith, k))

module _ {D E C : Type 0} (words : Words D) (d : Ghosts D) (readings : C → Option Readings) where
  pub done_tells : (old mid acted new : Core D E C) (lane : ℕ) (at : Place) (result : Result Reply Stop) (answer : Answer)
      → IsAdmitted readings old mid lane at → IfOk result IsNoRefusal → ActTells words d mid.parts acted.parts at result → Settles d acted new at.lane at.moment (told result) answer
      → CoreTells words d old new lane answer
  done_tells old mid acted new lane at result answer admitted plain tells e =
      subst (λ l. CoreTells words d old new l answer) admitted.lane_is (record {
        answers = λ k. subst (λ p. IsSomeAnd answer.reply (words.answers d p.disk (kept_at p at.lane))) before
            (subst (λ r. IsSomeAnd r (words.answers d (mid.parts).disk (kept_at mid.parts at.lane))) (sym e.reply_is)
            (answered_by (words.answers d (mid.parts).disk (kept_at mid.parts at.lane)) (told result) tells.answers (sym kind ∙ k)));
        unreadable = subst (λ p. TellsUnreadable d p.disk (words.asked (kept_at p at.lane)) (answer.entry).kind answer.reply) before
            (subst (λ n. TellsUnreadable d (mid.parts).disk (words.asked (kept_at mid.parts at.lane)) n answer.reply) (sym kind)
            (subst (λ r. TellsUnreadable d (mid.parts).disk (words.asked (kept_at mid.parts at.lane)) (kind_by (told result)) r) (sym e.reply_is) tells.unreadable));
        damaged = subst (λ p. TellsDamaged d p.disk (words.may_name (kept_at p at.lane)) (words.damage (kept_at p at.lane)) (answer.entry).kind answer.reply) before
            (subst (λ n. TellsDamaged d (mid.parts).disk (words.may_name (kept_at mid.parts at.lane)) (words.damage (kept_at mid.parts at.lane)) n answer.reply) (sym kind)
            (subst (λ r. TellsDamaged d (mid.parts).disk (words.may_name (kept_at mid.parts at.lane)) (words.damage (kept_at mid.parts at.lane)) (kind_by (told result)) r) (sym e.reply_is) tells.damaged));
        calls = subst (λ p. CallsBy d p.disk (new.parts).disk (words.calls (kept_at p at.lane))) before
            (subst (λ p. CallsBy d (mid.parts).disk p.disk (words.calls (kept_at mid.parts at.lane))) (sym e.parts) tells.calls);
        notes = λ k. subst (λ p. words.notes d p new.parts at.lane (ended_by answer.reply)) before
            (subst (λ p. words.notes d mid.parts p at.lane (ended_by answer.reply)) (sym e.parts)
            (subst (λ r. words.notes d mid.parts acted.parts at.lane (ended_by r)) (sym e.reply_is)
            (noted_by (words.notes d mid.parts acted.parts at.lane) result plain tells.notes (sym kind ∙ k))));
      })
    where
      before : mid.parts ≡ old.parts
      before = ((admitted.ready).begun).parts

      kind : (answer.entry).kind ≡ kind_by (told result)
      kind = ap (λ x. x.kind) e.entry

  -- one that was refused before it was done
  pub refused_tells : (old new : Core D E C) (lane : ℕ) (answer : Answer) → Refuses d readings old new lane answer → CoreTells words d old new lane answer
  refused_tells old new lane answer refuses = record {
    answers = λ k. absurd (undone_kind d readings old new lane answer refuses k);
    unreadable = tells_refused d readings old new lane (old.parts).disk (words.asked (kept_at old.parts lane)) answer refuses;
    damaged = damages_refused refuses;
    calls = subst (λ p. CallsBy d (old.parts).disk p.disk (words.calls (kept_at old.parts lane))) (sym (parts_stay refuses)) (calls_none d (old.parts).disk (words.calls (kept_at old.parts lane)));
    notes = λ k. absurd (undone_kind d readings old new lane answer refuses k);
  }
    where
      parts_stay : Refuses d readings old new lane answer → new.parts ≡ old.parts
      parts_stay (is_out_of_memory is) = (is.entered).parts ∙ (is.begun).parts
      parts_stay (is_halted is) = (is.entered).parts ∙ (is.begun).parts

      damages_refused : Refuses d readings old new lane answer
          → TellsDamaged d (old.parts).disk (words.may_name (kept_at old.parts lane)) (words.damage (kept_at old.parts lane)) (answer.entry).kind answer.reply
      damages_refused (is_out_of_memory is) =
          let kind : (answer.entry).kind ≡ MEMORY_KIND = ap (λ x. x.kind) (is.entered).entry in
          damages_stopped d (old.parts).disk _ _ _ answer.reply (λ digest f e. memory_undamaged digest f (sym (is.entered).reply_is ∙ e)) (λ k. absurd (omega (arith, k, kind)))
      damages_refused (is_halted is) =
          let kind : (answer.entry).kind ≡ FAULT_KIND = ap (λ x. x.kind) (is.entered).entry in
          damages_stopped d (old.parts).disk _ _ _ answer.reply (λ digest f e. halted_undamaged is.first digest f (sym (is.entered).reply_is ∙ e)) (λ k. absurd (omega (arith, k, kind)))

-- ---- an act that asks for no file, or needs no chunk

module _ {D : Type 0} (d : Ghosts D) (disk : D) (act : Act) (result : Result Reply Stop) (may : IfOk (told result) (λ reply. IsTrue (may_answer act reply))) where
  same_reply : (r : Reply) (refusal : Refusal) → Some r ≡ Some (replies.Refused refusal) → r ≡ replies.Refused refusal
  same_reply r refusal e = cc

  never : (r : Reply) (refusal : Refusal) → IsTrue (may_answer act r) → may_answer act (replies.Refused refusal) ≡ false → Some r ≡ Some (replies.Refused refusal) → ⊥
  never r refusal may none e = false_true (sym none ∙ ap (may_answer act) (sym (same_reply r refusal e)) ∙ may)

  -- none of its replies names a file
  pub asks_none : ((name : List ℕ) → may_answer act (replies.Refused (refusals.Unreadable name)) ≡ false)
      → TellsUnreadable d disk None (kind_by (told result)) (Some (reply_by (told result)))
  asks_none unread = by_outcome (told result) may
    where
      by_outcome : (outcome : Result Reply DiskError) → IfOk outcome (λ reply. IsTrue (may_answer act reply)) → TellsUnreadable d disk None (kind_by outcome) (Some (reply_by outcome))
      by_outcome (Ok reply) may = tells_other d disk None 0 (Some reply) (λ name. never reply (refusals.Unreadable name) may (unread name)) refl
      by_outcome (Err e) may = tells_failed d disk None e

  -- none names a chunk
  pub needs_none : (may_name : Digest32 → Type 0) → ((digest : Digest32) (found : ChunkFault) → may_answer act (replies.Refused (refusals.Damaged digest found)) ≡ false)
      → TellsDamaged d disk may_name (λ files. None) (kind_by (told result)) (Some (reply_by (told result)))
  needs_none may_name undamaged = by_outcome (told result) may
    where
      by_outcome : (outcome : Result Reply DiskError) → IfOk outcome (λ reply. IsTrue (may_answer act reply))
          → TellsDamaged d disk may_name (λ files. None) (kind_by outcome) (Some (reply_by outcome))
      by_outcome (Ok reply) may = damages_none d disk may_name (λ files. None) 0 (Some reply) (λ digest found. never reply (refusals.Damaged digest found) may (undamaged digest found)) (λ honest. refl)
      by_outcome (Err e) may = damages_failed d disk may_name (λ files. None) e

-- neither
pub plain_tells : {D : Type 0} (d : Ghosts D) (old new : Parts D) (at : Place) (act : Act) (answers : Ghosts D → D → KeptAt → Reply → Type 0) (result : Result Reply Stop)
    → ((name : List ℕ) → may_answer act (replies.Refused (refusals.Unreadable name)) ≡ false)
    → ((digest : Digest32) (found : ChunkFault) → may_answer act (replies.Refused (refusals.Damaged digest found)) ≡ false)
    → IfOk (told result) (λ reply. IsTrue (may_answer act reply)) → IfOk (told result) (answers d old.disk (kept_at old at.lane)) → ActTells (plain_words answers) d old new at result
plain_tells d old new at act answers result unread undamaged may so = record {
  answers = so;
  unreadable = asks_none d old.disk act result may unread;
  damaged = needs_none d old.disk act result may (λ digest. ⊥) undamaged;
  calls = λ honest. tt;
  notes = tt;
}

-- what is told of an honest disk is told of each reply
pub each_honest : (honest : Type 0) (P : Reply → Type 0) (outcome : Result Reply DiskError) → (honest → IfOk outcome P) → IfOk outcome (λ reply. honest → P reply)
each_honest honest P (Ok reply) so = so
each_honest honest P (Err e) so = tt
