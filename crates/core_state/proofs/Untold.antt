-- A refusal that names a file or a chunk is told by no act but one whose own tests tell it. And what an act tells that has no words.
use Rattle.disk_trait.specs.declared.disk.Disk.{Ghosts}
use Rattle.std.proofs.Common.{◌≡◌, ℕ, true, false, Option, None, Some, IsSomeAnd, refl, sym, ap, subst, ◌∙◌, arith}
use Rattle.store_types.specs.declared.names.Digest32.{Digest32}
use Rattle.store_types.specs.declared.order.TheConstants.{COMMAND_KIND}
use Rattle.store_types.specs.declared.refusal.ChunkFault.{ChunkFault}
use Rattle.store_types.specs.declared.refusal.Refusal.{Refusal}
use Rattle.store_types.specs.declared.refusal.Refusal.TheVariants.{Damaged, Unreadable, NoMemory, DiskFault, Halted}
use Rattle.wire_commands.specs.declared.reply.Reply.{Reply}
use Rattle.wire_commands.specs.declared.reply.Reply.TheVariants.{Refused}
use Rattle.store_history.specs.declared.act.Act.{Act}
use Rattle.store_history.specs.declared.act.Act.TheVariants.{RemoteList, RemoteFile, RemoteChunk, Start, Step, Short, End}
use Rattle.store_history.specs.declared.act.Answer.{Answer}
use Rattle.core_state.specs.declared.state.Core.{Core}
use Rattle.core_state.specs.Answers.{HasCause, done, short, failed, halted, EndHasCause, ended, end_failed, StartHasCause, start_opens, start_as_any, StepHasCause, step_passes, step_ends, step_as_any, IsCaused}
use Rattle.store_history.specs.RemoteDisk.{is_remotes}
use Rattle.core_state.specs.Kept.{KeptAt, kept_at}
use Rattle.store_history.specs.Replies.{may_answer, may_end}
use Rattle.core_state.specs.Tells.{CoreTells, plain_words}
use Rattle.core_state.specs.Tells as tells
use Rattle.core_state.specs.Unreadables.{Asked, TellsUnreadable}
use Rattle.core_state.proofs.DamageLemmas.{damages_none}
use Rattle.core_state.proofs.Unreadables.{tells_other}

false_true : false ≡ true → ⊥
false_true e = cc

same_reply : (r s : Reply) → Some r ≡ Some s → r ≡ s
same_reply r s e = cc

none_reply : (r : Reply) → None ≡ Some r → ⊥
none_reply r e = cc

-- ---- a refusal that an act is not told

-- no act is refused so but by its command's own tests
abbrev IsTested : Refusal → Type 0
IsTested (Damaged digest found) = Unit {0}
IsTested (Unreadable name) = Unit {0}
IsTested refusal = ⊥

apart : (refusal other : Refusal) → IsTested refusal → (IsTested other → ⊥) → Refused other ≡ Refused refusal → ⊥
apart refusal other is unlike e = unlike (subst IsTested (sym (inner e)) is)
  where
    inner : Refused other ≡ Refused refusal → other ≡ refusal
    inner h = cc

module _ {D E C : Type 0} (d : Ghosts D) (old new : Core D E C) (refusal : Refusal) (tested : IsTested refusal) where
  untold : (act : Act) (answer : Answer) → HasCause d old new act answer → may_answer act (Refused refusal) ≡ false → answer.reply ≡ Some (Refused refusal) → ⊥
  untold act answer (done before kind reply is may) never e =
      false_true (sym never ∙ ap (may_answer act) (sym (same_reply reply (Refused refusal) (sym is ∙ e))) ∙ may)
  untold act answer (short kind is) never e = apart refusal NoMemory tested (λ h. h) (same_reply (Refused NoMemory) (Refused refusal) (sym is ∙ e))
  untold act answer (failed before kind is fault risen) never e = apart refusal DiskFault tested (λ h. h) (same_reply (Refused DiskFault) (Refused refusal) (sym is ∙ e))
  untold act answer (halted place fault kind is) never e = apart refusal (Halted place) tested (λ h. h) (same_reply (Refused (Halted place)) (Refused refusal) (sym is ∙ e))

  end_untold : (answer : Answer) → EndHasCause d old new answer → answer.reply ≡ Some (Refused refusal) → ⊥
  end_untold answer (ended kind is) e = none_reply (Refused refusal) (sym is ∙ e)
  end_untold answer (end_failed before kind is fault risen) e = apart refusal DiskFault tested (λ h. h) (same_reply (Refused DiskFault) (Refused refusal) (sym is ∙ e))

  start_untold : (act : Act) (answer : Answer) → StartHasCause d old new act answer → may_answer act (Refused refusal) ≡ false → answer.reply ≡ Some (Refused refusal) → ⊥
  start_untold act answer (start_opens before kind is) never e = none_reply (Refused refusal) (sym is ∙ e)
  start_untold act answer (start_as_any cause) never e = untold act answer cause never e

  step_untold : (act : Act) (answer : Answer) → StepHasCause d old new act answer → may_answer act (Refused refusal) ≡ false → may_end (Refused refusal) ≡ false
      → answer.reply ≡ Some (Refused refusal) → ⊥
  step_untold act answer (step_passes before kind is) never none e = none_reply (Refused refusal) (sym is ∙ e)
  step_untold act answer (step_ends before kind reply is may) never none e =
      false_true (sym none ∙ ap may_end (sym (same_reply reply (Refused refusal) (sym is ∙ e))) ∙ may)
  step_untold act answer (step_as_any cause) never none e = untold act answer cause never e

  short_untold : (answer : Answer) → answer.reply ≡ Some (Refused NoMemory) → answer.reply ≡ Some (Refused refusal) → ⊥
  short_untold answer is e = apart refusal NoMemory tested (λ h. h) (same_reply (Refused NoMemory) (Refused refusal) (sym is ∙ e))

  pub untold_by : (act : Act) (answer : Answer) → is_remotes act ≡ false → IsCaused d old new act answer → may_answer act (Refused refusal) ≡ false → may_end (Refused refusal) ≡ false
      → answer.reply ≡ Some (Refused refusal) → ⊥
  untold_by End answer alone cause never none e = end_untold answer cause e
  untold_by Start answer alone cause never none e = start_untold Start answer cause never e
  untold_by Step answer alone cause never none e = step_untold Step answer cause never none e
  untold_by Short answer alone cause never none e = short_untold answer cause.1 e
  untold_by (RemoteList command) answer alone cause never none e = cc
  untold_by (RemoteFile snapshot name offset) answer alone cause never none e = cc
  untold_by (RemoteChunk digest) answer alone cause never none e = cc
  untold_by act answer alone cause never none e = untold act answer cause never e

some_any : (r : Option Reply) (reply : Reply) → r ≡ Some reply → IsSomeAnd r (λ reply. Unit {0})
some_any None reply is = absurd (none_reply reply is)
some_any (Some r) reply is = tt

-- an act that is answered as any has a reply where its entry is a command's
any_replied : {D E C : Type 0} {d : Ghosts D} {old new : Core D E C} (act : Act) (answer : Answer) → HasCause d old new act answer → IsSomeAnd answer.reply (λ reply. Unit {0})
any_replied act answer (done before kind reply is may) = some_any answer.reply reply is
any_replied act answer (short kind is) = some_any answer.reply _ is
any_replied act answer (failed before kind is fault risen) = some_any answer.reply _ is
any_replied act answer (halted place fault kind is) = some_any answer.reply _ is

-- ---- an act of which no more is told than the file that it asks for

module _ {D E C : Type 0} (d : Ghosts D) (old new : Core D E C) where
  -- where its entry is a command's it has a reply
  replied : (act : Act) (answer : Answer) → is_remotes act ≡ false → IsCaused d old new act answer → (answer.entry).kind ≡ COMMAND_KIND → IsSomeAnd answer.reply (λ reply. Unit {0})
  replied End answer alone (ended kind is) zero = absurd (omega (arith, kind, zero))
  replied End answer alone (end_failed before kind is fault risen) zero = absurd (omega (arith, kind, zero))
  replied Start answer alone (start_opens before kind is) zero = absurd (omega (arith, kind, zero))
  replied Start answer alone (start_as_any cause) zero = any_replied Start answer cause
  replied Step answer alone (step_passes before kind is) zero = absurd (omega (arith, kind, zero))
  replied Step answer alone (step_ends before kind reply is may) zero = absurd (omega (arith, kind, zero))
  replied Step answer alone (step_as_any cause) zero = any_replied Step answer cause
  replied Short answer alone cause zero = let kind = cause.0 in absurd (omega (arith, kind, zero))
  replied (RemoteList command) answer alone cause zero = cc
  replied (RemoteFile snapshot name offset) answer alone cause zero = cc
  replied (RemoteChunk digest) answer alone cause zero = cc
  replied act answer alone cause zero = any_replied act answer cause

  pub untold_tells : (lane : ℕ) (act : Act) (answer : Answer) (asked : KeptAt → Option Asked) → is_remotes act ≡ false → IsCaused d old new act answer
      → ((digest : Digest32) (found : ChunkFault) → may_answer act (Refused (Damaged digest found)) ≡ false)
      → TellsUnreadable d (old.parts).disk (asked (kept_at old.parts lane)) (answer.entry).kind answer.reply
      → CoreTells (record (plain_words tells.untold) { asked = asked }) d old new lane answer
  untold_tells lane act answer asked alone cause undamaged unreadable = record {
    answers = replied act answer alone cause;
    unreadable = unreadable;
    damaged = damages_none d (old.parts).disk (λ digest. ⊥) (λ files. None) (answer.entry).kind answer.reply
        (λ digest found. untold_by d old new (Damaged digest found) tt act answer alone cause (undamaged digest found) refl) (λ honest. refl);
    calls = λ honest. tt;
    notes = λ zero. tt;
  }

  -- a lane's end asks for no file, nor does want of memory
  pub end_tells : (lane : ℕ) (answer : Answer) → EndHasCause d old new answer → CoreTells (plain_words tells.untold) d old new lane answer
  end_tells lane answer cause =
      untold_tells lane End answer (λ k. None) refl cause (λ digest found. refl)
      (tells_other d (old.parts).disk None _ answer.reply (λ name e. end_untold d old new (Unreadable name) tt answer cause e) refl)

  pub short_tells : (lane : ℕ) (answer : Answer) → IsCaused d old new Short answer → CoreTells (plain_words tells.untold) d old new lane answer
  short_tells lane answer cause =
      untold_tells lane Short answer (λ k. None) refl cause (λ digest found. refl)
      (tells_other d (old.parts).disk None _ answer.reply (λ name e. short_untold d old new (Unreadable name) tt answer cause.1 e) refl)
