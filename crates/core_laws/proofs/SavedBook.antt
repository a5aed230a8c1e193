-- The book that the end of a whole sweep saves.
use Rattle.std.proofs.Common.{◌≡◌, ◌↔◌, ℕ, Bool, false, if◌then◌else◌, List, [], ◌∷◌, ◌++◌, length, max, Option, Some, None, option_map, IsTrue, refl, sym, ap, subst, ◌∙◌}
use Rattle.std.specs.Option.{IsSome}
use Rattle.std.specs.FinMap.{get}
use Rattle.disk_trait.specs.Files.{Files}
use Rattle.disk_trait.specs.declared.disk.Disk.{Ghosts}
use Rattle.file_install.specs.Install.{installed}
use Rattle.file_install.proofs.InstallLaws.{installed_name}
use Rattle.port_traits.specs.declared.clock.Clock as clocks
use Rattle.store_types.specs.declared.refusal.Refusal.TheVariants.{DiskFault}
use Rattle.store_types.specs.declared.order.TheConstants.{PART_KIND, STOP_KIND}
use Rattle.store_files.specs.Archive.{Snapshot}
use Rattle.store_files.specs.Book.{Book, book_text}
use Rattle.store_files.specs.Folder.{chunk_name}
use Rattle.wire_commands.specs.declared.reply.Reply.{Reply}
use Rattle.wire_commands.specs.declared.reply.Reply.TheVariants.{Refused}
use Rattle.atime_book.specs.Touches.{as_of, last_of}
use Rattle.store_history.specs.declared.act.Act.TheVariants.{Step}
use Rattle.store_history.specs.declared.act.Answer.{Answer}
use Rattle.store_history.specs.declared.act.Event.{Event}
use Rattle.store_history.specs.Acts.{class_of, sweeping}
use Rattle.store_history.specs.History.{Opening, World, after as world_after, close_kind, kind, kind_of, lane, moment, opened, reply}
use Rattle.store_history.specs.LastTouches.{LastTouches}
use Rattle.store_history.specs.Legal.{IsLegal, Right}
use Rattle.store_history.specs.Saved.{book_name}
use Rattle.store_history.specs.Sweeping.{Swept, swept, swept_after, swept_all, taken_by, touched_after, without}
use Rattle.core_state.specs.declared.state.Core.{Core}
use Rattle.core_state.specs.Answers.{StepHasCause, done, failed, halted, short, step_as_any, step_ends, step_passes}
use Rattle.store_history.specs.Answered.{fault_after}
use Rattle.core_state.specs.Changes.{Change, after}
use Rattle.core_state.specs.History.{StandsFor, event_of, then_event}
use Rattle.core_state.specs.KeepsTouches.{KeepsTouches, touches_of_history}
use Rattle.core_state.specs.Passes.{StepLeaves}
use Rattle.store_history.specs.Replies.{may_end}
use Rattle.core_state.specs.Upkeeps.{touches_kept}
use Rattle.core_laws.specs.Laws.{EndsSaveTheBook}

-- ---- undated chunks

without_dated : (o : Option (List ℕ)) (t : LastTouches) (d : List ℕ) → t.undated d ≡ false → (without o t).undated d ≡ false
without_dated None t d is = is
without_dated (Some digest) t d is = is

-- behind an event none is
event_dated : (R : Option (List Snapshot)) (w : World) (s : Swept) (e : Event) (d : List ℕ) → (swept_after R w s e).touches.undated d ≡ false
unfolding swept_after
event_dated R w s e d = without_dated (taken_by s e) (touched_after s e s.touches) d refl

events_dated : (R : Option (List Snapshot)) (w : World) (s : Swept) (es : List Event) (d : List ℕ) → s.touches.undated d ≡ false → (swept_all R w s es).touches.undated d ≡ false
unfolding swept_all
events_dated R w s [] d is = is
events_dated R w s (e ∷ es) d is = events_dated R (world_after R w e) (swept_after R w s e) es d (event_dated R w s e d)

-- no collector is open at first
none_ends : (R : Option (List Snapshot)) (o : Opening) (e : Event) → IsLegal R (opened o) (e ∷ []) → e.act ≡ Step → kind e ≡ STOP_KIND → ⊥
none_ends R o e legal step closes =
    let says = (legal.0).says in
    let closing : Right R (opened o) (lane e) (moment e) e.act (reply e) (class_of e.act) close_kind =
    subst (λ n. Right R (opened o) (lane e) (moment e) e.act (reply e) (class_of e.act) (kind_of n)) closes says in
    let its : Right R (opened o) (lane e) (moment e) Step (reply e) sweeping close_kind =
    subst (λ a. Right R (opened o) (lane e) (moment e) a (reply e) (class_of a) close_kind) step closing in
    its.1

history_dated : (R : Option (List Snapshot)) (o : Opening) (es : List Event) (e : Event) (d : List ℕ) → IsLegal R (opened o) (es ++ e ∷ []) → e.act ≡ Step → kind e ≡ STOP_KIND
    → (swept R o es).touches.undated d ≡ false
unfolding swept_all
history_dated R o [] e d legal step closes = absurd (none_ends R o e legal step closes)
history_dated R o (v ∷ vs) e d legal step closes = events_dated R (world_after R (opened o) v) (swept_after R (opened o) _ v) vs d (event_dated R (opened o) _ v d)

-- ---- the answer

module _ {D E C : Type 0} (d : Ghosts D) (old new : Core D E C) (answer : Answer) (closes : (answer.entry).kind ≡ STOP_KIND) where
  other_kind : (n : ℕ) → (answer.entry).kind ≡ n → n ≡ 4
  other_kind n is = sym is ∙ closes

  unfailed : StepHasCause d old new Step answer → (old.fault ≡ None) × (answer.reply ≡ Some (Refused DiskFault) → ⊥)
  unfailed (step_passes before is told) = absurd (one_four (other_kind 1 is))
    where
      one_four : ◌≡◌ {A = ℕ} 1 4 → ⊥
      one_four e = cc
  unfailed (step_ends before is r told may) = (before, λ fault. no_fault r may (some_same (sym told ∙ fault)))
    where
      some_same : {x y : Reply} → Some x ≡ Some y → x ≡ y
      some_same e = cc

      no_end : IsTrue (may_end (Refused DiskFault)) → ⊥
      no_end e = cc

      no_fault : (r : Reply) → IsTrue (may_end r) → r ≡ Refused DiskFault → ⊥
      no_fault r may is = no_end (subst (λ x. IsTrue (may_end x)) is may)
  unfailed (step_as_any (done before is r told may)) = absurd (zero_four (other_kind 0 is))
    where
      zero_four : ◌≡◌ {A = ℕ} 0 4 → ⊥
      zero_four e = cc
  unfailed (step_as_any (short is told)) = absurd (two_four (other_kind 2 is))
    where
      two_four : ◌≡◌ {A = ℕ} 2 4 → ⊥
      two_four e = cc
  unfailed (step_as_any (failed before is told first rose)) = absurd (five_four (other_kind 5 is))
    where
      five_four : ◌≡◌ {A = ℕ} 5 4 → ⊥
      five_four e = cc
  unfailed (step_as_any (halted place before is told)) = absurd (five_four (other_kind 5 is))
    where
      five_four : ◌≡◌ {A = ℕ} 5 4 → ⊥
      five_four e = cc

-- ---- the folder

pub saved_book : {D E C : Type 0} (d : Ghosts D) (clock : clocks.Ghosts C) (old new : Core D E C) → EndsSaveTheBook d clock old new
saved_book d clock old new h lane answer applies keeps tells early s m closes uncut = record {
  book = book;
  file = subst (λ (files : Files). get files book_name ≡ Some (book_text book)) (sym content) (installed_name (d.content (old.parts).disk) book_name (book_text book));
  fits = tells.fits uncut closes early;
  moment_is = refl;
  touches = same;
  chunks = λ x digest. subst (λ (o : Option ℕ). IsSome (get (d.content (new.parts).disk) (chunk_name x)) ↔ IsSome o) (sym (same x)) (later.present none x digest);
}
  where
    e : Event
    e = event_of Step answer (d.calls (new.parts).disk)

    book : Book
    book = as_of (answer.entry).moment (old.upkeep).book

    leaves : StepLeaves d old new lane answer
    leaves = keeps.stepped refl

    later : KeepsTouches d new (then_event h e)
    later = applies.touches h s m tt

    stands : StandsFor d clock.readings new (then_event h e)
    stands = applies.history h s m tt

    caused : (old.fault ≡ None) × (answer.reply ≡ Some (Refused DiskFault) → ⊥)
    caused = unfailed d old new answer closes applies.cause

    none : new.fault ≡ None
    none = (applies.answers).fault ∙ ap (λ n. fault_after (length (old.journal).entries.items) n old.fault) closes ∙ caused.0

    content : d.content (new.parts).disk ≡ installed (d.content (old.parts).disk) book_name (book_text book)
    content = leaves.content caused.1 s.honest ∙ ap (λ (c : Change). after c (d.content (old.parts).disk)) (leaves.saves closes uncut)

    undated : (x : List ℕ) → (touches_kept old.upkeep).undated x ≡ false
    undated x = (m.touches).undated x ∙ history_dated h.remote h.opening h.events e x stands.legal refl closes

    marked : (answer.entry).kind ≡ PART_KIND → ⊥
    marked is = one_four (sym is ∙ closes)
      where
        one_four : ◌≡◌ {A = ℕ} 1 4 → ⊥
        one_four e = cc

    same : (x : List ℕ) → last_of book x ≡ (touches_of_history (then_event h e)).last x
    same x =
        let by = ((leaves.untouched marked).last x) in
        let plain = ap (λ (b : Bool). if b then option_map (λ last. max last (answer.entry).moment) (last_of (old.upkeep).book x) else last_of (old.upkeep).book x) (undated x) in
        sym (by ∙ plain) ∙ (later.touches).last x
