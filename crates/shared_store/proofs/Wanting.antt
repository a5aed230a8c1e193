-- A FINISH or a FORGET that is answered by want of memory before it is done.
use Rattle.std.proofs.Common.{◌≡◌, ◌∙◌, ◌<◌, ℕ, true, false, refl, sym, ap, subst}
use Rattle.std.specs.Prelude.{IfSome}
use Rattle.disk_trait.specs.declared.disk.Disk.{Ghosts}
use Rattle.port_traits.specs.declared.clock.Clock as clocks
use Rattle.wire_commands.specs.declared.command.Command.TheVariants.{Finish, Forget}
use Rattle.wire_commands.specs.HasText.{ReplyHasText}
use Rattle.store_history.specs.declared.act.Act.{Act}
use Rattle.store_history.specs.declared.act.Act.TheVariants.{Plain, Short}
use Rattle.store_history.specs.declared.act.Answer.{Answer}
use Rattle.store_history.specs.Acts.{IsWellFormed, class_of, stepping}
use Rattle.core_state.specs.declared.kept.Session.{Session}
use Rattle.core_state.specs.declared.state.Core.{Core}
use Rattle.core_state.specs.declared.entering.Admitted.TheVariants.{Answered}
use Rattle.core_state.specs.Applies.{ActApplies, ActKeeps}
use Rattle.core_state.specs.Begins.{AdmittedHasText, IsNotShort, IsShort, Refuses, short}
use Rattle.core_state.specs.Closing.{closes, is_closing}
use Rattle.store_history.specs.RemoteDisk.{is_remotes}
use Rattle.core_state.specs.Commands.{is_collectors}
use Rattle.core_state.specs.Wanted.{session_at}
use Rattle.core_state.proofs.Applying.{closes_none, refused_applies, refused_keeps_all}
use Rattle.core_state.proofs.RemoteReads.{applies_beside}
use Rattle.core_state.proofs.Telling.{refused_tells}
use Rattle.core_state.proofs.Texts.{no_memory_has_text}
use Rattle.shared_store.specs.Applied.{HasApplied}
use Rattle.shared_store.specs.Views.{is_listing}
use Rattle.shared_store.specs.Words.{words_of}

off : {P : Type 0} → false ≡ true → P
off e = absurd (apart e)
  where
    apart : false ≡ true → ⊥
    apart e = cc

-- ---- what they are

steps : (act : Act) → is_listing act ≡ true → class_of act ≡ stepping
steps (Plain Finish) is = refl
steps (Plain (Forget snapshot)) is = refl
steps act is = off is

closes_no : (act : Act) (session : Session) → is_listing act ≡ true → closes act session ≡ false
closes_no (Plain Finish) session is = refl
closes_no (Plain (Forget snapshot)) session is = refl
closes_no act session is = off is

at_home : (act : Act) → is_listing act ≡ true → is_remotes act ≡ false
at_home (Plain Finish) is = refl
at_home (Plain (Forget snapshot)) is = refl
at_home act is = off is

uncollected : (act : Act) → is_listing act ≡ true → is_collectors act ≡ false
uncollected (Plain Finish) is = refl
uncollected (Plain (Forget snapshot)) is = refl
uncollected act is = off is

no_short : {P : Type 0} (act : Act) → is_listing act ≡ true → act ≡ Short → P
no_short act is wants = off (sym (ap is_listing wants) ∙ is)

module _ {D E C : Type 0} (d : Ghosts D) (e : Ghosts E) (clock : clocks.Ghosts C) (old new : Core D E C) (lane : ℕ) (answer : Answer) (is : IsShort d clock.readings old new lane answer) where
  pub wanted : (act : Act) → lane < 64 → IsWellFormed act → is_listing act ≡ true → HasApplied d e clock old new lane act answer
  wanted act lt formed listing =
      let refuses : Refuses d clock.readings old new lane answer = short is in
      let text : AdmittedHasText (Answered answer) = subst (λ r. IfSome r ReplyHasText) (sym (is.entered).reply_is) no_memory_has_text in
      let memory : is_closing old lane act ≡ true → IsNotShort (Answered answer) =
      λ closing. absurd (closes_none old.fault act (session_at old.parts lane) (closes_no act (session_at old.parts lane) listing) closing) in
      let applies : ActApplies d clock old new lane act answer = refused_applies d clock old new lane act answer lt formed (steps act listing) refuses text memory in
      let keeps : ActKeeps d old new lane act answer = refused_keeps_all d clock old new lane act answer (steps act listing) refuses memory in record {
        applies = applies_beside d e clock old new lane act answer (at_home act listing) applies keeps;
        alone = λ alone. applies;
        keeps = keeps;
        tells = λ alone. refused_tells (words_of act old.collector) d clock.readings old new lane answer refuses;
        collects = λ collects. off (sym (uncollected act listing) ∙ collects);
        by_remote = λ remotes. off (sym (at_home act listing) ∙ remotes);
        short = no_short act listing;
      }
