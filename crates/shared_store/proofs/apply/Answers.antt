use Rattle.std.proofs.Common.{◌≡◌, ◌∙◌, true, false, refl, ap, sym, subst}
use Rattle.store_history.specs.declared.act.Act.{Act}
use Rattle.store_history.specs.declared.act.Act.TheVariants as acts
use Rattle.store_history.specs.declared.act.Family.{Family}
use Rattle.store_history.specs.declared.act.Family.TheVariants.{Reads, Writes, Manages, Collects, Reaches, Wants, Ends}
use Rattle.store_history.specs.Acts.{class_of, family_of, is_collecting, is_reaching}
use Rattle.store_history.specs.RemoteDisk.{is_remotes}
use Rattle.store_history.proofs.Families.{by_end, by_want}
use Rattle.core_state.specs.Answers.{IsCaused}
use Rattle.core_state.specs.Applies.{ActApplies, ActKeeps}
use Rattle.core_state.specs.Commands.{is_collectors}
use Rattle.core_state.specs.Tells.{CoreTells}
use Rattle.core_state.proofs.Applying.{short_applies, short_keeps_all}
use Rattle.core_state.proofs.RemoteReads.{applies_beside}
use Rattle.core_state.proofs.Untold.{end_tells, short_tells}
use Rattle.shared_store.specs.Words.{words_in}
use Rattle.shared_store.proofs.apply.Goals as goal

-- ---- what an act's family says of it

never : {P : Type 0} → false ≡ true → P
never e = absurd (apart e)
  where
    apart : false ≡ true → ⊥
    apart e = cc

module _ (act : Act) (f : Family) (is : family_of act ≡ f) where
  alone : is_reaching f ≡ false → is_remotes act ≡ false
  alone off = ap is_reaching is ∙ off

  unread : {P : Type 0} → is_reaching f ≡ false → is_remotes act ≡ true → P
  unread off remotes = never (sym (alone off) ∙ remotes)

  uncollected : {P : Type 0} → is_collecting f ≡ false → is_collectors act ≡ true → P
  uncollected off collects = never (sym (ap is_collecting is ∙ off) ∙ collects)

  not_short : {P : Type 0} → (Wants ≡ f → ⊥) → act ≡ acts.Short → P
  not_short unlike short = absurd (unlike (sym (ap family_of short) ∙ is))

reads : {P : Type 0} (act : Act) → family_of act ≡ Reaches → is_remotes act ≡ false → P
reads act is alone = never (sym alone ∙ ap is_reaching is)

is_out_of_memory : (act : Act) → family_of act ≡ Wants → act ≡ acts.Short
is_out_of_memory = by_want (λ act. act ≡ acts.Short) refl

is_end : (act : Act) → family_of act ≡ Ends → act ≡ acts.End
is_end = by_end (λ act. act ≡ acts.End) refl

-- ---- a reader's act

pub returns-in-Reads : goal.returns-in-Reads
returns-in-Reads g c =
    let old = c.args.core.now in
    let new = c.reader_act.new.core in
    let act = c.args.act in
    let answer = c.reader_act.result in
    let is = sym c.family.ensures ∙ c.in-Reads.is in record {
      applies = applies_beside g.D.Disk g.E.Disk g.C.Clock old new c.args.lane act answer (alone act Reads is refl) c.reader_act.ensures.applies c.reader_act.ensures.keeps;
      alone = λ alone. c.reader_act.ensures.applies;
      keeps = c.reader_act.ensures.keeps;
      tells = λ alone. subst (λ f. CoreTells (words_in f act old.collector) g.D.Disk old new c.args.lane answer) (sym is) c.reader_act.ensures.tells;
      collects = uncollected act Reads is refl;
      by_remote = unread act Reads is refl;
      short = not_short act Reads is (λ e. cc);
    }

-- ---- a writer's act

pub returns-in-Writes : goal.returns-in-Writes
returns-in-Writes g c =
    let old = c.args.core.now in
    let new = c.writer_act.new.core in
    let act = c.args.act in
    let answer = c.writer_act.result in
    let is = sym c.family.ensures ∙ c.in-Writes.is in record {
      applies = applies_beside g.D.Disk g.E.Disk g.C.Clock old new c.args.lane act answer (alone act Writes is refl) c.writer_act.ensures.applies c.writer_act.ensures.keeps;
      alone = λ alone. c.writer_act.ensures.applies;
      keeps = c.writer_act.ensures.keeps;
      tells = λ alone. subst (λ f. CoreTells (words_in f act old.collector) g.D.Disk old new c.args.lane answer) (sym is) c.writer_act.ensures.tells;
      collects = uncollected act Writes is refl;
      by_remote = unread act Writes is refl;
      short = not_short act Writes is (λ e. cc);
    }

-- ---- an act on the store as a whole

pub returns-in-Manages : goal.returns-in-Manages
returns-in-Manages g c =
    let old = c.args.core.now in
    let new = c.admin_act.new.core in
    let act = c.args.act in
    let answer = c.admin_act.result in
    let is = sym c.family.ensures ∙ c.in-Manages.is in record {
      applies = applies_beside g.D.Disk g.E.Disk g.C.Clock old new c.args.lane act answer (alone act Manages is refl) c.admin_act.ensures.applies c.admin_act.ensures.keeps;
      alone = λ alone. c.admin_act.ensures.applies;
      keeps = c.admin_act.ensures.keeps;
      tells = λ alone. subst (λ f. CoreTells (words_in f act old.collector) g.D.Disk old new c.args.lane answer) (sym is) c.admin_act.ensures.tells;
      collects = uncollected act Manages is refl;
      by_remote = unread act Manages is refl;
      short = not_short act Manages is (λ e. cc);
    }

-- ---- an act of a collector

pub returns-in-Collects : goal.returns-in-Collects
returns-in-Collects g c =
    let old = c.args.core.now in
    let new = c.collect_act.new.core in
    let act = c.args.act in
    let answer = c.collect_act.result in
    let is = sym c.family.ensures ∙ c.in-Collects.is in record {
      applies = applies_beside g.D.Disk g.E.Disk g.C.Clock old new c.args.lane act answer (alone act Collects is refl) c.collect_act.ensures.applies c.collect_act.ensures.keeps;
      alone = λ alone. c.collect_act.ensures.applies;
      keeps = c.collect_act.ensures.keeps;
      tells = λ alone. subst (λ f. CoreTells (words_in f act old.collector) g.D.Disk old new c.args.lane answer) (sym is) c.collect_act.ensures.tells;
      collects = λ collects. c.collect_act.ensures.from_state;
      by_remote = unread act Collects is refl;
      short = not_short act Collects is (λ e. cc);
    }

-- ---- an act that reads the remote

pub returns-in-Reaches : goal.returns-in-Reaches
returns-in-Reaches g c =
    let old = c.args.core.now in
    let new = c.remote_act.new.core in
    let act = c.args.act in
    let answer = c.remote_act.result in
    let is = sym c.family.ensures ∙ c.in-Reaches.is in record {
      applies = c.remote_act.ensures.applies;
      alone = c.remote_act.ensures.alone;
      keeps = c.remote_act.ensures.keeps;
      tells = λ alone. reads act is alone;
      collects = uncollected act Reaches is refl;
      by_remote = λ remotes. (c.remote_act.ensures.from_state, c.remote_act.ensures.by_remote);
      short = not_short act Reaches is (λ e. cc);
    }

-- ---- want of memory

pub returns-in-Wants : goal.returns-in-Wants
returns-in-Wants g c =
    let old = c.args.core.now in
    let new = c.short.new.core in
    let act = c.args.act in
    let answer = c.short.result in
    let is = sym c.family.ensures ∙ c.in-Wants.is in
    let so : act ≡ acts.Short = is_out_of_memory act is in
    let applies : ActApplies g.D.Disk g.C.Clock old new c.args.lane act answer =
    short_applies g.D.Disk g.C.Clock old new c.args.lane act answer c.requires.lane c.requires.formed (ap class_of so) c.short.ensures in
    let keeps : ActKeeps g.D.Disk old new c.args.lane act answer =
    subst (λ a. ActKeeps g.D.Disk old new c.args.lane a answer) (sym so) (short_keeps_all g.D.Disk g.C.Clock old new c.args.lane answer c.short.ensures) in record {
      applies = applies_beside g.D.Disk g.E.Disk g.C.Clock old new c.args.lane act answer (alone act Wants is refl) applies keeps;
      alone = λ alone. applies;
      keeps = keeps;
      tells = λ alone.
          subst (λ f. CoreTells (words_in f act old.collector) g.D.Disk old new c.args.lane answer) (sym is)
          (short_tells g.D.Disk old new c.args.lane answer (subst (λ a. IsCaused g.D.Disk old new a answer) so applies.cause));
      collects = uncollected act Wants is refl;
      by_remote = unread act Wants is refl;
      short = λ _. ap (λ x. x.kind) (c.short.ensures.entered).entry;
    }

-- ---- a lane's end

pub returns-in-Ends : goal.returns-in-Ends
returns-in-Ends g c =
    let old = c.args.core.now in
    let new = c.end_act.new.core in
    let act = c.args.act in
    let answer = c.end_act.result in
    let is = sym c.family.ensures ∙ c.in-Ends.is in
    let so : act ≡ acts.End = is_end act is in
    let applies : ActApplies g.D.Disk g.C.Clock old new c.args.lane act answer = subst (λ a. ActApplies g.D.Disk g.C.Clock old new c.args.lane a answer) (sym so) c.end_act.ensures.applies in
    let keeps : ActKeeps g.D.Disk old new c.args.lane act answer = subst (λ a. ActKeeps g.D.Disk old new c.args.lane a answer) (sym so) c.end_act.ensures.keeps in record {
      applies = applies_beside g.D.Disk g.E.Disk g.C.Clock old new c.args.lane act answer (alone act Ends is refl) applies keeps;
      alone = λ alone. applies;
      keeps = keeps;
      tells = λ alone.
          subst (λ f. CoreTells (words_in f act old.collector) g.D.Disk old new c.args.lane answer) (sym is) (end_tells g.D.Disk old new c.args.lane answer (c.end_act.ensures.applies).cause);
      collects = uncollected act Ends is refl;
      by_remote = unread act Ends is refl;
      short = not_short act Ends is (λ e. cc);
    }
