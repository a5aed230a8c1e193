use Rattle.std.proofs.Common.{IfSome, refl, sym, subst, ◌∙◌, rules}
use Rattle.wire_commands.specs.HasText.{ReplyHasText}
use Rattle.core_state.proofs.Texts.{no_memory_has_text, entered_as}
use Rattle.core_state.specs.Entering.{Fills}
use Rattle.core_state.specs.Begins.{short, halted}
use Rattle.core_state.proofs.Clocks.{entered_for, is_begun}
use Rattle.core_state.proofs.entering.begin.Goals as goal

pub returns-then-is_err-clause-begun : goal.returns-then-is_err-clause-begun
returns-then-is_err-clause-begun g c = let at = c.next_place-at.ensures in
    short (record {
      moment = _;
      between = _;
      begun = is_begun g.C.Clock.readings _ _ _ _ _ at refl refl refl refl refl refl refl
          c.fill.ensures.same c.fill.ensures.more c.fill.ensures.none_lost c.fill.ensures.filled c.fill.ensures.whole c.fill.ensures.others;
      entered = entered_for g.D.Disk _ _ _ _ c.next_place-at.result _ _ at.lane_is c.enter.ensures;
    })

pub returns-in-Some-clause-begun : goal.returns-in-Some-clause-begun
returns-in-Some-clause-begun g c =
    let at = c.next_place-at.ensures in
    let filled : Fills c.next_place-at.new.core.journal c.fill.new.self c.args.lane = search rules in
    halted (record {
      moment = _;
      first = _;
      between = _;
      begun = is_begun g.C.Clock.readings _ _ _ _ _ at refl refl refl refl refl refl refl
          c.fill.ensures.same c.fill.ensures.more c.fill.ensures.none_lost c.fill.ensures.filled c.fill.ensures.whole c.fill.ensures.others;
      fault = sym at.fault ∙ c.in-Some.is;
      whole = filled.whole;
      spare = filled.spare;
      entered = entered_as g.D.Disk _ _ _ _ _ _ _ _ c.halted.ensures.reply (entered_for g.D.Disk _ _ _ _ c.next_place-at.result _ _ at.lane_is c.enter-in-Some.ensures);
    })

pub returns-then-is_err-clause-text : goal.returns-then-is_err-clause-text
returns-then-is_err-clause-text g c = subst (λ r. IfSome r ReplyHasText) (sym c.enter.ensures.reply_is) no_memory_has_text

pub returns-in-Some-clause-text : goal.returns-in-Some-clause-text
returns-in-Some-clause-text g c = subst (λ r. IfSome r ReplyHasText) (sym c.enter-in-Some.ensures.reply_is) c.halted.ensures.text
