use Rattle.std.proofs.Common.{◌<◌, ◌∙◌, sym, ap, refl, subst}
use Rattle.core_state.specs.Collectors.{is_cut}
use Rattle.core_state.specs.Reserved.{HasRoom}
use Rattle.core_state.specs.Wanted.{session_at}
use Rattle.core_collect.specs.Stepping.{has_passed, not_begun}
use Rattle.core_collect.proofs.Passed.{closes_no_session}
use Rattle.core_collect.proofs.stepping.go_on.Goals as goal

pub returns-in-Answered : goal.returns-in-Answered
returns-in-Answered g c = not_begun c.in-Answered.ensures.begun c.in-Answered.ensures.text

pub pass-ended-requires-clause-lane : goal.pass-ended-requires-clause-lane
pass-ended-requires-clause-lane g c = subst (λ l. l < 64) (sym c.in-At.ensures.begun.lane_is) c.requires.lane

pub pass-ended-requires-clause-uncut : goal.pass-ended-requires-clause-uncut
pass-ended-requires-clause-uncut g c =
    ap (λ l. is_cut l c.begin.new.core.collector) c.in-At.ensures.begun.lane_is ∙ ap (is_cut c.args.lane) c.in-At.ensures.begun.ready.begun.collector ∙ c.requires.uncut

pub enter_pass-requires-clause-lane : goal.enter_pass-requires-clause-lane
enter_pass-requires-clause-lane g c = subst (λ l. l < 64) (sym c.in-At.ensures.begun.lane_is) c.requires.lane

pub enter_pass-requires-clause-in_time : goal.enter_pass-requires-clause-in_time
enter_pass-requires-clause-in_time g c = c.in-At.ensures.begun.ready.begun.clock.in_time

pub enter_pass-requires-clause-room : goal.enter_pass-requires-clause-room
enter_pass-requires-clause-room g c = subst (λ l. HasRoom c.begin.new.core l) (sym c.in-At.ensures.begun.lane_is) c.in-At.ensures.begun.ready.room

pub enter_pass-requires-clause-text : goal.enter_pass-requires-clause-text
enter_pass-requires-clause-text g c = c.pass-ended.ensures.text

pub returns-in-At : goal.returns-in-At
returns-in-At g c =
    has_passed (record {
      mid = c.begin.new.core;
      acted = record (c.begin.new.core) { parts = c.pass-ended.new.parts; upkeep = c.pass-ended.new.upkeep; collector = c.pass-ended.new.collector; in_time = _ };
      at = c.in-At.at;
      result = c.pass-ended.result;
      admitted = c.in-At.ensures.begun;
      filled = c.in-At.ensures.filled (closes_no_session c.args.core.now.fault (session_at c.args.core.now.parts c.args.lane));
      others = record { journal = refl; clock = refl; fault = refl; remote = refl; last = refl };
      passes = c.pass-ended.ensures;
      enters = c.enter_pass.ensures.enters;
      text = c.enter_pass.ensures.text;
    })
