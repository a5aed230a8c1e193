use Rattle.std.proofs.Common.{◌∙◌, refl, sym, ap}
use Rattle.core_state.specs.Upkeeps.{touches_kept}
use Rattle.core_state.specs.Wanted.{session_at}
use Rattle.core_state.proofs.Ending.{ended_applies, ended_keeps_all, end_failed_applies, end_failed_keeps_all, end_halted_applies, end_halted_keeps_all}
use Rattle.core_state.proofs.Touching.{same_touches}
use Rattle.core_writer.proofs.AbortLemmas.{never_failed}
use Rattle.core_writer.proofs.LaneEnds.{some_is, none_is, lane_ended, lane_idle, lane_shows, others_keep, others_stay}
use Rattle.core_writer.proofs.act.end_act.Goals as goal

pub returns-then-is_some-clause-applies : goal.returns-then-is_some-clause-applies
returns-then-is_some-clause-applies g c =
    let next = c.next_place-at.ensures in
    let fault = some_is _ (sym c.is_some.ensures ∙ c.if-is_some.true) in
    end_halted_applies g.D.Disk g.C.Clock _ c.next_place-at.new.core _ _ c.args.lane c.next_place-at.result fault.0 _ c.requires.lane (sym next.fault ∙ fault.1) next
    (record { journal = refl; clock = refl; fault = refl; remote = refl; collector = refl; upkeep = same_touches (touches_kept c.next_place-at.new.core.upkeep) }) c.end_session.ensures.disk c.end_session.ensures.catalogue
    (lane_ended c.end_session.new.parts _ _ next.lane_is c.end_session.ensures.ended) (others_stay c.next_place-at.new.core.parts c.end_session.new.parts _ _ next.lane_is c.end_session.ensures.sessions) (others_keep c.next_place-at.new.core.parts c.end_session.new.parts _ _ next.lane_is c.end_session.ensures.indexes) (λ s shows. lane_shows c.end_session.new.parts _ _ _ next.lane_is (c.end_session.ensures.shows s shows)) c.enter.ensures

pub returns-then-is_some-clause-keeps : goal.returns-then-is_some-clause-keeps
returns-then-is_some-clause-keeps g c =
    let next = c.next_place-at.ensures in
    let fault = some_is _ (sym c.is_some.ensures ∙ c.if-is_some.true) in
    end_halted_keeps_all g.D.Disk g.C.Clock _ c.next_place-at.new.core _ _ c.args.lane c.next_place-at.result fault.0 _ (sym next.fault ∙ fault.1) next
    (record { journal = refl; clock = refl; fault = refl; remote = refl; collector = refl; upkeep = same_touches (touches_kept c.next_place-at.new.core.upkeep) }) c.end_session.ensures.disk c.end_session.ensures.catalogue (lane_ended c.end_session.new.parts _ _ next.lane_is c.end_session.ensures.ended) (others_stay c.next_place-at.new.core.parts c.end_session.new.parts _ _ next.lane_is c.end_session.ensures.sessions) (others_keep c.next_place-at.new.core.parts c.end_session.new.parts _ _ next.lane_is c.end_session.ensures.indexes) c.enter.ensures

pub returns-in-Ok-clause-applies : goal.returns-in-Ok-clause-applies
returns-in-Ok-clause-applies g c =
    let next = c.next_place-at.ensures in
    ended_applies g.D.Disk g.C.Clock _ c.next_place-at.new.core _ _ c.args.lane c.next_place-at.result c.end.result _ c.requires.lane (sym next.fault ∙ none_is _ (sym c.is_some.ensures ∙ c.if-is_some.false)) next
    (record { journal = refl; clock = refl; fault = refl; remote = refl; collector = refl; upkeep = same_touches (touches_kept c.next_place-at.new.core.upkeep) }) c.in-Ok.is c.end.ensures.does c.end.ensures.leaves c.enter-in-Ok.ensures

pub returns-in-Ok-clause-keeps : goal.returns-in-Ok-clause-keeps
returns-in-Ok-clause-keeps g c =
    let next = c.next_place-at.ensures in
    ended_keeps_all g.D.Disk g.C.Clock _ c.next_place-at.new.core _ _ c.args.lane c.next_place-at.result c.end.result _ (sym next.fault ∙ none_is _ (sym c.is_some.ensures ∙ c.if-is_some.false)) next
    (record { journal = refl; clock = refl; fault = refl; remote = refl; collector = refl; upkeep = same_touches (touches_kept c.next_place-at.new.core.upkeep) }) c.in-Ok.is c.end.ensures.leaves c.enter-in-Ok.ensures

pub returns-in-Err-clause-applies : goal.returns-in-Err-clause-applies
returns-in-Err-clause-applies g c =
    let next = c.next_place-at.ensures in
    end_failed_applies g.D.Disk g.C.Clock _ c.next_place-at.new.core _ _ c.args.lane c.next_place-at.result c.end.result _ _ c.requires.lane (sym next.fault ∙ none_is _ (sym c.is_some.ensures ∙ c.if-is_some.false))
    (λ idle. never_failed c.end.result _ c.in-Err.is (c.end.ensures.idle (ap (λ p. session_at p c.next_place-at.result.lane) next.parts ∙ lane_idle c.args.core.now.parts _ _ next.lane_is idle))) next
    (record { journal = refl; clock = refl; fault = refl; remote = refl; collector = refl; upkeep = same_touches (touches_kept c.next_place-at.new.core.upkeep) }) c.in-Err.is c.end.ensures.does c.end.ensures.leaves c.settle.ensures

pub returns-in-Err-clause-keeps : goal.returns-in-Err-clause-keeps
returns-in-Err-clause-keeps g c =
    let next = c.next_place-at.ensures in
    end_failed_keeps_all g.D.Disk g.C.Clock _ c.next_place-at.new.core _ _ c.args.lane c.next_place-at.result c.end.result _ _ (sym next.fault ∙ none_is _ (sym c.is_some.ensures ∙ c.if-is_some.false))
    (λ idle. never_failed c.end.result _ c.in-Err.is (c.end.ensures.idle (ap (λ p. session_at p c.next_place-at.result.lane) next.parts ∙ lane_idle c.args.core.now.parts _ _ next.lane_is idle))) next
    (record { journal = refl; clock = refl; fault = refl; remote = refl; collector = refl; upkeep = same_touches (touches_kept c.next_place-at.new.core.upkeep) }) c.in-Err.is c.end.ensures.leaves c.settle.ensures
