use Rattle.std.proofs.Common.{◌≡◌, ◌-◌, length, sym, ap, subst, ◌∙◌, arith}
use Rattle.std.specs.Prelude.{IfOk}
use Rattle.store_model.specs.Lanes.{Lane, Next, lane_next}
use Rattle.plain_lanes.specs.Nexts.{shown_next}
use Rattle.plain_lanes.proofs.LaneLemmas.{job_stands, input_stands}
use Rattle.plain_lanes.proofs.lane.Lane.take_next.Goals as goal

pub returns-in-Some-clause-next : goal.returns-in-Some-clause-next
returns-in-Some-clause-next c =
    let inside = c.self.inside in
    let lane : Lane = record { size = inside.size; left = inside.left.now; job = inside.job; told = inside.told.items } in
    sym (job_stands lane c.in-Some.asking (sym c.take.ensures.value ∙ c.in-Some.is)) ∙ ap lane_next c.self.view_is

pub returns-clause-next : goal.returns-clause-next
returns-clause-next c =
    let inside = c.self.inside in
    let lane : Lane = record { size = inside.size; left = inside.left.now; job = inside.job; told = inside.told.items } in
    let offset = c.saturating_sub-offset.result in
    let within : offset ≡ inside.size - length inside.left.now = omega arith in
    let stands = sym (input_stands lane offset (sym c.take.ensures.value ∙ c.in_default.is) within) ∙ ap lane_next c.self.view_is in
    subst (λ (x : Next). IfOk c.next_at.result (λ n. shown_next n ≡ x)) stands c.next_at.ensures.next
