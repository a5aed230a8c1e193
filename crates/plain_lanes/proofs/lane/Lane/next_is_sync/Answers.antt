use Rattle.std.proofs.Common.{◌≡◌, ◌-◌, length, sym, ap, ◌∙◌, arith}
use Rattle.store_model.specs.Lanes.{Lane, lane_next}
use Rattle.plain_lanes.specs.Nexts.{is_sync_next}
use Rattle.plain_lanes.proofs.LaneLemmas.{job_stands, input_stands}
use Rattle.plain_lanes.proofs.lane.Lane.next_is_sync.Goals as goal

pub returns-in-Some : goal.returns-in-Some
returns-in-Some c =
    let inside = c.self.inside in
    let lane : Lane = record { size = inside.size; left = inside.left.now; job = inside.job; told = inside.told.items } in
    c.is_sync.ensures ∙ ap is_sync_next (sym (job_stands lane c.in-Some.asking c.in-Some.is)) ∙ ap (λ l. is_sync_next (lane_next l)) c.self.view_is

pub returns : goal.returns
returns c =
    let inside = c.self.inside in
    let lane : Lane = record { size = inside.size; left = inside.left.now; job = inside.job; told = inside.told.items } in
    let offset = c.saturating_sub-offset.result in
    let within : offset ≡ inside.size - length inside.left.now = omega arith in
    let stands = sym (input_stands lane offset c.in_default.is within) ∙ ap lane_next c.self.view_is in
    c.is_sync-is_one.ensures ∙ ap is_sync_next (c.in_ok-next.ensures.next ∙ stands)
