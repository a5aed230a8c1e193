use Rattle.std.proofs.Common.{◌≡◌, ◌++◌, drop, codes, ap, ◌∙◌}
use Rattle.std.specs.List.{flat_map}
use Rattle.generator.specs.Summaries.{lane_lines, snapshot_line, summary_text}
use Rattle.generator.proofs.summaries.summary.Goals as goal

pub returns : goal.returns
unfolding summary_text
returns c =
    let told = c.others.result.now in
    let rows = c.args.rows.now in
    let lanes : c.push_lanes.new.text.items ≡ lane_lines 1 (drop 1 c.args.replies.now) =
    c.in_ok-push_lanes.ensures ∙ ap (λ t. t ++ lane_lines 1 told) c.new-text.ensures.items ∙ ap (lane_lines 1) c.others.ensures in
    let all = c.in_ok-push_snapshots.ensures ∙ ap (λ t. t ++ flat_map snapshot_line rows) lanes in
    c.in_ok-extend_from_slice.ensures.items ∙ ap (λ t. t ++ codes "status 0\n") all
