use Rattle.std.proofs.Common.{◌≡◌, ◌≤◌, length, map, sym, ap, ◌∙◌, arith}
use Rattle.std.proofs.lemmas.Iterator.{YieldsList-from_zip}
use Rattle.std.proofs.lemmas.Iterator.Adapters.{YieldsList-from_vec}
use Rattle.std.proofs.lemmas.Iterator.Consumers.{YieldsList-end}
use Rattle.std.proofs.lemmas.List.Elements.{All-same}
use Rattle.std.proofs.lemmas.Simd.{map-map}
use Rattle.prune_rules.specs.Prune.{marks}
use Rattle.store_types.specs.Times.{last_moment}
use Rattle.wire_commands.specs.HasText.{FitsPruneRow}
use Rattle.store_model.specs.PruneJob.{item_of, rows_meant}
use Rattle.plain_lanes.proofs.PruneLemmas.{row_of, meant_is, rows_few, rows_fit}
use Rattle.plain_lanes.proofs.prune.rows_meant.Goals as goal

pub marks-requires : goal.marks-requires
marks-requires c =
    All-same (λ item. item.time ≤ last_moment) c.deref-2.result.now c.in_ok-items.items.items c.deref-2.ensures.value c.in_ok-items.ensures.times

-- the rows are those of the model
made : (c : goal.After-drop-items-2) → c.loop-snapshot.rows.items ≡ rows_meant c.args.keep.now c.args.oldest_first.items
made c =
    let keep = c.args.keep.now in
    let snapshots = c.reverse.new.self.items in
    let marked = c.in_ok-marks.marks.items in
    let ys = c.loop-snapshot.yielded in
    let road = YieldsList-from_zip (YieldsList-from_vec snapshots (cc) (cc)) (YieldsList-from_vec marked (cc) (cc)) in
    let all = YieldsList-end road ys _ c.loop-snapshot.yielded_by _ c.next.new.self c.in-None.is c.next.ensures.steps in
    let timed = c.in_ok-items.ensures.items ∙ ap (map item_of) c.deref.ensures.value in
    let is = c.in_ok-marks.ensures ∙ ap (λ xs. marks xs keep) c.deref-2.ensures.value in
    c.loop-snapshot.invariant.pushed ∙ sym (map-map row_of (λ p. (p.0, p.1)) ys) ∙ ap (map row_of) all.0
    ∙ meant_is keep c.args.oldest_first.items snapshots c.in_ok-items.items.items marked c.reverse.ensures.items timed is

pub returns-clause-rows : goal.returns-clause-rows
returns-clause-rows c = made c

pub returns-clause-count : goal.returns-clause-count
returns-clause-count c =
    let same = ap length (made c) in
    omega (arith, same, rows_few c.args.keep.now c.args.oldest_first.items)

pub returns-clause-fits : goal.returns-clause-fits
returns-clause-fits c =
    let old = c.args.oldest_first.items in
    All-same FitsPruneRow c.loop-snapshot.rows.items (rows_meant c.args.keep.now old) (made c) (rows_fit c.args.keep.now old c.requires)
