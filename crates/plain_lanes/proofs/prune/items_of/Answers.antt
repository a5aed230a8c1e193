use Rattle.std.proofs.Common.{◌≡◌, ◌≤◌, ◌∙◌, ◌∷◌, [], ◌++◌, ◌+◌, map, take, ap, sym, arith}
use Rattle.std.proofs.lemmas.List.{take_more, map-append}
use Rattle.std.proofs.lemmas.List.Elements.{All-push, All-same}
use Rattle.store_types.specs.Times.{last_moment}
use Rattle.prune_rules.specs.declared.Item.{Item}
use Rattle.store_model.specs.PruneJob.{item_of}
use Rattle.plain_lanes.proofs.prune.items_of.Goals as goal

pub loop-snapshot-preserved : goal.loop-snapshot-preserved
loop-snapshot-preserved c =
    let xs = c.args.snapshots.now in
    let i = c.loop-snapshot.snapshot-index in
    let x = c.snapshot-item.result in
    let item = c.in_ok-item_of.field-0 in
    let before = c.loop-snapshot.items.items in
    let pushed : c.push.new.self.items ≡ before ++ item ∷ [] = c.in_ok-push.ensures.items in
    let more : take (i + 1) xs ≡ take i xs ++ x ∷ [] = take_more xs i x (omega arith) ∙ ap (λ y. take i xs ++ y ∷ []) (sym c.snapshot-item.is) in
    let mapped : map item_of (take (i + 1) xs) ≡ map item_of (take i xs) ++ item_of x ∷ [] = ap (map item_of) more ∙ map-append item_of (take i xs) (x ∷ []) in
    let same : before ++ item ∷ [] ≡ map item_of (take i xs) ++ item_of x ∷ [] =
    ap (λ l. l ++ item ∷ []) c.loop-snapshot.invariant.0 ∙ ap (λ r. map item_of (take i xs) ++ r ∷ []) c.in_ok-item_of.ensures.item in (
      pushed ∙ same ∙ sym mapped,
      All-same (λ (y : Item). y.time ≤ last_moment) c.push.new.self.items (before ++ item ∷ []) pushed
          (All-push (λ (y : Item). y.time ≤ last_moment) before item c.loop-snapshot.invariant.1 c.in_ok-item_of.ensures.time),
    )
