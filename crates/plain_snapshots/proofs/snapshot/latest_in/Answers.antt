use Rattle.std.proofs.Common.{◌∙◌, ◌++◌, ◌∷◌, [], take, arith, sym, ap, Some}
use Rattle.std.specs.Prelude.{option_map}
use Rattle.std.proofs.lemmas.Bool.{cond-true, cond-false}
use Rattle.std.proofs.lemmas.List.{take_more}
use Rattle.store_types.specs.Names.{group_of_key}
use Rattle.store_files.specs.Archive.{Snapshot}
use Rattle.store_model.specs.Store.{latest_in}
use Rattle.plain_snapshots.proofs.Order.{latest_in-push}
use Rattle.plain_snapshots.proofs.snapshot.latest_in.Goals as goal
use Rattle.plain_snapshots.proofs.snapshot.latest_in.Goals.{then-is_of_group, else-is_of_group}

pub loop-snapshot-preserved : goal.loop-snapshot-preserved
loop-snapshot-preserved c =
    let group = group_of_key c.args.key.now in
    let xs = c.args.snapshots.now in
    let i = c.loop-snapshot.snapshot-index in
    let x = c.snapshot-item.result in
    let more = take_more xs i x (omega arith) ∙ ap (λ y. take i xs ++ y ∷ []) (sym c.snapshot-item.is) in
    let step = ap (latest_in group) more ∙ latest_in-push group (take i xs) x in
    elim c.if-is_of_group.branch [
      | then-is_of_group w ↦ ap (λ o. option_map (λ latest. latest.now) o) w.latest-is ∙ ap (λ (y : Snapshot). Some y.key) c.snapshot.view_is ∙ sym (step ∙ cond-true _ _ _ (sym c.is_of_group.ensures ∙ w.if-is_of_group.true))
      | else-is_of_group w ↦ ap (λ o. option_map (λ latest. latest.now) o) w.latest-is ∙ c.loop-snapshot.invariant ∙ sym (step ∙ cond-false _ _ _ (sym c.is_of_group.ensures ∙ w.if-is_of_group.false))
    ]
