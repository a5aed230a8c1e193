use Rattle.std.proofs.Common.{◌≡◌, ◌∙◌, ◌++◌, ◌∷◌, [], Bool, true, false, refl, ◌+◌, take, arith, ap, sym}
use Rattle.std.specs.Prelude.{◌||◌}
use Rattle.std.specs.List.{filter_map, cons_option, list_any}
use Rattle.std.proofs.lemmas.List.{take_more, append-nil}
use Rattle.std.proofs.lemmas.List.Elements.{filter_map-append}
use Rattle.std.proofs.lemmas.List.Folds.{list_any-append}
use Rattle.store_model.specs.Load.{entry_snapshot}
use Rattle.plain_snapshots.specs.Loading.{is_damaged}
use Rattle.plain_snapshots.proofs.loading.whole_in.Goals as goal
use Rattle.plain_snapshots.proofs.loading.whole_in.Goals.{in-Some+in_ok-push, in_default}

or_false : (b : Bool) → (b || false) ≡ b
or_false true = refl
or_false false = refl

pub loop-stored-preserved : goal.loop-stored-preserved
loop-stored-preserved c =
    let all = c.args.folder.now in
    let xs = c.as_slice-stored-items.result.now in
    let i = c.loop-stored.stored-index in
    let x = c.stored-item.result in
    let found = c.in_ok-found.ensures in
    let more = take_more xs i x (omega arith) ∙ ap (λ y. take i xs ++ y ∷ []) (sym c.stored-item.is) in
    let before = filter_map (entry_snapshot all) (take i xs) in
    let step = ap (filter_map (entry_snapshot all)) more ∙ filter_map-append (entry_snapshot all) (take i xs) (x ∷ []) in
    let told = ap (list_any (is_damaged all)) more ∙ list_any-append (is_damaged all) (take i xs) (x ∷ []) in
    let snapshots : c.match-found.snapshots.items ≡ filter_map (entry_snapshot all) (take (i + 1) xs) =
    elim c.match-found.branch [
      | in-Some+in_ok-push w ↦
          ap (λ v. v.items) w.snapshots-is ∙ w.in_ok-push.ensures.items ∙ ap (λ l. l ++ w.in-Some.snapshot ∷ []) c.loop-stored.invariant.0
          ∙ sym (step ∙ ap (λ o. before ++ cons_option o []) (sym found.snapshot ∙ w.in-Some.is))
      | in_default w ↦
          ap (λ v. v.items) w.snapshots-is ∙ c.loop-stored.invariant.0
          ∙ sym (step ∙ ap (λ o. before ++ cons_option o []) (sym found.snapshot ∙ w.in_default.is) ∙ append-nil before)
    ] in (
      snapshots,
      ap (λ b. b || c.in_ok-found.is_damaged) c.loop-stored.invariant.1
          ∙ ap (λ b. list_any (is_damaged all) (take i xs) || b) (found.damaged ∙ sym (or_false (is_damaged all x)))
          ∙ sym told,
    )
