use Rattle.std.proofs.Common.{◌≡◌, ◌∙◌, ◌++◌, ◌∷◌, [], ℕ, Bool, true, false, not, List, Option, take, arith, sym, ap}
use Rattle.std.specs.Prelude.{is_none, is_some, option_map}
use Rattle.std.proofs.lemmas.Bool.{cond-true, cond-false}
use Rattle.std.proofs.lemmas.List.{take_all, take_more}
use Rattle.core_state.specs.Found.{is_whole}
use Rattle.core_state.proofs.CatalogueLemmas.{whole_at, whole_in, whole_in-push, whole_key}
use Rattle.core_state.proofs.catalogue.Catalogue.latest_whole.Goals as goal
use Rattle.core_state.proofs.catalogue.Catalogue.latest_whole.Goals.{then-is_none, else-is_none}

whole_by : (o : Option (List ℕ)) (b : Bool) → is_some o ≡ not b → is_none o ≡ b
whole_by o true e = ap not e
whole_by o false e = ap not e

pub loop-listed-preserved : goal.loop-listed-preserved
loop-listed-preserved c =
    let xs = c.group-listed-items.result.now in
    let i = c.loop-listed.listed-index in
    let x = c.listed-item.result in
    let more = take_more xs i x (omega arith) ∙ ap (λ y. take i xs ++ y ∷ []) (sym c.listed-item.is) in
    let step = ap whole_in more ∙ whole_in-push (take i xs) x in
    let whole : is_whole x.kept ≡ c.is_none.result = whole_by (x.kept).unreadable c.is_none.result c.is_none.ensures in
    elim c.if-is_none.branch [
      | then-is_none w ↦ ap (λ o. option_map (λ whole. whole.now) o) w.whole-is ∙ sym (step ∙ cond-true _ _ _ (whole ∙ w.if-is_none.true))
      | else-is_none w ↦ ap (λ o. option_map (λ whole. whole.now) o) w.whole-is ∙ c.loop-listed.invariant ∙ sym (step ∙ cond-false _ _ _ (whole ∙ w.if-is_none.false))
    ]

pub returns-clause-value : goal.returns-clause-value
returns-clause-value c =
    let xs = c.group-listed-items.result.now in
    c.loop-listed.invariant ∙ ap whole_in (take_all c.loop-listed.listed-index xs (omega arith)) ∙ whole_at c.args.group.now c.args.self.now.listed xs c.group-listed-items.ensures.value

pub returns-clause-grammar : goal.returns-clause-grammar
returns-clause-grammar c =
    let xs = c.group-listed-items.result.now in
    let value : option_map (λ k. k.now) c.loop-listed.whole ≡ whole_in xs = c.loop-listed.invariant ∙ ap whole_in (take_all c.loop-listed.listed-index xs (omega arith)) in
    λ k is. whole_key xs k.now c.group-listed-items.ensures.named (sym value ∙ ap (option_map (λ k. k.now)) is)
