use Rattle.std.proofs.Common.{◌≡◌, ◌∙◌, sym, rules, tests}
use Rattle.std.proofs.lemmas.Iterator.{YieldsList-from_slice}
use Rattle.std.proofs.lemmas.Iterator.Search.{position_from_yields_List}
use Rattle.std.proofs.lemmas.List.{take_rest}
use Rattle.store_types.proofs.Splitting.{found_slash, parts_at, parts_none}
use Rattle.store_types.proofs.grammar.split_at_slash.Goals as goal

pub returns-in_err-at : goal.returns-in_err-at
returns-in_err-at c =
    let found : c.position.result ≡ found_slash c.args.text.now = position_from_yields_List _ _ _ c.position.result c.position.ensures.ran (YieldsList-from_slice c.args.text.now cc) (λ x b q k. search (rules, tests)) in
    rw c.from_residual.ensures (parts_none c.args.text.now (sym (c.in_err-at.was) ∙ found))

pub returns : goal.returns
returns c =
    let found : c.position.result ≡ found_slash c.args.text.now = position_from_yields_List _ _ _ c.position.result c.position.ensures.ran (YieldsList-from_slice c.args.text.now cc) (λ x b q k. search (rules, tests)) in
    rw take_rest (parts_at c.args.text.now c.in_ok-at.at (sym c.in_ok-at.was ∙ found))
