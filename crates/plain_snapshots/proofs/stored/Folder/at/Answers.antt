use Rattle.std.proofs.Common.{◌∙◌, List, ℕ, Ok, Err, Some, sym, ap, subst, rules, tests}
use Rattle.std.specs.FinMap.{find}
use Rattle.std.specs.List.Sorted.{IsBinarySearchResult, IsSearchInRange}
use Rattle.std.proofs.lemmas.List.{get_or_read}
use Rattle.std.proofs.lemmas.Fn.{always_returns_same}
use Rattle.std.specs.Prelude.{length}
use Rattle.store_types.specs.Names.{text_cmp}
use Rattle.plain_snapshots.proofs.Searching.{searched}
use Rattle.plain_snapshots.proofs.stored.Folder.at.Goals as goal

pub returns-in-Ok : goal.returns-in-Ok
returns-in-Ok c =
    let xs = c.self.inside.files.items in
    let name = c.args.name.now in
    let i = c.in-Ok.place in
    let x = c.index.result.now in
    let within = subst (λ (l : List (List ℕ × List ℕ)). IsSearchInRange (Ok i) (length l)) c.deref.ensures.value c.in-Ok.ensures.bound in
    let ends = c.in-Ok.ensures.position (λ y. text_cmp y.0 name) (always_returns_same _ _ _ (λ a r q k. search (rules, tests))) in
    let there = subst (λ (l : List (List ℕ × List ℕ)). IsBinarySearchResult (λ y. text_cmp y.0 name) l (Ok i)) c.deref.ensures.value ends in
    ap (λ (e : List ℕ × List ℕ). Some e.1) (get_or_read xs i x within c.index.ensures x) ∙ sym (searched xs name (Ok i) c.self.invariant within there x)
    ∙ ap (find text_cmp name) c.self.view_is

pub returns-in-Err : goal.returns-in-Err
returns-in-Err c =
    let xs = c.self.inside.files.items in
    let name = c.args.name.now in
    let i = c.in-Err.field-0 in
    let within = subst (λ (l : List (List ℕ × List ℕ)). IsSearchInRange (Err i) (length l)) c.deref.ensures.value c.in-Err.ensures.bound in
    let ends = c.in-Err.ensures.position (λ y. text_cmp y.0 name) (always_returns_same _ _ _ (λ a r q k. search (rules, tests))) in
    let there = subst (λ (l : List (List ℕ × List ℕ)). IsBinarySearchResult (λ y. text_cmp y.0 name) l (Err i)) c.deref.ensures.value ends in
    sym (searched xs name (Err i) c.self.invariant within there) ∙ ap (find text_cmp name) c.self.view_is
