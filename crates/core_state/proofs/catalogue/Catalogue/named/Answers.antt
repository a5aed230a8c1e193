use Rattle.std.proofs.Common.{◌≡◌, ◌<◌, ◌≤◌, ◌∙◌, true, false, length, get_or, Some, None, sym, ap, subst, rules, arith}
use Rattle.std.proofs.lemmas.Option.{slice_get-get_or, slice_get_past}
use Rattle.std.specs.Prelude.{AllPairs, option_map, slice_get}
use Rattle.std.specs.List.{list_all}
use Rattle.std.proofs.lemmas.List.Sorted.{IsPartitionPoint-from_clause}
use Rattle.core_state.specs.Catalogued.{NotBehind}
use Rattle.core_state.specs.Found.{kept_named}
use Rattle.core_state.specs.Named.{is_named_snapshot}
use Rattle.core_state.proofs.CatalogueLemmas.{found_short}
use Rattle.core_state.proofs.OrderLemmas.{below, below_divides, kept_another, kept_nowhere, kept_there, named_at, with_key}
use Rattle.core_state.proofs.catalogue.Catalogue.named.Goals as goal
use Rattle.core_state.proofs.catalogue.Catalogue.named.Goals.{in_default-via-in-Some+else-eq, in_default-via-in_default}

pub returns-in-Some-clause-value : goal.returns-in-Some-clause-value
returns-in-Some-clause-value c =
    let key = c.args.key.now in
    let xs = c.as_slice-listed.result.now in
    let i = c.partition_point-place.result in
    let up = subst (AllPairs NotBehind) (sym c.as_slice-listed.ensures.value) c.self.invariant.order in
    let point = IsPartitionPoint-from_clause (below key) xs i c.partition_point-place.ensures.partitioned (below_divides key xs up) (λ a r q k. search rules) in
    let lt : i < length xs = search (rules, arith) in
    let is : c.in-Some.found.now ≡ get_or xs i c.in-Some.found.now = search rules in
    let found : slice_get xs i ≡ Some c.in-Some.found.now = slice_get-get_or xs i c.in-Some.found.now lt ∙ ap (λ x. Some x) (sym is) in
    let has : with_key key c.in-Some.found.now ≡ true = search rules in
    kept_there key xs (slice_get xs i) c.in-Some.found.now (named_at key xs i up c.partition_point-place.ensures.bound point) found has
    ∙ ap (kept_named key) (c.as_slice-listed.ensures.value ∙ ap (λ v. v.listed) c.self.view_is)

pub returns-in-Some-clause-short : goal.returns-in-Some-clause-short
returns-in-Some-clause-short c = λ k is.
    found_short c.args.self.now.listed c.args.key.now k.now (subst (λ v. list_all is_named_snapshot v.listed ≡ true) c.self.view_is c.self.invariant.named)
    (sym (returns-in-Some-clause-value c) ∙ ap (option_map (λ k. k.now)) is)

pub returns-in_default-clause-value : goal.returns-in_default-clause-value
returns-in_default-clause-value c =
    let key = c.args.key.now in
    let xs = c.as_slice-listed.result.now in
    let i = c.partition_point-place.result in
    let up = subst (AllPairs NotBehind) (sym c.as_slice-listed.ensures.value) c.self.invariant.order in
    let point = IsPartitionPoint-from_clause (below key) xs i c.partition_point-place.ensures.partitioned (below_divides key xs up) (λ a r q k. search rules) in
    let at = named_at key xs i up c.partition_point-place.ensures.bound point in
    elim c.in_default.branch [
      | in_default-via-in-Some+else-eq w ↦
          let lt : i < length xs = search (rules, arith) in
          let is : w.in-Some.found.now ≡ get_or xs i w.in-Some.found.now = search rules in
          let found : slice_get xs i ≡ Some w.in-Some.found.now = slice_get-get_or xs i w.in-Some.found.now lt ∙ ap (λ x. Some x) (sym is) in
          let other : with_key key w.in-Some.found.now ≡ false = search rules in
          kept_another key xs (slice_get xs i) w.in-Some.found.now at found other
      | in_default-via-in_default w ↦
          let past : length xs ≤ i = search (rules, arith) in
          let none : slice_get xs i ≡ None = slice_get_past xs i past in
          kept_nowhere key xs (slice_get xs i) at none
    ]
    ∙ ap (kept_named key) (c.as_slice-listed.ensures.value ∙ ap (λ v. v.listed) c.self.view_is)
