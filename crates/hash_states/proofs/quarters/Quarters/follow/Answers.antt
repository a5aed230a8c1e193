use Rattle.std.proofs.Common.{rules, ◌≡◌, List, [], slice_index_or, sym, ap, ◌∙◌, ℕ}
use Rattle.std.proofs.lemmas.Slice.Eq.{bytes_eq-Decides, slice_eq-Decides}
use Rattle.hash_states.proofs.InQuarters.{are_after, found_is}
use Rattle.hash_states.proofs.quarters.Quarters.follow.Goals as goal

pub returns-clause-only : goal.returns-clause-only
returns-clause-only c = λ equal.
    let values = c.args.self.now.values in
    let found = c.after_quarters-found.result in
    let same : found ≡ values = (slice_eq-Decides bytes_eq-Decides found values c.eq.result c.eq.ensures).0 equal in
    are_after c.args.value.now c.args.bytes.now c.quarter_len.result c.quarter_len.ensures values
    (λ j lane. ap (λ (l : List (List ℕ)). slice_index_or l j []) (sym same) ∙ c.after_quarters-found.ensures j lane)

pub returns-clause-all : goal.returns-clause-all
returns-clause-all c = λ after.
    let values = c.args.self.now.values in
    let found = c.after_quarters-found.result in
    (slice_eq-Decides bytes_eq-Decides found values c.eq.result c.eq.ensures).1
    (found_is c.args.value.now c.args.bytes.now c.quarter_len.result c.quarter_len.ensures values found (search rules) (search rules) after c.after_quarters-found.ensures)
