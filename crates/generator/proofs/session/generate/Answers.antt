use Rattle.std.proofs.Common.{◌≡◌, ◌++◌, [], false, nat_eq, sym, ap, ◌∙◌, rules}
use Rattle.generator.specs.Sessions.{collections, backups, upkeep, input_of}
use Rattle.generator.proofs.SessionLemmas.{both_put, first_session, later_session}
use Rattle.generator.proofs.session.generate.Goals as goal

pub returns-then-k-eq0 : goal.returns-then-k-eq0
returns-then-k-eq0 c =
    c.in_ok-put_collections.ensures ∙ ap (λ t. t ++ input_of collections) c.new-input.ensures.items
    ∙ ap input_of (sym (first_session c.args.k c.if-k-eq0.true))

pub returns : goal.returns
returns c =
    let k = c.args.k in
    let later : nat_eq k 0 ≡ false = search rules in
    let start : c.reserve_exact.new.self.items ≡ [] = c.in_ok-reserve_exact.ensures.items ∙ c.new-input.ensures.items in
    let first = c.in_ok-put_backups.ensures ∙ ap (λ t. t ++ input_of (backups k)) start in
    both_put [] _ c.put_upkeep.new.input.items (backups k) (upkeep k) first c.in_ok-put_upkeep.ensures ∙ ap input_of (sym (later_session k later))
