use Rattle.std.proofs.Common.{◌≡◌, ◌++◌, map, true, sym, ap, subst, ◌∙◌}
use Rattle.std.proofs.lemmas.Map.Iter.{rest_more, rest_all}
use Rattle.core_opening.specs.Opening.{stored_at, stored_names_rise}
use Rattle.core_opening.proofs.Naming.{rise_stored_at, stored_more, stored_all}
use Rattle.core_opening.proofs.cataloguing.files_of.Goals as goal

pub loop-name-init : goal.loop-name-init
loop-name-init c =
    ap (λ fs. fs ++ map (stored_at c.args.key.now) c.into_iter-name-iterator.result) c.new-files.ensures.items
    ∙ ap (map (stored_at c.args.key.now)) c.into_iter-name-iterator.ensures.into_iter_gives.0

pub loop-name-preserved : goal.loop-name-preserved
loop-name-preserved c =
    stored_more c.args.key.now c.loop-name.files.items c.push.new.self.items _ c.in-Some.name c.in_ok-path.path c.loop-name.name-iterator c.next.new.self c.in_ok-path.ensures c.in_ok-push.ensures.items
    (rest_more (λ x. x) c.loop-name.name-iterator c.next.new.self c.next.result c.in-Some.name c.in-Some.is c.next.ensures.steps) c.loop-name.invariant

pub returns-clause-files : goal.returns-clause-files
returns-clause-files c =
    stored_all c.args.key.now c.loop-name.files.items _ c.loop-name.name-iterator (rest_all (λ x. x) c.loop-name.name-iterator c.next.new.self c.next.result c.in-None.is c.next.ensures.steps) c.loop-name.invariant

pub returns-clause-order : goal.returns-clause-order
returns-clause-order c =
    subst (λ fs. stored_names_rise fs ≡ true)
    (sym (stored_all c.args.key.now c.loop-name.files.items _ c.loop-name.name-iterator (rest_all (λ x. x) c.loop-name.name-iterator c.next.new.self c.next.result c.in-None.is c.next.ensures.steps) c.loop-name.invariant))
    (rise_stored_at c.args.key.now c.args.names.keys c.into_iter-name-iterator.ensures.into_iter_gives.4)
