use Rattle.std.proofs.Common.{◌∙◌, map, ap, rules, tests}
use Rattle.std.proofs.lemmas.Iterator.{YieldsList-from_slice, YieldsList-from_take}
use Rattle.std.proofs.lemmas.Iterator.Consumers.{YieldsList-at, YieldsList-from_filter, YieldsList-end}
use Rattle.store_types.specs.Names.{same_group, group_of_key, key_text}
use Rattle.store_files.specs.Archive.{Snapshot}
use Rattle.plain_snapshots.proofs.Telling.{map-map, texts_are}
use Rattle.plain_snapshots.proofs.listing.group_texts.Goals as goal

pub returns-clause-texts : goal.returns-clause-texts
returns-clause-texts c =
    let t = YieldsList-end
    (YieldsList-from_take 4096
    (YieldsList-at {t = c.filter-members.result} (cc) (YieldsList-from_filter _ (λ (x : Snapshot). same_group (group_of_key x.key) c.args.group.now) (YieldsList-at {t = c.iter.result} (cc) (YieldsList-from_slice c.args.snapshots.now (cc)))
    c.filter-members.ensures.closure (λ x b q k. search (rules, tests)))) (cc))
    c.loop-snapshot.yielded _ c.loop-snapshot.yielded_by _ _ c.in-None.is c.next.ensures.steps in
    c.loop-snapshot.invariant.0 ∙ map-map (λ (x : Snapshot). key_text x.key) (λ x. x.now) c.loop-snapshot.yielded ∙ ap (map (λ (x : Snapshot). key_text x.key)) t.0
    ∙ texts_are c.args.group.now c.args.snapshots.now
