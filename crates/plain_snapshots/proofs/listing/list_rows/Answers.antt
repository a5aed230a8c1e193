use Rattle.std.proofs.Common.{◌∙◌, ◌++◌, ◌∷◌, [], List, map, ap, sym, subst, rules, tests}
use Rattle.std.specs.Prelude.{All, option_map}
use Rattle.std.proofs.lemmas.Iterator.{YieldsList-from_slice, YieldsList-from_take}
use Rattle.std.proofs.lemmas.Iterator.Consumers.{YieldsList-at, YieldsList-from_filter, YieldsList-end}
use Rattle.std.proofs.lemmas.List.{map-append}
use Rattle.std.proofs.lemmas.List.Elements.{All-push}
use Rattle.wire_commands.specs.declared.rows.ListRow.{ListRow}
use Rattle.wire_commands.specs.HasText.{FitsListRow}
use Rattle.store_model.specs.AdminSteps.{list_row, is_after}
use Rattle.plain_snapshots.proofs.Telling.{map-map}
use Rattle.plain_snapshots.proofs.listing.list_rows.Goals as goal

pub loop-snapshot-preserved : goal.loop-snapshot-preserved
loop-snapshot-preserved c =
    let rows = c.loop-snapshot.rows.items in
    let row = c.in_ok-list_row.field-0 in (
      c.in_ok-push.ensures.items ∙ ap (λ l. l ++ row ∷ []) c.loop-snapshot.invariant.0
          ∙ ap (λ r. map (λ x. list_row x.now) c.loop-snapshot.yielded ++ r ∷ []) c.in_ok-list_row.ensures.row
          ∙ sym (map-append (λ x. list_row x.now) c.loop-snapshot.yielded (c.in-Some.snapshot ∷ [])),
      subst (λ (l : List ListRow). All FitsListRow l) (sym c.in_ok-push.ensures.items) (All-push FitsListRow rows row c.loop-snapshot.invariant.1 c.in_ok-list_row.ensures.fits),
    )

pub returns-clause-rows : goal.returns-clause-rows
returns-clause-rows c =
    let t = YieldsList-end
    (YieldsList-from_take 1024
    (YieldsList-at {t = c.filter-later.result} (cc) (YieldsList-from_filter _ (is_after (option_map (λ key. key.now) c.args.after)) (YieldsList-at {t = c.iter.result} (cc) (YieldsList-from_slice c.args.snapshots.now (cc)))
    c.filter-later.ensures.closure (λ x b q k. search (rules, tests)))) (cc))
    c.loop-snapshot.yielded _ c.loop-snapshot.yielded_by _ _ c.in-None.is c.next.ensures.steps in
    c.loop-snapshot.invariant.0 ∙ map-map list_row (λ x. x.now) c.loop-snapshot.yielded ∙ ap (map list_row) t.0
