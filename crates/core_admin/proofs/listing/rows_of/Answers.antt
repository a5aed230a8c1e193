use Rattle.std.proofs.Common.{◌<◌, ◌∙◌, List, length, take, refl, sym, subst, rules, arith}
use Rattle.std.specs.List.{All}
use Rattle.std.proofs.lemmas.List.Elements.{All-push}
use Rattle.wire_commands.specs.declared.rows.ListRow.{ListRow}
use Rattle.core_state.specs.declared.kept.Listed.{Listed}
use Rattle.core_admin.specs.Listings.{IsListable, row_of}
use Rattle.core_admin.proofs.Filtering.{mapped_all, mapped_more}
use Rattle.core_admin.proofs.listing.rows_of.Goals as goal

abbrev row_kept : Listed → ListRow
row_kept x = row_of x.kept

pub loop-snapshot-preserved : goal.loop-snapshot-preserved
loop-snapshot-preserved c =
    let xs = c.args.listed.now in
    let m = c.min.result in
    let i = c.loop-snapshot.snapshot-index in
    let x = c.snapshot-item.result in
    let old = c.loop-snapshot.rows.items in
    let row = c.in_ok-row_of.field-0 in
    let within : i < length (take m xs) = omega arith in
    let pushed = c.in_ok-push.ensures.items in
    record {
      found = mapped_more row_kept (take m xs) i x old c.push.new.self.items row within c.snapshot-item.is c.loop-snapshot.invariant.found c.in_ok-row_of.ensures.value pushed;
      listable = subst (λ (l : List ListRow). All IsListable l) (sym pushed) (All-push IsListable old row c.loop-snapshot.invariant.listable c.in_ok-row_of.ensures.listable);
    }

pub returns-clause-value : goal.returns-clause-value
returns-clause-value c =
    let xs = c.args.listed.now in
    let m = c.min.result in
    c.from_vec.ensures ∙ mapped_all row_kept xs (take m xs) 1024 c.loop-snapshot.snapshot-index m c.loop-snapshot.rows.items c.loop-snapshot.invariant.found refl (omega arith) (search rules)
