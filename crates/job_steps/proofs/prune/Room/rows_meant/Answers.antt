use Rattle.std.proofs.Common.{◌≡◌, ◌≤◌, [], ◌++◌, map, reverse, ap, ◌∙◌}
use Rattle.std.proofs.lemmas.List.{with_items_is}
use Rattle.std.proofs.lemmas.List.Elements.{All-same}
use Rattle.store_types.specs.Times.{last_moment}
use Rattle.store_model.specs.PruneJob.{item_of}
use Rattle.job_steps.proofs.ItemLemmas.{none, times_bounded, rows_by}
use Rattle.job_steps.proofs.prune.Room.rows_meant.Goals as goal

pub marks_into-requires-clause-times : goal.marks_into-requires-clause-times
marks_into-requires-clause-times c =
    let empty : c.args.self.items.items ≡ [] = none c.args.self.items.items (cc (c.args.self.no_items, c.args.self.items.ok.0)) in
    let items : c.deref-2.result.now ≡ map item_of c.deref.result.now =
    c.deref-2.ensures.value ∙ c.push_items.ensures ∙ ap (λ xs. xs ++ map item_of c.deref.result.now) empty in
    All-same (λ item. item.time ≤ last_moment) c.deref-2.result.now (map item_of c.deref.result.now) items (times_bounded c.deref.result.now)

pub returns : goal.returns
returns c =
    let no_items : c.args.self.items.items ≡ [] = none c.args.self.items.items (cc (c.args.self.no_items, c.args.self.items.ok.0)) in
    let no_rows : c.args.self.rows.items ≡ [] = none c.args.self.rows.items (cc (c.args.self.no_rows, c.args.self.rows.ok.0)) in
    let timed : c.deref-2.result.now ≡ map item_of c.reverse.new.self.items =
    c.deref-2.ensures.value ∙ c.push_items.ensures ∙ ap (λ xs. xs ++ map item_of c.deref.result.now) no_items ∙ ap (map item_of) c.deref.ensures.value in
    let marked : c.deref-3.result.now ≡ c.marks_into.new.into =
    c.deref-3.ensures.value ∙ with_items_is c.truncate-2.new.self c.marks_into.new.into (cc (c.marks_into.auto.into, c.deref_mut-2.ensures.len)) in
    rows_by c.args.keep.now c.args.oldest_first c.reverse.new.self.items c.deref-2.result.now c.deref-3.result.now c.args.self.rows.items c.push_rows.new.rows.items
    (c.reverse.ensures.items ∙ ap reverse c.into_vec-snapshots.ensures) timed (marked ∙ c.marks_into.ensures) no_rows c.push_rows.ensures
