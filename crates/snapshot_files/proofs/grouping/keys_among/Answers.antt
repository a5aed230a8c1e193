use Rattle.std.proofs.Common.{◌++◌, ◌∷◌, [], ◌∙◌, List, ℕ, map, take, string_bytes, arith, ap, sym, subst}
use Rattle.std.specs.List.{All, filter_map, cons_option}
use Rattle.std.proofs.lemmas.List.{take_more, map_push}
use Rattle.std.proofs.lemmas.List.Elements.{All-nil, filter_map-append}
use Rattle.snapshot_files.specs.Grouped.{IsOfGroup, key_among}
use Rattle.snapshot_files.proofs.grouping.keys_among.Goals as goal

pub loop-name-init : goal.loop-name-init
loop-name-init c = record {
  value = c.new-keys.ensures.items;
  named = subst (All (IsOfGroup c.args.group.now)) (sym c.new-keys.ensures.items) (All-nil (IsOfGroup c.args.group.now));
}

pub loop-name-preserved : goal.loop-name-preserved
loop-name-preserved c =
    let i = c.loop-name.name-index in
    let xs = c.args.names.now in
    let x = c.name-item.result in
    let old = c.loop-name.keys.items in
    let named = key_among c.args.group.now in
    let inv = c.loop-name.invariant in
    let more = take_more xs i x (omega arith) ∙ ap (λ y. take i xs ++ y ∷ []) (sym c.name-item.is) in
    let names = ap (map string_bytes) more ∙ map_push string_bytes (take i xs) x in
    record {
      value =
          c.in_ok-add_key.ensures.value
          ∙ ap (λ (n : List ℕ). old ++ cons_option (named n) []) c.as_str.ensures.value
          ∙ ap (λ l. l ++ cons_option (named (string_bytes x)) []) inv.value
          ∙ sym (ap (filter_map named) names ∙ filter_map-append named (map string_bytes (take i xs)) (string_bytes x ∷ []));
      named = c.in_ok-add_key.ensures.named inv.named;
    }
