use Rattle.std.proofs.Common.{◌≡◌, ◌<◌, ◌∙◌, ℕ, List, length, get_or, min, take, refl, sym, ap, subst, rules, arith}
use Rattle.std.specs.List.{All}
use Rattle.std.proofs.lemmas.Bool.{and_parts}
use Rattle.std.proofs.lemmas.List.{get_or-take, length-take}
use Rattle.std.proofs.lemmas.List.Elements.{All-push}
use Rattle.store_types.specs.Names.{IsKey, key_text}
use Rattle.core_state.specs.declared.kept.Listed.{Listed}
use Rattle.core_state.specs.Named.{has_text, is_named_snapshot, is_short_name}
use Rattle.core_state.proofs.NamedLemmas.{is_key, list_all-at}
use Rattle.snapshot_files.proofs.PathLengths.{key_short}
use Rattle.core_admin.specs.Listings.{IsShort}
use Rattle.core_admin.proofs.Filtering.{mapped_all, mapped_more}
use Rattle.core_admin.proofs.groups.texts_of.Goals as goal

abbrev text_kept : Listed → List ℕ
text_kept x = key_text (x.kept).key

pub loop-snapshot-preserved : goal.loop-snapshot-preserved
loop-snapshot-preserved c =
    let xs = c.args.listed.now in
    let m = c.min.result in
    let i = c.loop-snapshot.snapshot-index in
    let x = c.snapshot-item.result in
    let old = c.loop-snapshot.texts.items in
    let text = c.from_vec.result in
    let within : i < length (take m xs) = omega arith in
    let count : length (take m xs) ≡ min m (length xs) = length-take m xs in
    let at : x ≡ get_or xs i x = c.snapshot-item.is ∙ get_or-take m xs i x (omega (arith, within, count)) in
    let named = list_all-at is_named_snapshot xs i x c.requires (omega (arith, within, count)) at in
    let key : IsKey (x.kept).key = is_key (x.kept).key (and_parts (has_text (x.kept).key) (is_short_name (x.kept).unreadable) named).0 in
    let printed : text ≡ text_kept x = search rules in
    let pushed = c.in_ok-push.ensures.items in
    let short : IsShort text = omega (arith, ap length printed, key_short (x.kept).key key) in
    record {
      found = mapped_more text_kept (take m xs) i x old c.push.new.self.items text within c.snapshot-item.is c.loop-snapshot.invariant.found printed pushed;
      short = subst (λ (l : List (List ℕ)). All IsShort l) (sym pushed) (All-push IsShort old text c.loop-snapshot.invariant.short short);
    }

pub returns-clause-value : goal.returns-clause-value
returns-clause-value c =
    let xs = c.args.listed.now in
    let m = c.min.result in
    c.from_vec-2.ensures ∙ mapped_all text_kept xs (take m xs) 4096 c.loop-snapshot.snapshot-index m c.loop-snapshot.texts.items c.loop-snapshot.invariant.found refl (omega arith) (search rules)
